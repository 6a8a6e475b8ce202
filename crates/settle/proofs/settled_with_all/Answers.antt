use Rattle.std.proofs.Common.{ap, ◌∙◌, subst}
use Rattle.layout.specs.Reading.{table_in}
use Rattle.layout.specs.Table.{Declared}
use Rattle.network.specs.Running.{rule_of, state_of}
use Rattle.network.specs.Settled.{state_of as settled_state}
use Rattle.protocol.specs.Network.{State}
use Rattle.settle.specs.Report.{AllInjected}
use Rattle.settle.proofs.Settling.{loaded_is, still_injected}
use Rattle.settle.proofs.settled_with_all.Goals as goal

pub returns : goal.returns
returns g c =
    let begun = c.new-network.result in
    let loaded = loaded_is (g.R.Rule.kept (rule_of begun)) (state_of begun) (state_of c.load.new.self) (table_in c.args.bytes.now) c.in_ok-load.ensures.value in
    let s = state_of c.inject_all.new.network in
    let all = subst (λ (t : Declared). AllInjected t s) (ap (λ (s : State). s.table) loaded.2) c.inject_all.ensures.all in
    let still = still_injected loaded.0 s (settled_state c.settle.result) all c.settle.ensures.table c.settle.ensures.injected in
    (loaded.0, loaded.1, still, c.settle.ensures.rule ∙ c.inject_all.ensures.rule ∙ c.load.ensures.rule ∙ c.new-network.ensures.rule)
