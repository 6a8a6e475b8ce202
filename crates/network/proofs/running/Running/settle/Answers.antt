use Rattle.std.proofs.Common.{length, sym, ap, ◌∙◌, subst}
use Rattle.protocol.specs.Moves.{all_of}
use Rattle.protocol.specs.Network.{State}
use Rattle.protocol.specs.Settled.{Settled}
use Rattle.protocol.proofs.Running.{same_table}
use Rattle.protocol.proofs.Stretches.{same_injected}
use Rattle.calls.proofs.Staying.{settle_settles}
use Rattle.network.specs.Running.{state_of}
use Rattle.network.proofs.Whole.{fits_of}
use Rattle.network.proofs.running.Running.settle.Goals as goal

pub invariant_of-result : goal.invariant_of-result
invariant_of-result g c =
    let n = c.args.self in
    let laws = g.R.Rule.laws n.rule in
    let settled = settle_settles laws (state_of n) (fits_of laws n.held.peering, n.consistent) in
    record {
      at_rest = subst (λ r. Settled (g.R.Rule.kept r) (state_of c.rounds.new.self)) (sym c.rounds.ensures.rule) (subst (Settled (g.R.Rule.kept n.rule)) (sym c.rounds.ensures.state) settled);
    }

pub returns-clause-settled : goal.returns-clause-settled
returns-clause-settled g c =
    let n = c.args.self in
    let laws = g.R.Rule.laws n.rule in
    subst (Settled (g.R.Rule.kept n.rule)) (sym c.rounds.ensures.state) (settle_settles laws (state_of n) (fits_of laws n.held.peering, n.consistent))

pub returns-clause-table : goal.returns-clause-table
returns-clause-table g c =
    let s = state_of c.args.self in
    ap (λ (x : State). x.table) c.rounds.ensures.state ∙ same_table (g.R.Rule.kept c.args.self.rule) (all_of (length s.table.routers) 7) s

pub returns-clause-injected : goal.returns-clause-injected
returns-clause-injected g c =
    let s = state_of c.args.self in
    ap (λ (x : State). x.injected) c.rounds.ensures.state ∙ same_injected (g.R.Rule.kept c.args.self.rule) (all_of (length s.table.routers) 7) s
