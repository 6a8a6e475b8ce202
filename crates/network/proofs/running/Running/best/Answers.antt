use Rattle.std.proofs.Common.{◌≡◌, None, sym, ap, ◌∙◌}
use Rattle.std.specs.Prelude.{◌↔◌}
use Rattle.distances.specs.Answered.{declared_by}
use Rattle.protocol.specs.Packets.{best_of}
use Rattle.sets.specs.Members.{Empty}
use Rattle.calls.proofs.Tracing.{best_nowhere}
use Rattle.network.specs.Held.{table_of}
use Rattle.network.specs.Running.{state_of}
use Rattle.network.proofs.Answering.{router_refuses, best_answers, only_best, if_declared}
use Rattle.network.proofs.Whole.{fits_of}
use Rattle.network.proofs.running.Running.best.Goals as goal

pub returns-clause-value : goal.returns-clause-value
returns-clause-value g c =
    let s = state_of c.args.self.now in
    c.best.ensures.value
    ∙ best_answers (g.R.Rule.laws c.args.self.now.rule) {s = s} c.args.self.now.consistent (ap declared_by c.distances.ensures ∙ sym (ap table_of c.in-Some.is)) c.args.router c.advertises.ensures

pub returns-clause-only : goal.returns-clause-only
returns-clause-only g c = only_best (state_of c.args.self.now) c.args.router (returns-clause-value g c)

pub returns-clause-none : goal.returns-clause-none
returns-clause-none g c at_rest =
    let n = c.args.self.now in
    let s = state_of n in
    let laws = g.R.Rule.laws n.rule in
    if_declared (λ path. (path ≡ None) ↔ Empty s.injected) s c.args.router (best_of s c.args.router) (returns-clause-value g c)
    (λ below. best_nowhere laws s (fits_of laws n.held.peering, n.consistent) at_rest c.args.router below)

pub returns-clause-refuses : goal.returns-clause-refuses
returns-clause-refuses g c = let s = state_of c.args.self.now in router_refuses s c.args.router (best_of s c.args.router) (returns-clause-value g c)
