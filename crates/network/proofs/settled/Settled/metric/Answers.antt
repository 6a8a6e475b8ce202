use Rattle.std.proofs.Common.{◌≡◌, None}
use Rattle.std.specs.Prelude.{◌↔◌}
use Rattle.sets.specs.Members.{Empty}
use Rattle.network.specs.Settled.{state_of}
use Rattle.protocol.specs.Packets.{best_of}
use Rattle.calls.specs.Calls.{metric_of}
use Rattle.calls.proofs.Refusing.{both}
use Rattle.calls.proofs.Tracing.{best_nowhere}
use Rattle.network.proofs.Answering.{if_declared, metric_none}
use Rattle.network.proofs.Whole.{fits_of}
use Rattle.network.proofs.settled.Settled.metric.Goals as goal

pub returns-clause-none : goal.returns-clause-none
returns-clause-none g c =
    let n = c.args.self.now in
    let s = state_of n in
    let v = c.args.router in
    let laws = g.R.Rule.laws n.running.rule in
    if_declared (λ metric. (metric ≡ None) ↔ Empty s.injected) s v (metric_of s v (best_of s v)) c.metric.ensures.value
    (λ below. both (metric_none s v (best_of s v)) (best_nowhere laws s (fits_of laws n.running.held.peering, n.running.consistent) n.at_rest v below))
