use Rattle.std.proofs.Common.{length, ◌∙◌}
use Rattle.protocol.proofs.Leaving.{all_leave}
use Rattle.calls.proofs.Tracing.{traced_way, trace_nowhere}
use Rattle.network.specs.Settled.{state_of}
use Rattle.network.proofs.Traced.{traces, traces_bytes}
use Rattle.network.proofs.Whole.{fits_of}
use Rattle.network.proofs.settled.Settled.trace.Goals as goal

pub returns-clause-value : goal.returns-clause-value
returns-clause-value g c =
    c.way_from.ensures.value ∙ traces (g.R.Rule.kept c.args.self.now.running.rule) (state_of c.args.self.now) c.args.self.now.at_rest c.args.router (length c.args.met.now)

pub returns-clause-bytes : goal.returns-clause-bytes
returns-clause-bytes g c =
    c.way_from.ensures.bytes ∙ traces_bytes (g.R.Rule.kept c.args.self.now.running.rule) (state_of c.args.self.now) c.args.self.now.at_rest c.args.router c.args.met.now

pub returns-clause-leaves : goal.returns-clause-leaves
returns-clause-leaves g c =
    let n = c.args.self.now.running in
    let laws = g.R.Rule.laws n.rule in
    all_leave laws (fits_of laws n.held.peering) n.consistent c.args.self.now.at_rest

pub returns-clause-way : goal.returns-clause-way
returns-clause-way g c p in_it =
    traced_way (state_of c.args.self.now) c.args.router p (returns-clause-leaves g c) in_it c.args.met.now (returns-clause-value g c) (returns-clause-bytes g c)

pub returns-clause-none : goal.returns-clause-none
returns-clause-none g c =
    let n = c.args.self.now.running in
    let laws = g.R.Rule.laws n.rule in
    trace_nowhere laws (state_of c.args.self.now) (fits_of laws n.held.peering, n.consistent) c.args.self.now.at_rest c.args.router (length c.args.met.now) (returns-clause-value g c)
