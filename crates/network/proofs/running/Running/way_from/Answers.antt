use Rattle.std.proofs.Common.{length, sym, ap, ◌∙◌}
use Rattle.distances.specs.Answered.{declared_by}
use Rattle.network.specs.Held.{table_of}
use Rattle.network.specs.Running.{state_of}
use Rattle.network.proofs.Answering.{trace_answers, trace_writes}
use Rattle.network.proofs.running.Running.way_from.Goals as goal

pub returns-clause-value : goal.returns-clause-value
returns-clause-value g c =
    c.trace.ensures.value
    ∙ trace_answers (g.R.Rule.laws c.args.self.now.rule) {s = state_of c.args.self.now} c.args.self.now.consistent (ap declared_by c.distances.ensures ∙ sym (ap table_of c.in-Some.is)) c.args.router
    (length c.args.met.now) c.advertises.ensures

pub returns-clause-bytes : goal.returns-clause-bytes
returns-clause-bytes g c =
    c.trace.ensures.bytes
    ∙ trace_writes (g.R.Rule.laws c.args.self.now.rule) {s = state_of c.args.self.now} c.args.self.now.consistent (ap declared_by c.distances.ensures ∙ sym (ap table_of c.in-Some.is)) c.args.router
    c.args.met.now c.advertises.ensures
