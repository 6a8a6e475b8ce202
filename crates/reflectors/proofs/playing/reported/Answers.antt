use Rattle.std.proofs.Common.{ℕ, List, length, ap, ◌∙◌}
use Rattle.calls.specs.Calls.{report_answer, report_bytes}
use Rattle.network.specs.Settled.{state_of}
use Rattle.reflectors.proofs.Parts.{part_is, written_is}
use Rattle.reflectors.proofs.playing.reported.Goals as goal

pub returns-clause-value : goal.returns-clause-value
returns-clause-value g c =
    let starts = c.min-start.ensures in
    let ends = c.min-len.ensures in
    c.report.ensures.value
    ∙ ap (λ (xs : List ℕ). report_answer (state_of c.args.settled.now) c.args.report (length xs)) (part_is c.args.bytes.now c.args.part starts ends)

pub returns-clause-bytes : goal.returns-clause-bytes
returns-clause-bytes g c =
    let starts = c.min-start.ensures in
    let ends = c.min-len.ensures in
    written_is c.args.bytes.now c.args.part starts ends (report_bytes (state_of c.args.settled.now) c.args.report) c.report.ensures.bytes
