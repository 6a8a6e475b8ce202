use Rattle.std.proofs.Common.{length, sym, ap, ◌∙◌}
use Rattle.distances.specs.Answered.{declared_by}
use Rattle.listing.specs.Listing.{list_at, list_bytes}
use Rattle.network.specs.Held.{table_of}
use Rattle.network.specs.Running.{state_of}
use Rattle.network.proofs.Answering.{list_answers, list_writes}
use Rattle.network.proofs.Listed.{no_lines, no_bytes}
use Rattle.network.proofs.running.Running.lines.Goals as goal

pub returns-in-None-2-clause-value : goal.returns-in-None-2-clause-value
returns-in-None-2-clause-value g c =
    let told = c.args.self.now.held.sets.advertised in
    no_lines told (length c.args.buffer.now) c.if-buffer-lt-MOST_BYTES.false ∙ ap (λ o. list_at (table_of o) told (length c.args.buffer.now)) (sym c.in-None-2.is)

pub returns-in-None-2-clause-bytes : goal.returns-in-None-2-clause-bytes
returns-in-None-2-clause-bytes g c =
    let told = c.args.self.now.held.sets.advertised in
    no_bytes told c.args.buffer.now c.if-buffer-lt-MOST_BYTES.false ∙ ap (λ o. list_bytes (table_of o) told c.args.buffer.now) (sym c.in-None-2.is)

-- all that is advertised is declared
pub returns-in-Some-clause-value : goal.returns-in-Some-clause-value
returns-in-Some-clause-value g c =
    c.list.ensures.value
    ∙ list_answers (g.R.Rule.laws c.args.self.now.rule) {s = state_of c.args.self.now} c.args.self.now.consistent (ap declared_by c.distances.ensures ∙ sym (ap table_of c.in-Some.is)) (length c.args.buffer.now)

pub returns-in-Some-clause-bytes : goal.returns-in-Some-clause-bytes
returns-in-Some-clause-bytes g c =
    c.list.ensures.bytes
    ∙ list_writes (g.R.Rule.laws c.args.self.now.rule) {s = state_of c.args.self.now} c.args.self.now.consistent (ap declared_by c.distances.ensures ∙ sym (ap table_of c.in-Some.is)) c.args.buffer.now
