use Rattle.std.proofs.Common.{◌∙◌, arith}
use Rattle.layout.specs.Reading.{table_in}
use Rattle.network.specs.Settled.{state_of}
use Rattle.settle.proofs.Reporting.{listed_length, listed_bytes}
use Rattle.settle.proofs.report.Goals as goal

pub returns-clause-value : goal.returns-clause-value
returns-clause-value c =
    let n = c.in_ok-settled_with_all.field-0 in
    let found = c.in_ok-settled_with_all.ensures in
    c.list.ensures.value
    ∙ listed_length found.0 (state_of n) n.running.consistent.few_routers found.2 n.at_rest (table_in c.args.bytes.now) found.1 c.args.buffer.now (omega (arith, c.told-buffer))

pub returns-clause-bytes : goal.returns-clause-bytes
returns-clause-bytes c =
    let n = c.in_ok-settled_with_all.field-0 in
    let found = c.in_ok-settled_with_all.ensures in
    c.list.ensures.bytes
    ∙ listed_bytes found.0 (state_of n) n.running.consistent.few_routers found.2 n.at_rest (table_in c.args.bytes.now) found.1 c.args.buffer.now (omega (arith, c.told-buffer))
