use Rattle.std.proofs.Common.{rules, Ok, sym, ap, ◌∙◌, subst}
use Rattle.layout.proofs.Progress.{Progress, goes_on}
use Rattle.records.specs.Readings.{standing, passing, answered}
use Rattle.declarations.specs.Held.{declared_in}
use Rattle.tables.proofs.Answered.{promised, told}
use Rattle.tables.proofs.table.Table.read.Goals as goal

pub loop-found-preserved : goal.loop-found-preserved
loop-found-preserved c =
    let there = ap (λ o. answered (Ok o)) (sym c.in-Some.is) ∙ c.in_ok-found.ensures.answer in
    let behind = c.in_ok-found.ensures.stands ∙ ap (λ o. passing (standing c.loop-found.reader) (answered (Ok o))) c.in-Some.is in
    subst (Progress c.args.bytes.now (declared_in c.declare.new.self)) (sym behind)
    (goes_on _ _ _ c.loop-found.invariant _ _ _ there (declared_in c.declare.new.self) c.in_ok-declare.ensures.value)

pub returns-in_err-found-clause-promise : goal.returns-in_err-found-clause-promise
returns-in_err-found-clause-promise c = promised c.args.bytes.now _ c.type_inv.bytes (search rules)

pub returns-in_err-declare-clause-promise : goal.returns-in_err-declare-clause-promise
returns-in_err-declare-clause-promise c = promised c.args.bytes.now _ c.type_inv.bytes (search rules)

pub returns-in_err-checked-clause-promise : goal.returns-in_err-checked-clause-promise
returns-in_err-checked-clause-promise c = promised c.args.bytes.now _ c.type_inv.bytes (search rules)

pub returns-clause-promise : goal.returns-clause-promise
returns-clause-promise c = promised c.args.bytes.now _ c.type_inv.bytes (search rules)

pub returns-in_err-found-clause-told : goal.returns-in_err-found-clause-told
returns-in_err-found-clause-told c = told c.args.bytes.now _ c.type_inv.bytes (search rules)

pub returns-in_err-declare-clause-told : goal.returns-in_err-declare-clause-told
returns-in_err-declare-clause-told c = told c.args.bytes.now _ c.type_inv.bytes (search rules)

pub returns-in_err-checked-clause-told : goal.returns-in_err-checked-clause-told
returns-in_err-checked-clause-told c = told c.args.bytes.now _ c.type_inv.bytes (search rules)

pub returns-clause-told : goal.returns-clause-told
returns-clause-told c = told c.args.bytes.now _ c.type_inv.bytes (search rules)
