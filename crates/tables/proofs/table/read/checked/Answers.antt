use Rattle.std.proofs.Common.{rules}
use Rattle.layout.proofs.Whole.{well_formed}
use Rattle.declarations.specs.Held.{declared_in}
use Rattle.tables.proofs.table.read.checked.Goals as goal

pub invariant_of-result : goal.invariant_of-result
invariant_of-result c =
    record { sound = ∣ well_formed (declared_in c.args.declarations) c.requires (search rules) (search rules) (search rules) ∣₁ }
