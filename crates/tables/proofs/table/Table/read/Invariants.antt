use Rattle.std.proofs.Common.{length}
use Rattle.layout.proofs.Progress.{Progress}
use Rattle.records.specs.Readings.{standing}
use Rattle.declarations.specs.Held.{declared_in}
use Rattle.tables.proofs.table.Table.read.Given as goal

-- what is left tells the same as all
abbrev pub invariant-loop-found : goal.invariant-loop-found
invariant-loop-found l = Progress l.bytes (declared_in l.declarations) (standing l.reader)

-- the bytes that are left
abbrev pub decreases-loop-found : goal.decreases-loop-found
decreases-loop-found l = length (standing l.reader).rest
