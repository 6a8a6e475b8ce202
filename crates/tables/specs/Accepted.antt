-- What an accepted table declares. Assumes nothing.
use Rattle.std.specs.Prelude.{Ok, Err, Result}
use Rattle.layout.specs.Table.{Declared}
use Rattle.declarations.specs.Held.{declared_in}
use Rattle.tables.specs.declared.table.Table.{Table}

abbrev pub declared : Table → Declared
declared t = declared_in t.declarations

-- what was answered: what the table declares, or the fault
abbrev pub answer : {F : Type 0} → Result Table F → Result Declared F
answer (Ok t) = Ok (declared t)
answer (Err fault) = Err fault
