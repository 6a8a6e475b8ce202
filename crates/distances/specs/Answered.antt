-- What is answered about the distances of a table. Assumes nothing.
use Rattle.std.specs.Prelude.{ℕ, List, map, length, Ok, Err, Result}
use Rattle.std.specs.Borrow.{Bor}
use Rattle.std.specs.List.{range_with_len}
use Rattle.faults.specs.declared.call.CallFault.{CallFault}
use Rattle.layout.specs.Table.{Declared}
use Rattle.costs.specs.Cost.{plain}
use Rattle.costs.specs.Least.{distance}
use Rattle.tables.specs.Accepted.{declared}
use Rattle.tables.specs.declared.table.Table.{Table}
pub use Rattle.tables.specs.Asked.{of_router, undeclared, of_routers}
use Rattle.distances.specs.declared.distances.Distances.{Distances}

-- how clauses see distances: by their table, which is the one that they were worked out for, and by the costs in their rows
abbrev pub its_table : Distances → Table
its_table d = d.table

abbrev pub its_costs : Distances → List (List ℕ)
its_costs d = d.costs

-- what their table declares
abbrev pub declared_by : Distances → Declared
declared_by d = declared (its_table d)

-- what was answered: the numbers of the slice, or the fault
abbrev pub read : {F : Type 0} → Result (Bor (List ℕ)) F → Result (List ℕ) F
read (Ok row) = Ok row.now
read (Err fault) = Err fault

-- the distances from router v to every declared one, in the order of their numbers
abbrev pub distances_from : Declared → ℕ → List ℕ
distances_from t v = map (distance plain t v) (range_with_len 0 (length t.routers))

abbrev pub row_answer : Declared → ℕ → Result (List ℕ) CallFault
row_answer t v = of_router t v (Ok (distances_from t v))

abbrev pub between_answer : Declared → ℕ → ℕ → Result ℕ CallFault
between_answer t a b = of_routers t a b (Ok (distance plain t a b))
