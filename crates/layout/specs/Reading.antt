-- The reading of a table. Assumes nothing.
use Rattle.std.specs.Prelude.{ℕ, zero, suc, ◌+◌, List, [], ◌∷◌, Ok, Err, Result}
use Rattle.faults.specs.declared.load.LoadFault.{LoadFault}
use Rattle.faults.specs.declared.load.LoadFault.TheVariants.{Record, Table, Graph}
use Rattle.faults.specs.declared.graph.GraphFault.{GraphFault}
use Rattle.faults.specs.declared.table.TableFault.{TableFault}
use Rattle.records.specs.Kinds.{kind_byte, body_length}
use Rattle.records.specs.Readings.{Reading, ended, found, refused, reading_at}
use Rattle.records.specs.declared.kind.Kind.{Kind}
use Rattle.layout.specs.Checks.{declaring}
use Rattle.layout.specs.Table.{Declared, nothing}
use Rattle.layout.specs.Graph.{whole}

-- a fault of the graph layer, whole
abbrev pub of_graph : Result Declared GraphFault → Result Declared LoadFault
of_graph (Ok t) = Ok t
of_graph (Err fault) = Err (Graph fault)

-- a fault of the table layer, whole, or on with what is declared now
abbrev pub of_table : Result Declared TableFault → (Declared → Result Declared LoadFault) → Result Declared LoadFault
of_table (Ok t) on = on t
of_table (Err fault) on = Err (Table fault)

-- a fault of the record layer, whole; the checks of the whole at the end; or on with the record that stands there
abbrev pub of_record : Reading → Declared → (Kind → Declared → Result Declared LoadFault) → Result Declared LoadFault
of_record ended t on = of_graph (whole t)
of_record (found place k body) t on = of_table (declaring t place k body) (on k)
of_record (refused fault) t on = Err (Record fault)

-- what the bytes from a place on add to t, with the kind byte before; the first bytes, as many as `skip`, are the body of a record that was read
abbrev pub read_from : ℕ → Declared → ℕ → ℕ → List ℕ → Result Declared LoadFault
read_from skip t before place [] = of_record ended t (λ k u. Ok u)
read_from (suc skip) t before place (b ∷ bs) = read_from skip t before place bs
read_from zero t before place (b ∷ bs) =
    of_record (reading_at before place (b ∷ bs)) t (λ k u. read_from (body_length k) u (kind_byte k) (place + 1 + body_length k) bs)

-- what a table declares, or why it is refused
abbrev pub table_in : List ℕ → Result Declared LoadFault
table_in bs = read_from 0 nothing 0 0 bs
