-- What the program prints of a table. Assumes nothing.
use Rattle.std.specs.Prelude.{◌≡◌, ℕ, ◌-◌, ◌^◌, List, ◌++◌, length, drop, Ok, Err, Result}
use Rattle.faults.specs.declared.call.CallFault.{CallFault}
use Rattle.faults.specs.declared.call.CallFault.TheVariants.{Load}
use Rattle.faults.specs.declared.load.LoadFault.{LoadFault}
use Rattle.layout.specs.Table.{Declared}
use Rattle.listing.specs.Listing.{listing}
use Rattle.protocol.specs.Moves.{for_each}
use Rattle.protocol.specs.Network.{State}
use Rattle.selection.specs.Stages.{keep_five_stage}

-- a network of a table where every path is injected
pub record AllInjected (t : Declared) (s : State) : Type 0 where
  pub table : s.table ≡ t
  pub injected : s.injected ≡ 2 ^ length t.paths - 1

-- what the five-stage rule keeps of all paths
abbrev pub kept_of_all : Declared → ℕ
kept_of_all t = keep_five_stage t.paths (2 ^ length t.paths - 1)

-- a line for each router, where all advertise that
abbrev pub report : Declared → List ℕ
report t = listing t (for_each (λ v. kept_of_all t))

-- how many bytes that takes, or why the table is refused
abbrev pub report_length : Result Declared LoadFault → Result ℕ CallFault
report_length (Ok t) = Ok (length (report t))
report_length (Err fault) = Err (Load fault)

-- the buffer afterwards: bytes past those of the report stay as they were
abbrev pub report_bytes : Result Declared LoadFault → List ℕ → List ℕ
report_bytes (Ok t) before = report t ++ drop (length (report t)) before
report_bytes (Err fault) before = before
