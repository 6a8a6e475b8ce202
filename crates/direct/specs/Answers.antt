-- What the direct call answers and writes. Assumes nothing.
use Rattle.std.specs.Prelude.{⊤, ℕ, cond, List, ◌++◌, map, length, drop, Some, None, Ok, Err, Option, Result, nat_le}
use Rattle.std.specs.Option.{unwrap_or}
use Rattle.std.specs.List.{range_with_len}
use Rattle.costs.specs.Cost.{plain}
use Rattle.faults.specs.declared.call.CallFault.{CallFault}
use Rattle.faults.specs.declared.call.CallFault.TheVariants.{Load, UndeclaredPath, ShortBuffer}
use Rattle.faults.specs.declared.load.LoadFault.{LoadFault}
use Rattle.layout.specs.Reading.{table_in}
use Rattle.layout.specs.Table.{Declared}
use Rattle.packets.specs.Best.{best}
use Rattle.selection.specs.Stages.{keep_five_stage}
use Rattle.selection.specs.Undeclared.{lowest_undeclared}

-- a byte for each router: its best path of a set, or 255
abbrev pub bytes_sent : Declared → ℕ → List ℕ
bytes_sent t s = map (λ v. unwrap_or (best plain t s v) 255) (range_with_len 0 (length t.routers))

-- the bytes for what the five-stage rule keeps of the injected paths, where the buffer has so many bytes
abbrev pub worked_out_by : Declared → ℕ → ℕ → Option ℕ → Result (List ℕ) CallFault
worked_out_by t injected room (Some p) = Err (UndeclaredPath p)
worked_out_by t injected room None = cond (nat_le 32 room) (Ok (bytes_sent t (keep_five_stage t.paths injected))) (Err (ShortBuffer 32))

-- the bytes to write, or why the call is refused
abbrev pub worked_out : Result Declared LoadFault → ℕ → ℕ → Result (List ℕ) CallFault
worked_out (Err fault) injected room = Err (Load fault)
worked_out (Ok t) injected room = worked_out_by t injected room (lowest_undeclared t.paths injected)

abbrev pub without_bytes : Result (List ℕ) CallFault → Result ⊤ CallFault
without_bytes (Err fault) = Err fault
without_bytes (Ok bs) = Ok tt

-- the bytes, and behind them what the buffer held
abbrev pub laid_over : Result (List ℕ) CallFault → List ℕ → List ℕ
laid_over (Err fault) before = before
laid_over (Ok bs) before = bs ++ drop (length bs) before

-- what the call answers, by the bytes of a table, the injected paths and the length of the buffer
abbrev pub direct_answer : List ℕ → ℕ → ℕ → Result ⊤ CallFault
direct_answer bs injected room = without_bytes (worked_out (table_in bs) injected room)

-- the buffer afterwards
abbrev pub direct_bytes : List ℕ → ℕ → List ℕ → List ℕ
direct_bytes bs injected before = laid_over (worked_out (table_in bs) injected (length before)) before
