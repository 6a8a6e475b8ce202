-- What the direct call promises, in the terms of an operator. Assumes nothing.
use Rattle.std.specs.Prelude.{⊤, ◌≡◌, ℕ, ◌<◌, ◌≤◌, true, List, length, drop, Ok, Err, Decides, Result, slice_index_or}
use Rattle.costs.specs.Cost.{plain}
use Rattle.faults.specs.Faults.{call_place_of}
use Rattle.faults.specs.declared.call.CallFault.{CallFault}
use Rattle.faults.specs.declared.call.CallFault.TheVariants.{Load, UndeclaredPath, UndeclaredRouter, NoRouterNamed, AlreadyInjected, NotInjected, ShortBuffer}
use Rattle.layout.specs.Encoding.{encoded}
use Rattle.layout.specs.Promise.{Lowest, Broken}
use Rattle.layout.specs.Table.{Declared}
use Rattle.layout.specs.WellFormed.{WellFormed}
use Rattle.packets.specs.BestPlain.{Best}
use Rattle.selection.specs.Laws.{AllDeclared}
use Rattle.selection.specs.Plain.{FiveStageKeeps}
use Rattle.selection.specs.Undeclared.{Undeclared}
use Rattle.sets.specs.Members.{member, Empty}

-- the bytes are those of this well-formed table
abbrev pub IsTable : List ℕ → Declared → Type 0
IsTable bs t = WellFormed t × (bs ≡ encoded t)

-- a router takes its best path of the set s, and none exactly if nothing is injected
pub record Sends (t : Declared) (injected s v byte : ℕ) : Type 0 where
  pub nowhere : Empty injected → byte ≡ 255
  pub nothing : byte ≡ 255 → Empty injected
  pub best : (q : ℕ) → member injected q ≡ true → Best plain t s v byte

-- the buffer has a byte for each router, the path that it takes, and is as it was behind them
pub record Sent (t : Declared) (injected : ℕ) (before after : List ℕ) : Type 0 where
  -- what the five-stage rule keeps of the injected paths
  pub kept : ℕ
  pub keeps : (p : ℕ) → Decides (member kept p) (FiveStageKeeps t.paths injected p)
  pub sends : (v : ℕ) → v < length t.routers → Sends t injected kept v (slice_index_or after v 0)
  pub as_long : length after ≡ length before
  pub behind : drop (length t.routers) after ≡ drop (length t.routers) before

-- why a call is refused: for its table, whatever is injected; then for the lowest injected path that is not declared;
-- then for a buffer of fewer than 32 bytes
abbrev pub Refused : List ℕ → ℕ → ℕ → CallFault → Type 0
Refused bs injected room (Load fault) = Broken bs fault
Refused bs injected room (UndeclaredPath p) = (t : Declared) × IsTable bs t × Lowest (Undeclared t.paths injected) p
Refused bs injected room (UndeclaredRouter v) = ⊥
Refused bs injected room NoRouterNamed = ⊥
Refused bs injected room (AlreadyInjected p) = ⊥
Refused bs injected room (NotInjected p) = ⊥
Refused bs injected room (ShortBuffer needed) = (t : Declared) × IsTable bs t × AllDeclared t.paths injected × (room < 32) × (needed ≡ 32)

-- a call is accepted exactly for a table, paths that it declares and a buffer of 32 bytes, and then the buffer says which path every
-- router takes; a refused call leaves the buffer as it was; and no place passes the length of the longest table
pub record Directs (bs : List ℕ) (injected : ℕ) (before after : List ℕ) (r : Result ⊤ CallFault) : Type 0 where
  pub accepted : r ≡ Ok tt → (t : Declared) × IsTable bs t × AllDeclared t.paths injected × (32 ≤ length before) × Sent t injected before after
  pub accepts : (t : Declared) → IsTable bs t → AllDeclared t.paths injected → 32 ≤ length before → r ≡ Ok tt
  pub refused : (fault : CallFault) → r ≡ Err fault → (after ≡ before) × Refused bs injected (length before) fault
  pub near : (fault : CallFault) → r ≡ Err fault → call_place_of fault ≤ 2272
