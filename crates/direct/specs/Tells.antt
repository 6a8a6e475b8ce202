-- What a caller may rest on, of every call that keeps `Directs`: it follows from that record alone. Assumes nothing.
use Rattle.std.specs.Prelude.{⊤, ◌≡◌, ◌≢◌, ◌↔◌, ◌⊎◌, ℕ, ◌<◌, ◌≤◌, true, List, length, Ok, Err, OnErr, IfErr, Result, slice_index_or}
use Rattle.costs.specs.Cost.{plain}
use Rattle.faults.specs.Faults.{call_number_of, call_place_of}
use Rattle.faults.specs.declared.call.CallFault.{CallFault}
use Rattle.faults.specs.declared.call.CallFault.TheVariants.{Load, UndeclaredPath, ShortBuffer}
use Rattle.faults.specs.declared.load.LoadFault.{LoadFault}
use Rattle.layout.specs.Promise.{Broken}
use Rattle.layout.specs.Table.{Declared}
use Rattle.packets.specs.Best.{exit_of}
use Rattle.packets.specs.BestPlain.{Beats}
use Rattle.selection.specs.Laws.{AllDeclared, Offered}
use Rattle.selection.specs.Plain.{FiveStageKeeps}
use Rattle.sets.specs.Members.{member, Empty}
use Rattle.direct.specs.Promise.{IsTable}

-- the bytes are those of table t, and of no other
abbrev pub IsOnlyTable : List ℕ → Declared → Type 0
IsOnlyTable bs t = IsTable bs t × ((u : Declared) → IsTable bs u → u ≡ t)

-- router v takes path p
pub record Picks (t : Declared) (injected v p : ℕ) : Type 0 where
  -- p is declared and injected
  pub offered : Offered t.paths injected p
  -- the five-stage rule keeps it
  pub kept : FiveStageKeeps t.paths injected p
  -- if the rule keeps a path that leaves at v itself, p leaves there too
  pub own_first : (q : ℕ) → FiveStageKeeps t.paths injected q → exit_of t q ≡ v → exit_of t p ≡ v
  -- and then none of these beats p
  pub own : (q : ℕ) → FiveStageKeeps t.paths injected q → exit_of t q ≡ v → Beats plain t v q p → ⊥
  -- if p leaves elsewhere, no path that the rule keeps beats it
  pub others :
      exit_of t p ≢ v → (q : ℕ) → FiveStageKeeps t.paths injected q → Beats plain t v q p → ⊥

-- the buffer tells which path every router of table t takes
pub record Told (t : Declared) (injected : ℕ) (before after : List ℕ) : Type 0 where
  -- a router's byte is 255 exactly where nothing is injected
  pub nowhere : (v : ℕ) → v < length t.routers → (slice_index_or after v 0 ≡ 255) ↔ Empty injected
  -- otherwise it is the router's path
  pub picks :
      (v q : ℕ) → v < length t.routers → member injected q ≡ true →
      Picks t injected v (slice_index_or after v 0)
  -- every place behind the routers' bytes is as it was, and there are as many places
  pub behind : (k : ℕ) → length t.routers ≤ k → slice_index_or after k 0 ≡ slice_index_or before k 0
  pub as_long : length after ≡ length before

pub record DirectTells (bs : List ℕ) (injected : ℕ) (before after : List ℕ) (r : Result ⊤ CallFault) : Type 0 where
  -- a table, paths and a buffer that are in order are not refused
  pub in_order :
      (t : Declared) → IsTable bs t → AllDeclared t.paths injected → 32 ≤ length before → r ≡ Ok tt
  -- what is accepted was in order, the bytes are those of one table, and the buffer tells of that
  pub accepted :
      r ≡ Ok tt →
      (t : Declared) × IsOnlyTable bs t × AllDeclared t.paths injected × (32 ≤ length before)
      × Told t injected before after
  -- after a refusal every byte of the buffer is as it was
  pub leaves : OnErr r (after ≡ before)
  -- what is wrong with a table that is refused
  pub table : (fault : LoadFault) → r ≡ Err (Load fault) → Broken bs fault
  -- a path that is refused is injected and not declared, and every lower injected one is declared
  pub path :
      (p : ℕ) → r ≡ Err (UndeclaredPath p) →
      (t : Declared) × IsOnlyTable bs t × (member injected p ≡ true) × (length t.paths ≤ p)
      × ((q : ℕ) → q < p → member injected q ≡ true → q < length t.paths)
  -- a buffer that is refused is short, and all else is in order
  pub buffer :
      (needed : ℕ) → r ≡ Err (ShortBuffer needed) →
      (t : Declared) × IsOnlyTable bs t × AllDeclared t.paths injected
      × (length before < 32) × (needed ≡ 32)
  -- there is no other refusal
  pub numbers : IfErr r (λ fault. (call_number_of fault ≤ 11) ⊎ (call_number_of fault ≡ 16))
  -- no place passes the length of the longest table
  pub places : IfErr r (λ fault. call_place_of fault ≤ 2272)
