-- What a host may rest on, of every answer that keeps `HostAnswer`: it follows from that record alone. Assumes nothing.
use Rattle.std.specs.Prelude.{◌≡◌, ◌≢◌, ◌⊎◌, ℕ, ◌+◌, ◌*◌, ◌/◌, ◌%◌, ◌<◌, ◌≤◌, true, List, length}
use Rattle.faults.specs.Faults.{number_of, place_of}
use Rattle.faults.specs.declared.load.LoadFault.{LoadFault}
use Rattle.layout.specs.Promise.{Broken}
use Rattle.layout.specs.Table.{Declared}
use Rattle.selection.specs.Laws.{AllDeclared}
use Rattle.sets.specs.Members.{member}
use Rattle.direct.specs.Promise.{IsTable}
use Rattle.direct.specs.Tells.{IsOnlyTable, Told}

pub record HostTells (bs : List ℕ) (injected : ℕ) (before after : List ℕ) (answer : ℕ) : Type 0 where
  -- the answer is 0 exactly where a table, paths and a buffer are in order, and then the buffer tells of that table
  pub in_order :
      (t : Declared) → IsTable bs t → AllDeclared t.paths injected → 32 ≤ length before → answer ≡ 0
  pub accepted :
      answer ≡ 0 →
      (t : Declared) × IsOnlyTable bs t × AllDeclared t.paths injected × (32 ≤ length before)
      × Told t injected before after
  -- the number alone tells whether the call is accepted
  pub done : answer % 256 ≡ 0 → answer ≡ 0
  -- where the number is not 0, every byte of the buffer is as it was
  pub leaves : answer % 256 ≢ 0 → after ≡ before
  -- the answer is a number up to 11, or 16, and 256 times a place within the longest table
  pub number : (answer % 256 ≤ 11) ⊎ (answer % 256 ≡ 16)
  pub place : answer / 256 ≤ 2272
  -- up to number 10 that is what is wrong with the table
  pub table :
      answer % 256 ≢ 0 → answer % 256 ≤ 10 →
      (fault : LoadFault) × Broken bs fault × (answer ≡ number_of fault + 256 * place_of fault)
  -- with number 11 the place is an injected path that is not declared, and every lower injected one is declared
  pub path :
      answer % 256 ≡ 11 →
      (t : Declared) × IsOnlyTable bs t × (member injected (answer / 256) ≡ true)
      × (length t.paths ≤ answer / 256)
      × ((q : ℕ) → q < answer / 256 → member injected q ≡ true → q < length t.paths)
  -- with number 16 the buffer is short of the place's 32 bytes, and all else is in order
  pub buffer :
      answer % 256 ≡ 16 →
      (t : Declared) × IsOnlyTable bs t × AllDeclared t.paths injected
      × (length before < 32) × (answer / 256 ≡ 32)
