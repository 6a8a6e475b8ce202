-- An answer as one number. Assumes nothing.
use Rattle.std.specs.Prelude.{⊤, ◌≡◌, ◌≤◌, ℕ, ◌+◌, ◌*◌, ◌/◌, ◌%◌, List, Ok, Err, Result}
use Rattle.direct.specs.Promise.{Directs}
use Rattle.faults.specs.Faults.{call_number_of, call_place_of}
use Rattle.faults.specs.declared.call.CallFault.{CallFault}

-- the number of a refusal, and 0 for none
abbrev pub number_in : Result ⊤ CallFault → ℕ
number_in (Ok done) = 0
number_in (Err fault) = call_number_of fault

-- the place of a refusal, and 0 for none
abbrev pub place_in : Result ⊤ CallFault → ℕ
place_in (Ok done) = 0
place_in (Err fault) = call_place_of fault

-- the number, and 256 times the place
abbrev pub coded : Result ⊤ CallFault → ℕ
coded r = number_in r + 256 * place_in r

-- the host can take the answer apart: its lowest eight bits are the number and the others the place, of an answer that keeps
-- what the direct call promises
pub record HostAnswer (bs : List ℕ) (injected : ℕ) (before after : List ℕ) (answer : ℕ) : Type 0 where
  pub meant : Result ⊤ CallFault
  pub promise : Directs bs injected before after meant
  pub number : answer % 256 ≡ number_in meant
  pub place : answer / 256 ≡ place_in meant
  pub near : answer / 256 ≤ 2272
