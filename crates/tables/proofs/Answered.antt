-- What an answer to the reading of a table promises. Assumes nothing.
use Rattle.std.proofs.Common.{◌≡◌, ℕ, ◌<◌, List, get_or, Result, sym, subst, arith, w8, Fits}
use Rattle.std.proofs.lemmas.List.Elements.{All-from_get_or}
use Rattle.faults.specs.declared.load.LoadFault.{LoadFault}
use Rattle.layout.specs.Answer.{AnswerTells}
use Rattle.layout.specs.Promise.{Reads}
use Rattle.layout.specs.Reading.{table_in}
use Rattle.layout.specs.Table.{Declared}
use Rattle.layout.proofs.Promised.{reads}
use Rattle.layout.proofs.Records.{Bytes}
use Rattle.layout.proofs.Told.{answer_tells}

pub are_bytes : (bs : List ℕ) → ((i : ℕ) → Fits w8 (get_or bs i 0)) → Bytes bs
are_bytes bs fits = All-from_get_or (λ b. b < 256) bs 0 (λ i _. omega (arith, fits i))

pub promised : (bs : List ℕ) (r : Result Declared LoadFault) → ((i : ℕ) → Fits w8 (get_or bs i 0)) → r ≡ table_in bs → Reads bs r
promised bs r fits e = subst (Reads bs) (sym e) (reads bs (are_bytes bs fits))

pub told : (bs : List ℕ) (r : Result Declared LoadFault) → ((i : ℕ) → Fits w8 (get_or bs i 0)) → r ≡ table_in bs → AnswerTells bs r
told bs r fits e = answer_tells bs r (promised bs r fits e)
