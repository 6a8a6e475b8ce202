-- What an answer to the reading of a table tells an operator. Assumes nothing.
use Rattle.std.specs.Prelude.{◌≡◌, ℕ, ◌+◌, ◌*◌, ◌<◌, ◌≤◌, ◌⊎◌, ◌≢◌, List, [], ◌∷◌, length, take, drop, Ok, Err, Result}
use Rattle.faults.specs.Faults.{number_of, place_of}
use Rattle.faults.specs.declared.graph.GraphFault.TheVariants.{NoRouter, NoReflector, NotJoined}
use Rattle.faults.specs.declared.load.LoadFault.{LoadFault}
use Rattle.faults.specs.declared.load.LoadFault.TheVariants.{Graph}
use Rattle.layout.specs.Encoding.{encoded}
use Rattle.layout.specs.Promise.{Unled, CutOff, Reads}
use Rattle.layout.specs.Rules.{Breaks}
use Rattle.layout.specs.Table.{Declared}
use Rattle.layout.specs.WellFormed.{Is, client, reflector, Chain, Sound, WellFormed}

-- what stands before the place is sound, and of the rules that the record there breaks, n is the smallest number
abbrev pub FirstRule : List ℕ → ℕ → ℕ → Type 0
FirstRule bs place n =
    (t : Declared) × (b : ℕ) × (more : List ℕ) × Sound t
    × (take place bs ≡ encoded t) × (drop place bs ≡ b ∷ more)
    × Breaks t b more n × ((m : ℕ) → Breaks t b more m → n ≤ m)

-- every record is sound, and the one at the place is that of the lowest router at fault
abbrev pub FirstRouter : List ℕ → ℕ → (Declared → ℕ → Type 0) → Type 0
FirstRouter bs place AtFault =
    (t : Declared) × (v : ℕ) × Sound t × (bs ≡ encoded t)
    × (place ≡ 3 * v) × AtFault t v × ((w : ℕ) → AtFault t w → v ≤ w)

-- what follows of an answer from the promise alone
pub record AnswerTells (bs : List ℕ) (r : Result Declared LoadFault) : Type 0 where
  -- only these bytes are read as this table
  pub same_bytes : (t : Declared) → r ≡ Ok t → (cs : List ℕ) → Reads cs (Ok t) → cs ≡ bs
  -- a client of an accepted table has a reflector in its cluster, and a chain of links leads there
  pub served : (t : Declared) → r ≡ Ok t → (v c : ℕ) → Is t.routers v (client c) →
      (w : ℕ) × Is t.routers w (reflector c) × Chain t.links v w
  -- refused bytes are those of no well-formed table
  pub no_table : (fault : LoadFault) → r ≡ Err fault →
      (t : Declared) → WellFormed t → bs ≢ encoded t
  -- bytes are those of one well-formed table at most
  pub one_table : (t u : Declared) → WellFormed t → WellFormed u →
      bs ≡ encoded t → bs ≡ encoded u → t ≡ u
  -- a refusal names one of the bytes, if there are any
  pub within : (fault : LoadFault) → r ≡ Err fault → (place_of fault < length bs) ⊎ (bs ≡ [])
  -- a number up to 7 is the smallest that is broken at the place, and nothing is broken before it
  pub of_record : (fault : LoadFault) → r ≡ Err fault → number_of fault ≤ 7 →
      FirstRule bs (place_of fault) (number_of fault)
  -- number 8 comes only where there are no bytes
  pub no_router : r ≡ Err (Graph NoRouter) → bs ≡ []
  -- number 9 names the lowest client whose cluster has no reflector
  pub unled : (place : ℕ) → r ≡ Err (Graph (NoReflector place)) →
      FirstRouter bs place (λ t v. Unled t.routers v)
  -- number 10 names the lowest router that is cut off, and then every client's cluster has a reflector
  pub cut_off : (place : ℕ) → r ≡ Err (Graph (NotJoined place)) →
      FirstRouter bs place (λ t v. CutOff t v × ((w : ℕ) → Unled t.routers w → ⊥))
  -- no place passes the length of the longest table, so the number and 256 times the place fit in 20 bits
  pub coded : (fault : LoadFault) → r ≡ Err fault → number_of fault + 256 * place_of fault < 256 * 2273
