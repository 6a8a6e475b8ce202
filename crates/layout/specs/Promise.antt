-- What the reading of a table promises, in the terms of an operator. Assumes nothing.
use Rattle.std.specs.Prelude.{◌≡◌, ℕ, ◌<◌, ◌≤◌, List, ◌∷◌, ◌++◌, length, take, Ok, Err, Result}
use Rattle.std.specs.List.{flat_map}
use Rattle.faults.specs.Faults.{number_of, place_of}
use Rattle.faults.specs.declared.graph.GraphFault.{GraphFault}
use Rattle.faults.specs.declared.graph.GraphFault.TheVariants.{NoRouter, NoReflector, NotJoined}
use Rattle.faults.specs.declared.load.LoadFault.{LoadFault}
use Rattle.faults.specs.declared.load.LoadFault.TheVariants.{Record, Table, Graph}
use Rattle.layout.specs.Encoding.{router_bytes, encoded}
use Rattle.layout.specs.Rules.{Breaks}
use Rattle.layout.specs.Table.{Declared}
use Rattle.layout.specs.WellFormed.{Is, client, reflector, Chain, Led, Sound, WellFormed}
use Rattle.layout.specs.declared.router.Router.{Router}

-- v is the least number of which P holds
abbrev pub Lowest : (ℕ → Type 0) → ℕ → Type 0
Lowest P v = P v × ((w : ℕ) → w < v → P w → ⊥)

-- the records before one break no rule, and of the rules that it breaks, the fault's number is the smallest
pub record BrokenRecord (bs : List ℕ) (fault : LoadFault) : Type 0 where
  pub before : Declared
  pub kind : ℕ
  pub more : List ℕ
  pub sound : Sound before
  pub split : bs ≡ encoded before ++ (kind ∷ more)
  pub place : place_of fault ≡ length (encoded before)
  pub smallest : Lowest (Breaks before kind more) (number_of fault)

-- router v is a client of a cluster without a reflector
abbrev pub Unled : List Router → ℕ → Type 0
Unled routers v = (c : ℕ) × Is routers v (client c) × ((w : ℕ) → Is routers w (reflector c) → ⊥)

-- how many bytes stand before the record of router v
abbrev pub bytes_before : List Router → ℕ → ℕ
bytes_before routers v = length (flat_map router_bytes (take v routers))

-- router v is declared, and no chain of links leads to it from router 0
abbrev pub CutOff : Declared → ℕ → Type 0
CutOff t v = (v < length t.routers) × (Chain t.links 0 v → ⊥)

-- the first rule that a table breaks as a whole
abbrev pub BreaksWhole : Declared → GraphFault → Type 0
BreaksWhole t NoRouter = length t.routers ≡ 0
BreaksWhole t (NoReflector place) = (1 ≤ length t.routers) × (v : ℕ) × (place ≡ bytes_before t.routers v) × Lowest (Unled t.routers) v
BreaksWhole t (NotJoined place) = (1 ≤ length t.routers) × Led t.routers × (v : ℕ) × (place ≡ bytes_before t.routers v) × Lowest (CutOff t) v

-- no record breaks a rule, but the whole does
pub record BrokenWhole (bs : List ℕ) (fault : GraphFault) : Type 0 where
  pub table : Declared
  pub sound : Sound table
  pub split : bs ≡ encoded table
  pub breaks : BreaksWhole table fault

abbrev pub Broken : List ℕ → LoadFault → Type 0
Broken bs (Record fault) = BrokenRecord bs (Record fault)
Broken bs (Table fault) = BrokenRecord bs (Table fault)
Broken bs (Graph fault) = BrokenWhole bs fault

-- bytes are accepted exactly if they are the encoding of a well-formed table, and then as that one;
-- a refusal names the first record that breaks a rule, with the smallest number that it breaks, or the first rule that the whole breaks;
-- and no place passes the length of the longest table
pub record Reads (bs : List ℕ) (r : Result Declared LoadFault) : Type 0 where
  pub accepted : (t : Declared) → r ≡ Ok t → WellFormed t × (bs ≡ encoded t)
  pub accepts : (t : Declared) → WellFormed t → bs ≡ encoded t → r ≡ Ok t
  pub refused : (fault : LoadFault) → r ≡ Err fault → Broken bs fault
  pub near : (fault : LoadFault) → r ≡ Err fault → place_of fault ≤ 2272
