-- The rules that a record can break, after what was declared before it. Assumes nothing.
use Rattle.std.specs.Prelude.{◌≡◌, ℕ, ◌<◌, ◌≤◌, ◌⊎◌, List, [], ◌∷◌, map, length, take, Some, Contains}
use Rattle.records.specs.Kinds.{body_length, kind_of}
use Rattle.records.specs.declared.kind.Kind.{Kind}
use Rattle.records.specs.declared.kind.Kind.TheVariants.{Router, Link, Session, Path}
use Rattle.layout.specs.Bodies.{byte, two, pair_in}
use Rattle.layout.specs.Table.{Declared}
use Rattle.layout.specs.WellFormed.{Same, ClientsOfOne, link_ends, session_ends}
use Rattle.layout.specs.declared.link.Pair.{Pair}

-- how many records there may be of a kind
abbrev pub most : Kind → ℕ
most Router = 32
most Link = 128
most Session = 64
most Path = 64

-- how many there are
abbrev pub count : Declared → Kind → ℕ
count t Router = length t.routers
count t Link = length t.links
count t Session = length t.sessions
count t Path = length t.paths

-- the kind byte k if the list has a record, else the one below
abbrev pub top : {X : Type 0} → List X → ℕ → ℕ → ℕ
top [] k below = below
top (x ∷ xs) k below = k

-- the kind byte of the last record, 0 if there is none
abbrev pub latest : Declared → ℕ
latest t = top t.paths 4 (top t.sessions 3 (top t.links 2 (top t.routers 1 0)))

-- a field is out of range or names a router that is not declared
abbrev pub OutOfRange : Declared → Kind → List ℕ → Type 0
OutOfRange t Router body = (32 ≤ byte body 0) ⊎ (2 ≤ byte body 1)
OutOfRange t Link body = (length t.routers ≤ byte body 0) ⊎ ((length t.routers ≤ byte body 1) ⊎ (two body 2 ≡ 0))
OutOfRange t Session body = (length t.routers ≤ byte body 0) ⊎ (length t.routers ≤ byte body 1)
OutOfRange t Path body = (length t.routers ≤ byte body 0) ⊎ (byte body 9 ≡ 0)

-- p is one of the pairs again
abbrev pub Again : Pair → List Pair → Type 0
Again p earlier = (q : Pair) × Contains earlier q × Same p q

-- a pair joins a router to itself, or is an earlier pair again
abbrev pub Wrong : Pair → List Pair → Type 0
Wrong p earlier = (p.a ≡ p.b) ⊎ Again p earlier

abbrev pub BadPair : Declared → Kind → List ℕ → Type 0
BadPair t Router body = ⊥
BadPair t Link body = Wrong (pair_in body) (map link_ends t.links)
BadPair t Session body = Wrong (pair_in body) (map session_ends t.sessions)
BadPair t Path body = ⊥

-- a session joins two routers that are not both clients of the same cluster
abbrev pub BadSession : Declared → Kind → List ℕ → Type 0
BadSession t Router body = ⊥
BadSession t Link body = ⊥
BadSession t Session body = ClientsOfOne t.routers (pair_in body) → ⊥
BadSession t Path body = ⊥

-- byte b begins a record, and P holds of its kind and of its body, as far as there are bytes
abbrev pub OfKind : ℕ → List ℕ → (Kind → List ℕ → Type 0) → Type 0
OfKind b more P = (k : Kind) × (kind_of b ≡ Some k) × P k (take (body_length k) more)

-- the record that begins with byte b, and goes on with the bytes behind it, breaks the rule of this number, after t
pub data Breaks (t : Declared) (b : ℕ) (more : List ℕ) : ℕ → Type 0 where
  unknown_kind : (b ≡ 0) ⊎ (4 < b) → Breaks t b more 1
  cut_short : OfKind b more (λ k body. length more < body_length k) → Breaks t b more 2
  kind_falls : b < latest t → Breaks t b more 3
  too_many : OfKind b more (λ k body. most k ≤ count t k) → Breaks t b more 4
  out_of_range : OfKind b more (OutOfRange t) → Breaks t b more 5
  bad_pair : OfKind b more (BadPair t) → Breaks t b more 6
  bad_session : OfKind b more (BadSession t) → Breaks t b more 7
