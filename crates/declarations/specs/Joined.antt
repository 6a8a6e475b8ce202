-- What a matrix of joined routers says. Assumes nothing.
use Rattle.std.specs.Prelude.{◌≡◌, ℕ, ◌<◌, List, slice_index}
use Rattle.sets.specs.Members.{member}
use Rattle.layout.specs.Checks.{repeats}
use Rattle.layout.specs.declared.link.Pair.{Pair}
use Rattle.declarations.specs.declared.joined.Joined.{Joined}

-- both routers of a pair have a place in the matrix
abbrev pub PairFits : Pair → Type 0
PairFits p = (p.a < 32) × (p.b < 32)

-- the matrix joins the same routers as the pairs
abbrev pub Recalls : Joined → List Pair → Type 0
Recalls joined pairs =
    (a b : ℕ) → a < 32 → b < 32 → member (slice_index joined.to a) b ≡ repeats (record { a = a; b = b }) pairs
