-- Lists of routers in which none comes twice. Assumes nothing.
use Rattle.std.specs.Prelude.{ℕ, List, [], ◌∷◌, Contains}

-- no router comes twice
abbrev pub Once : List ℕ → Type 0
Once [] = Unit {0}
Once (v ∷ vs) = (Contains vs v → ⊥) × Once vs
