-- What a rule keeps, and the laws that every rule shows. Assumes nothing.
use Rattle.std.specs.Prelude.{◌≡◌, ℕ, ◌-◌, ◌^◌, ◌<◌, true, List, length, bit_and}
use Rattle.layout.specs.declared.path.ExitPath.{ExitPath}
use Rattle.sets.specs.Members.{member, Empty, Subset}

-- what is kept, by the declared paths and a set of them
abbrev pub Keeping : Type 0
Keeping = List ExitPath → ℕ → ℕ

-- path p is declared and in the set s
abbrev pub Offered : List ExitPath → ℕ → ℕ → Type 0
Offered xs s p = (p < length xs) × (member s p ≡ true)

-- the declared paths of the set s
abbrev pub declared_of : List ExitPath → ℕ → ℕ
declared_of xs s = bit_and s (2 ^ length xs - 1)

-- every path of s is declared
abbrev pub AllDeclared : List ExitPath → ℕ → Type 0
AllDeclared xs s = (p : ℕ) → member s p ≡ true → p < length xs

-- the laws are of every set s of declared paths, and of every set t within it

-- within: what is kept of s lies in s
abbrev pub Within : Keeping → Type 0
Within kept = (xs : List ExitPath) (s : ℕ) → AllDeclared xs s → Subset (kept xs s) s

-- nonempty: where nothing is kept of s, s is empty
abbrev pub Nonempty : Keeping → Type 0
Nonempty kept = (xs : List ExitPath) (s : ℕ) → AllDeclared xs s → Empty (kept xs s) → Empty s

-- heritage: a path of t that is kept of s is kept of t
abbrev pub Heritage : Keeping → Type 0
Heritage kept =
    (xs : List ExitPath) (s t : ℕ) → AllDeclared xs s → Subset t s →
    (p : ℕ) → member t p ≡ true → member (kept xs s) p ≡ true → member (kept xs t) p ≡ true

-- outcast: where t holds all that is kept of s, the same is kept of both
abbrev pub Outcast : Keeping → Type 0
Outcast kept =
    (xs : List ExitPath) (s t : ℕ) → AllDeclared xs s →
    Subset t s → Subset (kept xs s) t → kept xs t ≡ kept xs s

-- what every rule shows
pub record Laws (kept : Keeping) : Type 0 where
  pub within : Within kept
  pub nonempty : Nonempty kept
  pub heritage : Heritage kept
  pub outcast : Outcast kept

-- what a rule keeps of s does not turn on the paths that it did not keep
pub record Steady (kept : Keeping) (xs : List ExitPath) (s : ℕ) : Type 0 where
  -- of every set between what is kept of s and s itself, the same is kept
  pub between : (t : ℕ) → Subset (kept xs s) t → Subset t s → kept xs t ≡ kept xs s
  -- of what is kept, all is kept
  pub again : kept xs (kept xs s) ≡ kept xs s
