-- The paths of a set that are not declared. Assumes nothing.
use Rattle.std.specs.Prelude.{◌≡◌, ℕ, ◌≤◌, true, List, length, Option}
use Rattle.layout.specs.declared.path.ExitPath.{ExitPath}
use Rattle.sets.specs.Members.{member, least_from}

-- path p is in the set s and not declared
abbrev pub Undeclared : List ExitPath → ℕ → ℕ → Type 0
Undeclared xs s p = (member s p ≡ true) × (length xs ≤ p)

-- the lowest such path, of the 64 that a set can hold
abbrev pub lowest_undeclared : List ExitPath → ℕ → Option ℕ
lowest_undeclared xs s = least_from 64 s (length xs)
