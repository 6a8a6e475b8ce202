-- The two rules in the terms of an operator. Assumes nothing.
use Rattle.std.specs.Prelude.{◌≡◌, ℕ, ◌≤◌, List}
use Rattle.layout.specs.Table.{path_at}
use Rattle.layout.specs.declared.path.ExitPath.{ExitPath}
use Rattle.selection.specs.Laws.{Offered}

-- path q is declared, in s and of the preference of p
abbrev pub AsPreferred : List ExitPath → ℕ → ℕ → ℕ → Type 0
AsPreferred xs s p q = Offered xs s q × ((path_at xs q).local_pref ≡ (path_at xs p).local_pref)

-- and of its AS-path length too
abbrev pub AsShort : List ExitPath → ℕ → ℕ → ℕ → Type 0
AsShort xs s p q = AsPreferred xs s p q × ((path_at xs q).as_path_len ≡ (path_at xs p).as_path_len)

-- no path of s comes before p by preference and length
pub record Shortest (xs : List ExitPath) (s p : ℕ) : Type 0 where
  -- p is declared and in s
  pub offered : Offered xs s p
  -- no path of s has a higher preference
  pub preferred : (q : ℕ) → Offered xs s q → (path_at xs q).local_pref ≤ (path_at xs p).local_pref
  -- none of that preference has a shorter AS path
  pub short : (q : ℕ) → AsPreferred xs s p q → (path_at xs p).as_path_len ≤ (path_at xs q).as_path_len

-- the five-stage rule keeps p of s
pub record FiveStageKeeps (xs : List ExitPath) (s p : ℕ) : Type 0 where
  pub shortest : Shortest xs s p
  -- no path of that preference and length through the same neighbour AS has a lower MED
  pub lowest : (q : ℕ) → AsShort xs s p q → (path_at xs q).neighbour_as ≡ (path_at xs p).neighbour_as → (path_at xs p).med ≤ (path_at xs q).med

-- the compare-always rule keeps p of s
pub record CompareAlwaysKeeps (xs : List ExitPath) (s p : ℕ) : Type 0 where
  pub shortest : Shortest xs s p
  -- no path of that preference and length has a lower MED
  pub lowest : (q : ℕ) → AsShort xs s p q → (path_at xs p).med ≤ (path_at xs q).med
