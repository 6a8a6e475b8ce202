-- What each rule keeps. Assumes nothing.
use Rattle.std.specs.Prelude.{ℕ, zero, suc, ◌^◌, Bool, false, cond, not, ◌&&◌, ◌||◌, List, length, ◌==◌, bit_or, nat_lt}
use Rattle.layout.specs.Table.{path_at}
use Rattle.layout.specs.declared.path.ExitPath.{ExitPath}
use Rattle.selection.specs.declared.criterion.Criterion.{Criterion}
use Rattle.selection.specs.declared.criterion.Criterion.TheVariants.{HighestPreference, ShortestAsPath, LowestMed}
use Rattle.selection.specs.Laws.{Keeping}
use Rattle.sets.specs.Members.{member}

-- the set of the numbers below n that pass a test
unfoldable pub those : (ℕ → Bool) → ℕ → ℕ
those test zero = 0
those test (suc n) = bit_or (those test n) (cond (test n) (2 ^ n) 0)

-- whether a number below n passes a test
unfoldable pub some : (ℕ → Bool) → ℕ → Bool
some test zero = false
some test (suc n) = test n || some test n

-- the union of f p for the members p of s below n
unfoldable pub joined : (ℕ → ℕ) → ℕ → ℕ → ℕ
joined f s zero = 0
joined f s (suc n) = bit_or (joined f s n) (cond (member s n) (f n) 0)

-- whether path a is better than path b
abbrev pub better : Criterion → ExitPath → ExitPath → Bool
better HighestPreference a b = nat_lt b.local_pref a.local_pref
better ShortestAsPath a b = nat_lt a.as_path_len b.as_path_len
better LowestMed a b = nat_lt a.med b.med

-- whether some path of s is better than path p
abbrev pub beaten : Criterion → List ExitPath → ℕ → ℕ → Bool
beaten c xs s p = some (λ q. member s q && better c (path_at xs q) (path_at xs p)) (length xs)

-- the paths of s than which none of s is better
abbrev pub extremes : Criterion → List ExitPath → ℕ → ℕ
extremes c xs s = those (λ p. member s p && not (beaten c xs s p)) (length xs)

-- the paths of s through a neighbour AS
abbrev pub through : List ExitPath → ℕ → ℕ → ℕ
through xs s as_number = those (λ p. member s p && (path_at xs p).neighbour_as == as_number) (length xs)

-- the whole set
abbrev pub keep_all : Keeping
keep_all xs s = s

-- what the rule below keeps of the best by one criterion
abbrev pub keep_extreme : Criterion → Keeping → Keeping
keep_extreme c below xs s = below xs (extremes c xs s)

-- what the rule below keeps of the paths through each neighbour AS, joined
abbrev pub keep_per_neighbour : Keeping → Keeping
keep_per_neighbour below xs s = joined (λ p. below xs (through xs s (path_at xs p).neighbour_as)) s (length xs)

-- preference, then length, then for each neighbour AS the MED
abbrev pub keep_five_stage : Keeping
keep_five_stage = keep_extreme HighestPreference (keep_extreme ShortestAsPath (keep_per_neighbour (keep_extreme LowestMed keep_all)))

-- preference, then length, then the MED
abbrev pub keep_compare_always : Keeping
keep_compare_always = keep_extreme HighestPreference (keep_extreme ShortestAsPath (keep_extreme LowestMed keep_all))
