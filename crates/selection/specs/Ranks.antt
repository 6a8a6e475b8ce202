-- A path's worth by one criterion, as a number. Assumes nothing.
use Rattle.std.specs.Prelude.{ℕ, ◌-◌, ◌^◌}
use Rattle.layout.specs.declared.path.ExitPath.{ExitPath}
use Rattle.selection.specs.declared.criterion.Criterion.{Criterion}
use Rattle.selection.specs.declared.criterion.Criterion.TheVariants.{HighestPreference, ShortestAsPath, LowestMed}

-- what a criterion compares
abbrev pub compared : Criterion → ExitPath → ℕ
compared HighestPreference x = x.local_pref
compared ShortestAsPath x = x.as_path_len
compared LowestMed x = x.med

-- a number that is lower for the better of two paths, where what is compared has 32 bits
abbrev pub rank : Criterion → ExitPath → ℕ
rank HighestPreference x = 2 ^ 32 - 1 - x.local_pref
rank ShortestAsPath x = x.as_path_len
rank LowestMed x = x.med
