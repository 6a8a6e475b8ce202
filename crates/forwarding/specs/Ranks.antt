-- What a router compares of two paths. Assumes nothing.
use Rattle.std.specs.Prelude.{ℕ, ◌+◌, ◌*◌, ◌^◌, cond, List, ◌==◌, slice_index}
use Rattle.layout.specs.declared.path.ExitPath.{ExitPath}

-- where path x stands at router v, by the distances from v: a speaker is below 2 ^ 32, and a metric below 2 ^ 31
abbrev pub rank_of : ℕ → List ℕ → ExitPath → ℕ
rank_of v row x = (cond (x.exit_point == v) 0 (2 ^ 31) + (slice_index row x.exit_point + x.exit_cost)) * 2 ^ 32 + x.speaker
