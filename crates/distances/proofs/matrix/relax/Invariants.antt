use Rattle.std.proofs.Common.{◌≡◌, ℕ, ◌<◌, ◌≤◌, slice_index}
use Rattle.costs.specs.Cost.{plain, lesser}
use Rattle.distances.proofs.matrix.relax.Given as goal

-- the first places are lowered, and the others are as they were
abbrev pub invariant-loop-j : goal.invariant-loop-j
invariant-loop-j l =
    ((j : ℕ) → j < l.j → slice_index l.row j ≡ lesser plain (slice_index l.initial.row j) (plain.join l.through (slice_index l.via j)))
    × ((j : ℕ) → l.j ≤ j → slice_index l.row j ≡ slice_index l.initial.row j)
