use Rattle.std.proofs.Common.{◌≡◌, ℕ, ◌<◌, ◌≤◌}
use Rattle.distances.specs.Held.{cost_at, cost_through}
use Rattle.distances.proofs.matrix.pass.Given as goal

-- the first rows are lowered, and the others are as they were
abbrev pub invariant-loop-row : goal.invariant-loop-row
invariant-loop-row l =
    ((a b : ℕ) → a < l.row-index → b < 32 → cost_at l.row-items a b ≡ cost_through l.k l.initial.row-items a b)
    × ((a b : ℕ) → l.row-index ≤ a → cost_at l.row-items a b ≡ cost_at l.initial.row-items a b)
