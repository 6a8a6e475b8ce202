use Rattle.std.proofs.Common.{◌≡◌, ℕ, ◌<◌, ◌≤◌}
use Rattle.costs.specs.Cost.{plain}
use Rattle.distances.specs.Held.{cost_at, unlinked_cost}
use Rattle.distances.proofs.matrix.unlinked.Given as goal

-- the first routers cost nothing from themselves, and nothing else is reached
abbrev pub invariant-loop-v : goal.invariant-loop-v
invariant-loop-v l =
    ((a b : ℕ) → a < l.v → b < 32 → cost_at l.row-items a b ≡ unlinked_cost a b)
    × ((a b : ℕ) → l.v ≤ a → a < 32 → b < 32 → cost_at l.row-items a b ≡ plain.unreached)
