use Rattle.std.proofs.Common.{◌≡◌, ℕ, ◌<◌, drop}
use Rattle.costs.specs.Cost.{plain}
use Rattle.costs.specs.Least.{by_links}
use Rattle.distances.specs.Held.{cost_at}
use Rattle.distances.proofs.matrix.link.Given as goal

-- the links that are left take these costs to those of all links
abbrev pub invariant-loop-link : goal.invariant-loop-link
invariant-loop-link l = (a b : ℕ) → a < 32 → b < 32 → by_links plain (cost_at l.costs a b) (drop l.link-index l.links) a b ≡ by_links plain (cost_at l.initial.costs a b) l.links a b
