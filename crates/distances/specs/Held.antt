-- Costs between routers in the rows of an array, and the distances of a table in them. Assumes nothing.
use Rattle.std.specs.Prelude.{◌≡◌, ℕ, ◌<◌, cond, List, [], length, ◌==◌, slice_index, slice_index_or}
use Rattle.layout.specs.Table.{Declared}
use Rattle.costs.specs.Cost.{plain, lesser}
use Rattle.costs.specs.Walks.{Distance}

-- the cost from a to b stands in row a, in place b
abbrev pub cost_at : List (List ℕ) → ℕ → ℕ → ℕ
cost_at costs a b = slice_index (slice_index_or costs a []) b

-- between the first n routers, the costs are those of f
abbrev pub Costs : ℕ → (ℕ → ℕ → ℕ) → List (List ℕ) → Type 0
Costs n f costs = (a b : ℕ) → a < n → b < n → cost_at costs a b ≡ f a b

-- a router costs nothing from itself, and without a link no other is reached
abbrev pub unlinked_cost : ℕ → ℕ → ℕ
unlinked_cost a b = cond (a == b) plain.zero_cost plain.unreached

-- the lesser of a cost and of the way through router k
abbrev pub cost_through : ℕ → List (List ℕ) → ℕ → ℕ → ℕ
cost_through k costs a b = lesser plain (cost_at costs a b) (plain.join (cost_at costs a k) (cost_at costs k b))

-- the costs are the distances between the routers of a table
abbrev pub Held : Declared → List (List ℕ) → Type 0
Held t costs = (a b : ℕ) → a < length t.routers → b < length t.routers → Distance plain t.links a b (cost_at costs a b)
