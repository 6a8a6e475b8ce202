-- Walks over links, what they cost, and the distance between two routers. Assumes nothing.
use Rattle.std.specs.Prelude.{◌≡◌, ℕ, List}
use Rattle.layout.specs.WellFormed.{Chain, stay, along}
use Rattle.layout.specs.declared.link.Link.{Link}
use Rattle.costs.specs.Cost.{Cost, AtMost}

module _ {C : Type 0} (cost : Cost C) where
  -- what the links of a walk cost, joined from its first router on
  abbrev pub walk_cost : {links : List Link} {a b : ℕ} → Chain links a b → C
  walk_cost (stay a) = cost.zero_cost
  walk_cost (along a b c l rest) = cost.join (cost.of_link l.0) (walk_cost rest)

-- d is the distance from a to b: some walk costs d, and no walk costs less
pub record Distance {C : Type 0} (cost : Cost C) (links : List Link) (a b : ℕ) (d : C) : Type 0 where
  pub some_walk : (w : Chain links a b) × (walk_cost cost w ≡ d)
  pub no_less : (w : Chain links a b) → AtMost cost d (walk_cost cost w)
