-- The distance between two routers, as it is worked out. Assumes nothing.
use Rattle.std.specs.Prelude.{ℕ, zero, suc, Bool, cond, List, [], ◌∷◌, length, ◌==◌}
use Rattle.layout.specs.Checks.{same_pair}
use Rattle.layout.specs.Table.{Declared}
use Rattle.layout.specs.declared.link.Link.{Link}
use Rattle.costs.specs.Cost.{Cost, lesser}

-- whether a link joins a and b
abbrev pub joins : Link → ℕ → ℕ → Bool
joins l a b = same_pair l.ends (record { a = a; b = b })

module _ {C : Type 0} (cost : Cost C) where
  -- the lesser of d and the links between a and b
  unfoldable pub by_links : C → List Link → ℕ → ℕ → C
  by_links d [] a b = d
  by_links d (l ∷ ls) a b = by_links (cond (joins l a b) (lesser cost d (cost.of_link l)) d) ls a b

  -- the least cost from a to b without a router between them
  abbrev pub direct : List Link → ℕ → ℕ → C
  direct links a b = by_links (cond (a == b) cost.zero_cost cost.unreached) links a b

  -- the least cost from a to b with no other than the first k routers between them
  unfoldable pub over : List Link → ℕ → ℕ → ℕ → C
  over links zero a b = direct links a b
  over links (suc k) a b = lesser cost (over links k a b) (cost.join (over links k a k) (over links k k b))

  -- the distance from a to b over the links of a table
  abbrev pub distance : Declared → ℕ → ℕ → C
  distance t a b = over t.links (length t.routers) a b
