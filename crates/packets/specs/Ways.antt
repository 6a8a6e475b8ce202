-- The way of a packet, as it is followed. Assumes nothing.
use Rattle.std.specs.Prelude.{ℕ, zero, suc, cond, List, [], ◌∷◌, length, Some, None, Option, ◌==◌}
use Rattle.costs.specs.Cost.{Cost}
use Rattle.layout.specs.Table.{Declared}
use Rattle.packets.specs.Best.{exit_of, best}
use Rattle.packets.specs.Hops.{hop}

-- the routers that a packet meets, first and last included, and the path by which it leaves; none where it does not leave
abbrev pub Course : Type 0
Course = Option (List ℕ × ℕ)

-- the same from v on
abbrev pub after : ℕ → Course → Course
after v None = None
after v (Some r) = Some (v ∷ r.0, r.1)

abbrev pub onward : (ℕ → Course) → Option ℕ → Course
onward go None = None
onward go (Some w) = go w

module _ {C : Type 0} (cost : Cost C) (t : Declared) where
  -- from router v, which takes the path p: out, if that is one of its own, or else on from the next hop
  abbrev pub sent : (ℕ → Course) → ℕ → Option ℕ → Course
  sent go v None = None
  sent go v (Some p) = cond (exit_of t p == v) (Some (v ∷ [], p)) (after v (onward go (hop cost t v (exit_of t p))))

  -- where each router takes the path that is chosen for it; n is the most routers to meet
  unfoldable pub course : (ℕ → Option ℕ) → ℕ → ℕ → Course
  course choice zero v = None
  course choice (suc n) v = sent (course choice n) v (choice v)

  -- where each router takes its best path of a set
  abbrev pub way : ℕ → ℕ → Course
  way s v = course (best cost t s) (length t.routers) v
