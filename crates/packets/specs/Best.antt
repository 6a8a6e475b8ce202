-- The best path of a router, as it is worked out. Assumes nothing.
use Rattle.std.specs.Prelude.{ℕ, zero, suc, Bool, cond, not, ◌&&◌, ◌||◌, length, Some, None, Option, ◌==◌, nat_lt}
use Rattle.costs.specs.Cost.{Cost}
use Rattle.costs.specs.Least.{distance}
use Rattle.layout.specs.Table.{Declared, path_at}
use Rattle.sets.specs.Members.{member}

-- the exit point of path p
abbrev pub exit_of : Declared → ℕ → ℕ
exit_of t p = (path_at t.paths p).exit_point

abbrev pub speaker_of : Declared → ℕ → ℕ
speaker_of t p = (path_at t.paths p).speaker

-- the better by a test of p and the best so far, which has a lower number
abbrev pub the_better : (ℕ → ℕ → Bool) → ℕ → Option ℕ → ℕ
the_better beats p None = p
the_better beats p (Some q) = cond (beats p q) p q

-- of the numbers below n that are asked about, the first that no other beats
unfoldable pub best_below : (ℕ → ℕ → Bool) → (ℕ → Bool) → ℕ → Option ℕ
best_below beats asked zero = None
best_below beats asked (suc n) = cond (asked n) (Some (the_better beats n (best_below beats asked n))) (best_below beats asked n)

module _ {C : Type 0} (cost : Cost C) (t : Declared) where
  -- the metric of path p at router v: the distance to its exit point, and then its exit cost
  abbrev pub metric : ℕ → ℕ → C
  metric v p = cost.join (distance cost t v (exit_of t p)) (cost.of_exit (path_at t.paths p))

  -- whether path p is nearer to router v than path q, or as near and of a lower speaker
  abbrev pub nearer : ℕ → ℕ → ℕ → Bool
  nearer v p q = not (cost.at_most (metric v q) (metric v p)) || (cost.at_most (metric v p) (metric v q) && nat_lt (speaker_of t p) (speaker_of t q))

  -- whether router v takes path p rather than path q: first its own exit paths, and then the nearer one
  abbrev pub takes_first : ℕ → ℕ → ℕ → Bool
  takes_first v p q = cond (exit_of t p == v) (not (exit_of t q == v) || nearer v p q) (not (exit_of t q == v) && nearer v p q)

  -- the best path of router v of a set
  abbrev pub best : ℕ → ℕ → Option ℕ
  best s v = best_below (takes_first v) (member s) (length t.paths)
