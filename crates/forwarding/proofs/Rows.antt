-- The metric of a path by the distances from a router. Assumes nothing.
use Rattle.std.proofs.Common.{◌≡◌, ℕ, ◌+◌, ◌*◌, ◌<◌, ◌≤◌, List, length, get_or, Ok, Err, sym, ap, ◌∙◌, arith}
use Rattle.std.proofs.lemmas.List.FromFn.{length-map-range_with_len, get_or-map-range_with_len}
use Rattle.std.proofs.lemmas.List.Elements.{All-get_or}
use Rattle.std.proofs.lemmas.Bool.Decides.{nat_tests}
use Rattle.costs.specs.Cost.{plain}
use Rattle.costs.specs.Least.{distance}
use Rattle.distances.specs.Answered.{distances_from, of_router, of_routers, row_answer}
use Rattle.faults.specs.declared.call.CallFault.{CallFault}
use Rattle.layout.specs.Table.{Declared, path_at}
use Rattle.layout.specs.WellFormed.{PathFits, WellFormed}
use Rattle.packets.specs.Best.{exit_of, metric}
use Rattle.packets.proofs.PlainPackets.{sum_near, metric_sum}

-- an answer that is not refused is that of a declared router
pub answered : {X : Type 0} (t : Declared) (v : ℕ) (x y : X) → Ok x ≡ of_router t v (Ok y) → (v < length t.routers) × (x ≡ y)
answered t v x y e = (grind (arith, nat_tests), grind (arith, nat_tests))

module _ (t : Declared) (w : WellFormed t) (v : ℕ) (row : List ℕ) (told : Ok row ≡ row_answer t v) (p : ℕ) (lt : p < length t.paths) where
  pub router_below : v < length t.routers
  router_below = (answered t v row (distances_from t v) told).0

  row_is : row ≡ distances_from t v
  row_is = (answered t v row (distances_from t v) told).1

  exit_below : exit_of t p < length t.routers
  exit_below = (All-get_or (PathFits (length t.routers)) t.paths p _ lt w.sound.paths_fit).at_router

  -- the exit point has its place in the row
  pub exit_in_row : exit_of t p < length row
  exit_in_row = omega (arith, exit_below, ap length row_is, length-map-range_with_len (distance plain t v) 0 (length t.routers))

  -- what stands there, and the exit cost, are the metric
  pub row_sum : get_or row (exit_of t p) 0 + (path_at t.paths p).exit_cost ≡ metric plain t v p
  row_sum =
      ap (λ (ys : List ℕ). get_or ys (exit_of t p) 0 + (path_at t.paths p).exit_cost) row_is
      ∙ ap (λ (d : ℕ). d + (path_at t.paths p).exit_cost) (get_or-map-range_with_len (distance plain t v) 0 (length t.routers) (exit_of t p) (exit_of t p) 0 exit_below (omega arith))
      ∙ sym (metric_sum t w v p router_below lt)

  pub row_near : get_or row (exit_of t p) 0 + (path_at t.paths p).exit_cost ≤ 32 * 65535
  row_near = omega (arith, row_sum, metric_sum t w v p router_below lt, sum_near t w v p router_below lt)

-- an answer about a declared router
pub answers : {X : Type 0} (t : Declared) (v : ℕ) (x y : X) → v < length t.routers → x ≡ y → Ok x ≡ of_router t v (Ok y)
answers t v x y lt e = grind (arith, nat_tests)

-- the same of two routers
pub both_answered : {X : Type 0} (t : Declared) (a b : ℕ) (x y : X) → Ok x ≡ of_routers t a b (Ok y) → (a < length t.routers) × (b < length t.routers) × (x ≡ y)
both_answered t a b x y e = (grind (arith, nat_tests), grind (arith, nat_tests), grind (arith, nat_tests))

pub both_answers : {X : Type 0} (t : Declared) (a b : ℕ) (x y : X) → a < length t.routers → b < length t.routers → x ≡ y → Ok x ≡ of_routers t a b (Ok y)
both_answers t a b x y la lb e = grind (arith, nat_tests)

pub both_not_refused : {X : Type 0} (t : Declared) (a b : ℕ) (y : X) (fault : CallFault) → a < length t.routers → b < length t.routers → Err fault ≡ of_routers t a b (Ok y) → ⊥
both_not_refused t a b y fault la lb e = grind (arith, nat_tests)
