-- The way that is followed is the way of the packet. Assumes nothing.
use Rattle.std.proofs.Common.{◌≡◌, ℕ, zero, suc, ◌<◌, ◌≤◌, eqb, List, ◌∷◌, length, Some, None, Option, refl, ap, ◌∙◌, arith}
use Rattle.std.proofs.lemmas.Bool.{eq-eqb, ne_eqb, cond-true, cond-false}
use Rattle.costs.specs.Cost.{Cost, CostLaws}
use Rattle.costs.proofs.Once.{once_short}
use Rattle.layout.specs.Table.{Declared}
use Rattle.selection.specs.Laws.{Offered}
use Rattle.packets.specs.Best.{exit_of, best}
use Rattle.packets.specs.BestPlain.{BestIs, Nearest}
use Rattle.packets.specs.Ways.{after, onward, sent, course, way}
use Rattle.packets.specs.WaysPlain.{Way, out, on, Choosing, LeavesFrom}
use Rattle.packets.proofs.BestPaths.{best_is, best_nearest}
use Rattle.packets.proofs.Leaving.{Measured, hop_below, leaves_from, met_below, met_once, way_exists}
use Rattle.packets.proofs.NextHops.{hop_from}

module _ {C : Type 0} (cost : Cost C) (laws : CostLaws cost) (t : Declared) (measured : Measured cost t) where
  abbrev n : ℕ
  n = length t.routers

  module _ (s : ℕ) (choice : ℕ → Option ℕ) (choosing : Choosing cost t s choice) where
    pub course_from : (fuel v : ℕ) (met : List ℕ) (path : ℕ) → v < n → Way cost t choice v met path → length (v ∷ met) ≤ fuel → course cost t choice fuel v ≡ Some (v ∷ met, path)
    unfolding course
    course_from zero v met path hv w short = absurd (omega arith)
    course_from (suc fuel) v met path hv (out x p e own) short =
        ap (sent cost t (course cost t choice fuel) v) e ∙ cond-true (eqb (exit_of t p) v) _ _ (eq-eqb _ _ own)
    course_from (suc fuel) v met path hv (on x p w more end e ne next rest) short =
        let hw = hop_below cost laws t measured s choice choosing v p w next in
        ap (sent cost t (course cost t choice fuel) v) e ∙ cond-false (eqb (exit_of t p) v) _ _ (ne_eqb _ _ ne)
        ∙ ap (λ o. after v (onward (course cost t choice fuel) o)) (hop_from cost laws t v (exit_of t p) w hw next)
        ∙ ap (after v) (course_from fuel w more end hw rest (omega arith))

    -- no more routers are met than there are
    pub met_short : (v : ℕ) (met : List ℕ) (path : ℕ) → v < n → Way cost t choice v met path → length (v ∷ met) ≤ n
    met_short v met path hv w =
        once_short n (v ∷ met) (met_once cost laws t measured s choice choosing v met path hv w) (met_below cost laws t measured s choice choosing v met path hv w)

  best_choice : (s v q : ℕ) → Offered t.paths s q → (o : Option ℕ) → BestIs cost t s v o → (p : ℕ) × (o ≡ Some p) × Nearest cost t s v p
  best_choice s v q offered None h = absurd (h q offered)
  best_choice s v q offered (Some p) h = (p, refl, best_nearest cost laws t s v p h)

  -- the best paths are such a choice
  pub best_choosing : (s q : ℕ) → Offered t.paths s q → Choosing cost t s (best cost t s)
  best_choosing s q offered v hv = best_choice s v q offered (best cost t s v) (best_is cost laws t s v)

  pub leaves : (s v : ℕ) → v < n → LeavesFrom cost t s v
  leaves s v hv q offered =
      let choosing = best_choosing s q offered in
      let w = way_exists cost laws t measured s (best cost t s) choosing v hv in (
        w.0,
        w.1,
        course_from s (best cost t s) choosing n v w.0 w.1 hv w.2 (met_short s (best cost t s) choosing v w.0 w.1 hv w.2),
        leaves_from cost laws t measured s (best cost t s) choosing v w.0 w.1 hv w.2,
      )

  none_best : (s v : ℕ) → ((q : ℕ) → Offered t.paths s q → ⊥) → (o : Option ℕ) → BestIs cost t s v o → o ≡ None
  none_best s v none None h = refl
  none_best s v none (Some p) h = absurd (none p h.0.0)

  no_course : (choice : ℕ → Option ℕ) (fuel v : ℕ) → choice v ≡ None → course cost t choice fuel v ≡ None
  unfolding course
  no_course choice zero v e = refl
  no_course choice (suc fuel) v e = ap (sent cost t (course cost t choice fuel) v) e

  -- without a path there is no way
  pub no_way : (s v : ℕ) → ((q : ℕ) → Offered t.paths s q → ⊥) → way cost t s v ≡ None
  no_way s v none = no_course (best cost t s) n v (none_best s v none (best cost t s v) (best_is cost laws t s v))
