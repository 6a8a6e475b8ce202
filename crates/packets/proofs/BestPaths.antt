-- The best path that is worked out is the one candidate that no other beats. Assumes nothing.
use Rattle.std.proofs.Common.{◌≡◌, ℕ, ◌<◌, Bool, true, false, cond, not, ◌&&◌, ◌||◌, eqb, ◌⊎◌, length, Some, None, Option, sym, ap, ◌∙◌, inl, inr, ⊎_elim, arith}
use Rattle.std.proofs.lemmas.Bool.{both_ways, cases_eq, cases_order, eq-eqb, ne_eqb, not-true, or_cases, and_parts, ltb-true}
use Rattle.costs.specs.Cost.{Cost, CostLaws}
use Rattle.costs.proofs.Orders.{at_most_from_same, at_most_or_less, not_less}
use Rattle.layout.specs.Table.{Declared}
use Rattle.sets.specs.Members.{member}
use Rattle.packets.specs.Best.{exit_of, speaker_of, metric, nearer, takes_first, best}
use Rattle.packets.specs.BestPlain.{Candidate, Beats, Best, BestIs, Nearest}
use Rattle.packets.proofs.Chosen.{Chosen, chosen}
use Rattle.packets.proofs.Taking.{as_near, taking_ranks}

module _ {C : Type 0} (cost : Cost C) (laws : CostLaws cost) (t : Declared) (s v : ℕ) where
  -- between two paths of which both or none are the router's own, the nearer is taken
  both_own : (p q : ℕ) → exit_of t p ≡ v → exit_of t q ≡ v → takes_first cost t v p q ≡ nearer cost t v p q
  both_own p q e f =
      ap (λ (b : Bool). cond b (not (eqb (exit_of t q) v) || nearer cost t v p q) (not (eqb (exit_of t q) v) && nearer cost t v p q)) (eq-eqb _ _ e)
      ∙ ap (λ (b : Bool). not b || nearer cost t v p q) (eq-eqb _ _ f)

  none_own : (p q : ℕ) → (exit_of t p ≡ v → ⊥) → (exit_of t q ≡ v → ⊥) → takes_first cost t v p q ≡ nearer cost t v p q
  none_own p q e f =
      ap (λ (b : Bool). cond b (not (eqb (exit_of t q) v) || nearer cost t v p q) (not (eqb (exit_of t q) v) && nearer cost t v p q)) (ne_eqb _ _ e)
      ∙ ap (λ (b : Bool). not b && nearer cost t v p q) (ne_eqb _ _ f)

  -- an own path is taken before any other
  own_before : (p q : ℕ) → exit_of t p ≡ v → (exit_of t q ≡ v → ⊥) → takes_first cost t v p q ≡ true
  own_before p q e f =
      ap (λ (b : Bool). cond b (not (eqb (exit_of t q) v) || nearer cost t v p q) (not (eqb (exit_of t q) v) && nearer cost t v p q)) (eq-eqb _ _ e)
      ∙ ap (λ (b : Bool). not b || nearer cost t v p q) (ne_eqb _ _ f)

  -- of two candidates both or none are the router's own
  alike : (p q : ℕ) → Candidate t s v p → Candidate t s v q → ((exit_of t p ≡ v) × (exit_of t q ≡ v)) ⊎ ((exit_of t p ≡ v → ⊥) × (exit_of t q ≡ v → ⊥))
  alike p q cp cq =
      ⊎_elim
      (λ e. ⊎_elim (λ f. inl (e, f)) (λ none. absurd (none p cp.0 e)) cq.1)
      (λ none. inr (none p cp.0, none q cq.0))
      cp.1

  taken_nearer : (p q : ℕ) → Candidate t s v p → Candidate t s v q → takes_first cost t v p q ≡ nearer cost t v p q
  taken_nearer p q cp cq = ⊎_elim (λ h. both_own p q h.0 h.1) (λ h. none_own p q h.0 h.1) (alike p q cp cq)

  unbeaten : (p q : ℕ) → nearer cost t v q p ≡ false → (q < p → nearer cost t v p q ≡ true) → Beats cost t v q p → ⊥
  unbeaten p q no_nearer first (inl less) = not_less laws _ _ (as_near cost laws t v q p no_nearer).0 less
  unbeaten p q no_nearer first (inr (same, inl lower)) =
      let le = (as_near cost laws t v q p no_nearer).1 (at_most_from_same laws _ _ same) in
      omega (arith, le, lower)
  unbeaten p q no_nearer first (inr (same, inr (speaker, before))) =
      ⊎_elim
      (λ less. both_ways _ (not-true _ less) (at_most_from_same laws _ _ same))
      (λ tie. omega (arith, ltb-true (speaker_of t p) (speaker_of t q) (and_parts _ _ tie).1, speaker))
      (or_cases _ _ (first before))

  told : (o : Option ℕ) → Chosen (takes_first cost t v) (member s) (length t.paths) o → BestIs cost t s v o
  told None h = λ q offered. h q offered.0 offered.1
  told (Some p) h =
      let candidate : Candidate t s v p = (
        (h.0, h.1),
        ⊎_elim (λ e. inl e) (λ other. inr (λ q offered e. both_ways _ (h.2 q offered.0 offered.1) (own_before q p e other))) (cases_eq (exit_of t p) v),
      ) in (
        candidate,
        λ q cq. unbeaten p q (sym (taken_nearer q p cq candidate) ∙ h.2 q cq.0.0 cq.0.1)
            (λ lt. sym (taken_nearer p q candidate cq) ∙ h.3 q lt cq.0.1),
      )

  pub best_is : BestIs cost t s v (best cost t s v)
  best_is = told (best cost t s v) (chosen (takes_first cost t v) (member s) (taking_ranks cost laws t v) (length t.paths))

  -- no candidate has a lower metric than the best path
  pub best_nearest : (p : ℕ) → Best cost t s v p → Nearest cost t s v p
  best_nearest p h = (
    h.0,
    λ q cq. ⊎_elim (λ le. le) (λ less. absurd (h.1 q cq (inl less))) (at_most_or_less laws (metric cost t v p) (metric cost t v q)),
  )

  level : (p q : ℕ) → Best cost t s v p → Best cost t s v q → metric cost t v p ≡ metric cost t v q → p ≡ q
  level p q h g same =
      elim (cases_order (speaker_of t p) (speaker_of t q)) [
        | inl e ↦ elim (cases_order p q) [
          | inl one ↦ one
          | inr o ↦ elim o [
            | inl lt ↦ absurd (g.1 p h.0 (inr (same, inr (e, lt))))
            | inr lt ↦ absurd (h.1 q g.0 (inr (sym same, inr (sym e, lt))))
          ]
        ]
        | inr o ↦ elim o [
          | inl lt ↦ absurd (g.1 p h.0 (inr (same, inl lt)))
          | inr lt ↦ absurd (h.1 q g.0 (inr (sym same, inl lt)))
        ]
      ]

  -- no set has two best paths
  one_best : (p q : ℕ) → Best cost t s v p → Best cost t s v q → p ≡ q
  one_best p q h g =
      ⊎_elim
      (λ le. ⊎_elim (λ back. level p q h g (laws.no_tie _ _ le back)) (λ less. absurd (g.1 p h.0 (inl less))) (at_most_or_less laws (metric cost t v q) (metric cost t v p)))
      (λ less. absurd (h.1 q g.0 (inl less)))
      (at_most_or_less laws (metric cost t v p) (metric cost t v q))

  taken : (p : ℕ) (o : Option ℕ) → Best cost t s v p → BestIs cost t s v o → o ≡ Some p
  taken p None h none = absurd (none p h.0.0)
  taken p (Some q) h g = ap Some (one_best q p g h)

  -- so a path that is best is the one that is worked out
  pub best_from : (p : ℕ) → Best cost t s v p → best cost t s v ≡ Some p
  best_from p h = taken p (best cost t s v) h best_is
