-- The order in which a router takes paths: its own first, then the nearer. Assumes nothing.
use Rattle.std.proofs.Common.{◌≡◌, ℕ, ◌≤◌, Bool, true, false, cond, not, ◌&&◌, ◌||◌, eqb, ltb, sym, refl, ⊎_elim, arith}
use Rattle.std.specs.Cmp.{IsStrictWeakOrder}
use Rattle.std.proofs.lemmas.Bool.{both_ways, cases_Bool, not-true, not-false, not_from_true, or_parts, or_from, or_cases, and_parts, and_cases, and_left, and_right, ltb-true, ltb-false, le-ltb}
use Rattle.costs.specs.Cost.{Cost, CostLaws, AtMost}
use Rattle.costs.proofs.Orders.{at_most_from_less}
use Rattle.layout.specs.Table.{Declared}
use Rattle.packets.specs.Best.{exit_of, speaker_of, metric, nearer, takes_first}

-- whether x is taken before y, by whether each is the router's own, and whether x is nearer
abbrev own_first : Bool → Bool → Bool → Bool
own_first x y near = cond x (not y || near) (not y && near)

own_one_way : (x y near back : Bool) → (near ≡ true → back ≡ false) → own_first x y near ≡ true → own_first y x back ≡ false
own_one_way true true near back h e = h e
own_one_way true false near back h e = refl
own_one_way false true near back h e = absurd (both_ways true (sym e) refl)
own_one_way false false near back h e = h e

own_chain : (x y z near then both : Bool) → (near ≡ false → then ≡ false → both ≡ false) → own_first x y near ≡ false → own_first y z then ≡ false → own_first x z both ≡ false
own_chain true true true near then both h e f = h e f
own_chain true true false near then both h e f = absurd (both_ways true f refl)
own_chain true false z near then both h e f = absurd (both_ways true e refl)
own_chain false true true near then both h e f = refl
own_chain false true false near then both h e f = absurd (both_ways true f refl)
own_chain false false true near then both h e f = refl
own_chain false false false near then both h e f = h e f

module _ {C : Type 0} (cost : Cost C) (laws : CostLaws cost) (t : Declared) (v : ℕ) where
  abbrev m : ℕ → C
  m p = metric cost t v p

  -- q is as near as p, and where they are as near as each other, of no higher speaker
  abbrev pub AsNear : ℕ → ℕ → Type 0
  AsNear p q = AtMost cost (m q) (m p) × (AtMost cost (m p) (m q) → speaker_of t q ≤ speaker_of t p)

  pub as_near : (p q : ℕ) → nearer cost t v p q ≡ false → AsNear p q
  as_near p q e =
      let parts = or_parts (not (cost.at_most (m q) (m p))) (cost.at_most (m p) (m q) && ltb (speaker_of t p) (speaker_of t q)) e in (
        not-false _ parts.0,
        λ le. ⊎_elim (λ no_le. absurd (both_ways _ no_le le)) (λ no_lt. ltb-false _ _ no_lt) (and_cases _ _ parts.1),
      )

  not_nearer : (p q : ℕ) → AsNear p q → nearer cost t v p q ≡ false
  not_nearer p q h =
      or_from _ _ (not_from_true _ h.0) (⊎_elim (λ le. and_right _ _ (le-ltb _ _ (h.1 le))) (λ no_le. and_left _ _ no_le) (cases_Bool (cost.at_most (m p) (m q))))

  near_one_way : (p q : ℕ) → nearer cost t v p q ≡ true → nearer cost t v q p ≡ false
  near_one_way p q e =
      ⊎_elim
      (λ less. not_nearer q p (at_most_from_less laws _ _ (not-true _ less), λ le. absurd (both_ways _ (not-true _ less) le)))
      (λ tie. let parts = and_parts _ _ tie in not_nearer q p (parts.0, λ _. omega (arith, ltb-true _ _ parts.1)))
      (or_cases _ _ e)

  near_chain : (p q r : ℕ) → nearer cost t v p q ≡ false → nearer cost t v q r ≡ false → nearer cost t v p r ≡ false
  near_chain p q r e f =
      let first = as_near p q e in
      let last = as_near q r f in
      not_nearer p r (
        laws.transitive _ _ _ last.0 first.0,
        λ le. omega (arith, first.1 (laws.transitive _ _ _ le last.0), last.1 (laws.transitive _ _ _ first.0 le)),
      )

  pub taking_ranks : IsStrictWeakOrder (takes_first cost t v)
  taking_ranks = record {
    one_way = λ p q. own_one_way (eqb (exit_of t p) v) (eqb (exit_of t q) v) (nearer cost t v p q) (nearer cost t v q p) (near_one_way p q);
    chain = λ p q r. own_chain (eqb (exit_of t p) v) (eqb (exit_of t q) v) (eqb (exit_of t r) v) (nearer cost t v p q) (nearer cost t v q r) (nearer cost t v p r) (near_chain p q r);
  }
