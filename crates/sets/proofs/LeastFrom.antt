-- The least member of a set at or past a number. Assumes nothing.
use Rattle.std.proofs.Common.{◌≡◌, ℕ, ◌+◌, ◌<◌, Bool, true, false, ◌&&◌, get_or, Some, None, Option, MatchOption, sym, refl, ap, ◌∙◌, subst, arith}
use Rattle.std.proofs.lemmas.Bool.{both_ways}
use Rattle.std.proofs.lemmas.List.FromFn.{length-range_with_len, get_or-range_with_len}
use Rattle.std.specs.List.{range_with_len}
use Rattle.std.specs.Prelude.{nat_le}
use Rattle.sets.specs.Members.{member, Empty, Least, least_from}
use Rattle.sets.proofs.Firsts.{First, first}

module _ (width w n : ℕ) where
  -- whether p is a member at or past n
  abbrev pub asks : ℕ → Bool
  asks p = member w p && nat_le n p

  at_place : (k : ℕ) → k < width → get_or (range_with_len 0 width) k 0 ≡ k
  at_place k lt =
      let here : 0 + k ≡ k = omega arith in
      get_or-range_with_len 0 width k 0 lt ∙ here

  place_asks : (k : ℕ) → k < width → (b : Bool) → asks (get_or (range_with_len 0 width) k 0) ≡ b → asks k ≡ b
  place_asks k lt b e = subst (λ j. asks j ≡ b) (at_place k lt) e

  -- what is answered: none, or the first number that is asked for
  abbrev pub LeastFrom : Option ℕ → Type 0
  LeastFrom None = (k : ℕ) → k < width → asks k ≡ false
  LeastFrom (Some p) = (p < width) × (asks p ≡ true) × ((k : ℕ) → k < p → asks k ≡ false)

  by_first : (o : Option ℕ) → First asks 0 (range_with_len 0 width) o → LeastFrom o
  by_first None h = λ k lt. place_asks k lt false (h k 0 (omega (arith, length-range_with_len 0 width, lt)))
  by_first (Some v) h =
      let below : h.0 < width = omega (arith, h.2, length-range_with_len 0 width) in
      let here : v ≡ h.0 = omega (arith, h.1) in (
        subst (λ j. j < width) (sym here) below,
        subst (λ j. asks j ≡ true) (sym here) (place_asks h.0 below true (h.3 0)),
        λ k lt. place_asks k (omega (arith, lt, here, below)) false (h.4 k 0 (omega (arith, lt, here))),
      )

  pub least_from_is : LeastFrom (least_from width w n)
  least_from_is = by_first (least_from width w n) (first asks (range_with_len 0 width))

  -- there is one such answer
  one_least : (a b : Option ℕ) → LeastFrom a → LeastFrom b → a ≡ b
  one_least None None h k = refl
  one_least None (Some q) h k = absurd (both_ways _ (h q k.0) k.1)
  one_least (Some p) None h k = absurd (both_ways _ (k p h.0) h.1)
  one_least (Some p) (Some q) h k =
      let same : p ≡ q = grind (arith, h.1, k.1, h.2 q, k.2 p) in
      ap Some same

  module _ (d : ℕ) (past : (k : ℕ) → k < width → member d k ≡ asks k) where
    by_least : (o : Option ℕ) → MatchOption o (Empty d) (λ m. Least d m × (m < width)) → LeastFrom o
    by_least None empty = λ k lt. sym (past k lt) ∙ empty k
    by_least (Some p) least = (
      least.1,
      sym (past p least.1) ∙ least.0.0,
      λ k lt. sym (past k (omega (arith, lt, least.1))) ∙ least.0.1 k lt,
    )

    -- the least member of the set without the numbers below n
    pub least_is : (o : Option ℕ) → MatchOption o (Empty d) (λ m. Least d m × (m < width)) → o ≡ least_from width w n
    least_is o h = one_least o (least_from width w n) (by_least o h) least_from_is
