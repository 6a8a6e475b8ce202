-- The first of the numbers below n that no other beats. Assumes nothing.
use Rattle.std.proofs.Common.{◌≡◌, ℕ, zero, suc, ◌<◌, ◌≤◌, Bool, true, false, cond, Some, None, Option, sym, ap, ◌∙◌, subst, ⊎_elim, arith}
use Rattle.std.specs.Cmp.{IsStrictWeakOrder}
use Rattle.std.proofs.lemmas.Bool.{both_ways, cases_Bool, cases_eq, cond-false}
use Rattle.packets.specs.Best.{the_better, best_below}

module _ (beats : ℕ → ℕ → Bool) (asked : ℕ → Bool) where
  -- none of the numbers below n is asked about, or p is, and is the first that no other beats
  abbrev pub Chosen : ℕ → Option ℕ → Type 0
  Chosen n None = (q : ℕ) → q < n → asked q ≡ true → ⊥
  Chosen n (Some p) = (p < n) × (asked p ≡ true) × ((q : ℕ) → q < n → asked q ≡ true → beats q p ≡ false) × ((q : ℕ) → q < p → asked q ≡ true → beats p q ≡ true)

  -- where none of the numbers from m to n is asked about, the best below n is the best below m
  pub best_unasked : (m n : ℕ) → m ≤ n → ((k : ℕ) → m ≤ k → k < n → asked k ≡ false) → best_below beats asked n ≡ best_below beats asked m
  unfolding best_below
  best_unasked m zero le none = let here : 0 ≡ m = omega (arith, le) in ap (best_below beats asked) here
  best_unasked m (suc n) le none =
      ⊎_elim
      (λ e. ap (best_below beats asked) (sym e))
      (λ ne. cond-false (asked n) _ _ (none n (omega arith) (omega arith)) ∙ best_unasked m n (omega arith) (λ k from lt. none k from (omega arith)))
      (cases_eq m (suc n))

module _ (beats : ℕ → ℕ → Bool) (asked : ℕ → Bool) (ranks : IsStrictWeakOrder beats) where
  itself : (p : ℕ) → beats p p ≡ false
  itself p = ⊎_elim (λ e. ranks.one_way p p e) (λ e. e) (cases_Bool (beats p p))

  -- where x beats the best so far, every other is beaten by x
  rest_beaten : (x y z : ℕ) → beats x z ≡ true → beats y z ≡ false → beats x y ≡ true
  rest_beaten x y z e f = ⊎_elim (λ g. g) (λ g. absurd (both_ways (beats x z) (ranks.chain x y z g f) e)) (cases_Bool (beats x y))

  below_or_last : (P : ℕ → Type 0) (n : ℕ) → ((q : ℕ) → q < n → P q) → P n → (q : ℕ) → q < suc n → P q
  below_or_last P n before last q lt = ⊎_elim (λ e. subst P (sym e) last) (λ ne. before q (omega arith)) (cases_eq q n)

  with_last : (n : ℕ) (o : Option ℕ) → asked n ≡ true → Chosen beats asked n o → Chosen beats asked (suc n) (Some (the_better beats n o))
  with_last n None a h = (
    omega arith,
    a,
    below_or_last (λ q. asked q ≡ true → beats q n ≡ false) n (λ q lt e. absurd (h q lt e)) (λ _. itself n),
    λ q lt e. absurd (h q lt e),
  )
  with_last n (Some p) a h =
      ⊎_elim
      (λ wins. let better = λ (q : ℕ) (lt : q < n) (e : asked q ≡ true). rest_beaten n q p wins (h.2 q lt e) in
      subst (λ (b : Bool). Chosen beats asked (suc n) (Some (cond b n p))) (sym wins) (
        omega arith,
        a,
        below_or_last (λ q. asked q ≡ true → beats q n ≡ false) n (λ q lt e. ranks.one_way n q (better q lt e)) (λ _. itself n),
        better,
      ))
      (λ loses. subst (λ (b : Bool). Chosen beats asked (suc n) (Some (cond b n p))) (sym loses) (
        omega (arith, h.0),
        h.1,
        below_or_last (λ q. asked q ≡ true → beats q p ≡ false) n h.2 (λ _. loses),
        h.3,
      ))
      (cases_Bool (beats n p))

  without_last : (n : ℕ) (o : Option ℕ) → asked n ≡ false → Chosen beats asked n o → Chosen beats asked (suc n) o
  without_last n None a h = below_or_last (λ q. asked q ≡ true → ⊥) n h (λ e. both_ways (asked n) a e)
  without_last n (Some p) a h = (
    omega (arith, h.0),
    h.1,
    below_or_last (λ q. asked q ≡ true → beats q p ≡ false) n h.2 (λ e. absurd (both_ways (asked n) a e)),
    h.3,
  )

  pub chosen : (n : ℕ) → Chosen beats asked n (best_below beats asked n)
  unfolding best_below
  chosen zero = λ q lt e. absurd (omega arith)
  chosen (suc n) =
      let o = best_below beats asked n in
      ⊎_elim
      (λ a. subst (λ (b : Bool). Chosen beats asked (suc n) (cond b (Some (the_better beats n o)) o)) (sym a) (with_last n o a (chosen n)))
      (λ a. subst (λ (b : Bool). Chosen beats asked (suc n) (cond b (Some (the_better beats n o)) o)) (sym a) (without_last n o a (chosen n)))
      (cases_Bool (asked n))
