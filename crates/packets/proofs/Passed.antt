-- The best of a set that is gone through from the least member up. Assumes nothing.
use Rattle.std.proofs.Common.{◌≡◌, ℕ, suc, ◌+◌, ◌<◌, ◌≤◌, min, Bool, true, false, ◌&&◌, leb, Some, None, Option, sym, ap, ◌∙◌, arith}
use Rattle.std.proofs.lemmas.Bool.{and_parts, cond-true}
use Rattle.std.proofs.lemmas.Bool.Decides.{nat_tests}
use Rattle.sets.specs.Members.{member, Empty, Least}
use Rattle.selection.proofs.Taking.{Taken}
use Rattle.packets.specs.Best.{the_better, best_below}
use Rattle.packets.proofs.Chosen.{best_unasked}

-- of s the numbers below `bound` are gone through and the others are in rest, and `best` is the best of those below n that are
-- gone through
pub record Passed (beats : ℕ → ℕ → Bool) (n s rest : ℕ) (best : Option ℕ) : Type 0 where
  pub bound : ℕ
  pub left : (k : ℕ) → member rest k ≡ (member s k && leb bound k)
  pub is : best ≡ best_below beats (member s) (min bound n)

module _ (beats : ℕ → ℕ → Bool) (n s : ℕ) where
  pub passed_none : Passed beats n s s None
  unfolding best_below
  passed_none = record {
    bound = 0;
    left = λ k. grind (arith, nat_tests);
    is = let none : 0 ≡ min 0 n = omega arith in ap (best_below beats (member s)) none;
  }

  module _ (rest : ℕ) (best : Option ℕ) (so : Passed beats n s rest best) where
    in_set : (p : ℕ) → member rest p ≡ true → (member s p ≡ true) × (so.bound ≤ p)
    in_set p held = let parts = and_parts (member s p) (leb so.bound p) (sym (so.left p) ∙ held) in (parts.0, grind (arith, nat_tests, parts.1))

    -- from the bound up s has no others than those that are left
    out_of_set : (k : ℕ) → so.bound ≤ k → member rest k ≡ false → member s k ≡ false
    out_of_set k le out = let here = so.left k in grind (arith, nat_tests, here)

    -- where none is left below m, the best so far is the best below m
    best_up_to : (m : ℕ) → min so.bound n ≤ m → m ≤ n → ((k : ℕ) → k < m → member rest k ≡ false) → best ≡ best_below beats (member s) m
    best_up_to m from to none = so.is ∙ sym (best_unasked beats (member s) (min so.bound n) m from (λ k le lt. out_of_set k (omega (arith, le, lt, to)) (none k lt)))

    pub passed_ends : Empty rest → best ≡ best_below beats (member s) n
    passed_ends none = best_up_to n (omega arith) (omega arith) (λ k lt. none k)

    module _ (p r : ℕ) (least : Least rest p) (taken : Taken rest p r) where
      low : so.bound ≤ p
      low = (in_set p least.0).1

      left : (k : ℕ) → member r k ≡ (member s k && leb (p + 1) k)
      left k =
          let here = so.left k in
          let next = taken k in
          let before = least.1 k in
          let bound = low in
          grind (arith, nat_tests, here, next, before, bound)

      pub passed_more : p < n → Passed beats n s r (Some (the_better beats p best))
      unfolding best_below
      passed_more lt = let next : suc p ≡ min (p + 1) n = omega (arith, lt) in record {
        bound = p + 1;
        left = left;
        is =
            ap (λ (o : Option ℕ). Some (the_better beats p o)) (best_up_to p (omega (arith, low)) (omega (arith, lt)) least.1)
            ∙ sym (cond-true (member s p) _ _ (in_set p least.0).0)
            ∙ ap (best_below beats (member s)) next;
      }

      -- p is no number below n
      pub passed_over : n ≤ p → Passed beats n s r best
      passed_over le = let end : n ≡ min (p + 1) n = omega (arith, le) in record {
        bound = p + 1;
        left = left;
        is = best_up_to n (omega arith) (omega arith) (λ k lt. least.1 k (omega (arith, lt, le))) ∙ ap (best_below beats (member s)) end;
      }
