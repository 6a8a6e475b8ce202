-- The least member of a word is the count of the zeros below it.
use Rattle.std.proofs.Common.{◌≡◌, ℕ, zero, suc, ◌/◌, ◌%◌, ◌^◌, ◌<◌, true, false, eqb, refl, ap, ◌∙◌, arith}
use lib.Count.{count_trailing_zeros, under}
use Rattle.sets.specs.Members.{member, Least}
use Rattle.sets.proofs.Digits.{member_zero, member_suc, half_below}
use Rattle.sets.proofs.Same.{below_pow}

-- the least member of a, by its lowest digit and the rest
least_step : (a t d : ℕ) → a % 2 ≡ d → d < 2 → (d ≡ 0 → Least (a / 2) t) → Least a (under d t)
least_step a t zero e h rest = (member_suc a t ∙ (rest refl).0, below)
  where
    below : (k : ℕ) → k < suc t → member a k ≡ false
    below zero l = member_zero a ∙ ap (λ (x : ℕ). eqb x 1) e
    below (suc k) l = member_suc a k ∙ (rest refl).1 k (omega arith)
least_step a t (suc zero) e h rest = (member_zero a ∙ ap (λ (x : ℕ). eqb x 1) e, λ k l. absurd (omega arith))
least_step a t (suc (suc d)) e h rest = absurd (omega arith)

pub least_trailing : (w a : ℕ) → 0 < a → a < 2 ^ w → Least a (count_trailing_zeros w a)
unfolding count_trailing_zeros
least_trailing zero a p h = absurd (omega arith)
least_trailing (suc w) a p h =
    least_step a (count_trailing_zeros w (a / 2)) (a % 2) refl (omega arith)
    (λ e. least_trailing w (a / 2) (omega arith) (half_below w a h))

-- a word other than 0 has a member
pub some_member : (a : ℕ) → 0 < a → (k : ℕ) × (member a k ≡ true)
some_member a p = (count_trailing_zeros a a, (least_trailing a a p (below_pow a)).0)
