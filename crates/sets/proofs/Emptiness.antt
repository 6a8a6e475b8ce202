-- Words without members: only 0 is one.
use Rattle.std.proofs.Common.{◌≡◌, ℕ, zero, suc, ◌<◌, true, eqb, Decides, sym, ap, ◌∙◌, zero-lt-suc}
use Rattle.std.proofs.lemmas.Bool.{both_ways, eqb-true, eq-eqb}
use Rattle.sets.specs.Members.{member, Empty}
use Rattle.sets.proofs.Digits.{member_none}
use Rattle.sets.proofs.Same.{same_set}

pub empty_zero : (a : ℕ) → a ≡ 0 → Empty a
empty_zero a e k = ap (λ (x : ℕ). member x k) e ∙ member_none k

pub zero_word : (a : ℕ) → Empty a → a ≡ 0
zero_word a none = same_set a 0 (λ k. none k ∙ sym (member_none k))

pub decides_empty : (a : ℕ) → Decides (eqb a 0) (Empty a)
decides_empty a = (λ e. empty_zero a (eqb-true a 0 e), λ none. eq-eqb a 0 (zero_word a none))

-- a word with a member is not 0
pub word_pos : (a k : ℕ) → member a k ≡ true → 0 < a
word_pos zero k m = absurd (both_ways (member 0 k) (member_none k) m)
word_pos (suc a) k m = zero-lt-suc a
