use Rattle.std.proofs.Common.{ℕ, ap, ◌∙◌}
use Rattle.std.proofs.lemmas.List.{get_or-replicate}
use Rattle.sets.specs.Members.{member}
use Rattle.sets.proofs.Digits.{member_none}
use Rattle.declarations.proofs.joined.Joined.new.Goals as goal

pub returns : goal.returns
returns c a b a_fits b_fits =
    ap (λ (w : ℕ). member w b) (get_or-replicate 32 a 0 0 a_fits) ∙ member_none b
