-- What the laws of a cost give for its order and for the lesser of two. Assumes nothing.
use Rattle.std.proofs.Common.{◌≡◌, ◌⊎◌, subst, ⊎_elim}
use Rattle.std.proofs.lemmas.Bool.{both_ways, cases_Bool, or_cases, cond_both}
use Rattle.costs.specs.Cost.{Cost, CostLaws, Fits, AtMost, Less, lesser}

module _ {C : Type 0} {cost : Cost C} (laws : CostLaws cost) where
  -- what is true of a or of b is true of the lesser of them
  pub lesser_keeps : (P : C → Type 0) (a b : C) → P a → P b → P (lesser cost a b)
  lesser_keeps P a b h g = cond_both (cost.at_most a b) a b P (λ _. h) (λ _. g)

  pub at_most_refl : (a : C) → AtMost cost a a
  at_most_refl a = ⊎_elim (λ h. h) (λ h. h) (or_cases (cost.at_most a a) (cost.at_most a a) (laws.total a a))

  pub at_most_from_same : (a b : C) → a ≡ b → AtMost cost a b
  at_most_from_same a b e = subst (AtMost cost a) e (at_most_refl a)

  pub at_most_from_less : (a b : C) → Less cost a b → AtMost cost a b
  at_most_from_less a b h =
      ⊎_elim (λ g. g) (λ g. absurd (both_ways (cost.at_most b a) h g)) (or_cases (cost.at_most a b) (cost.at_most b a) (laws.total a b))

  -- of two costs the first is no more, or the second is less
  pub at_most_or_less : (a b : C) → AtMost cost a b ⊎ Less cost b a
  at_most_or_less a b = cases_Bool (cost.at_most a b)

  pub not_less : (a b : C) → AtMost cost a b → Less cost b a → ⊥
  not_less a b h l = both_ways (cost.at_most a b) l h

  pub less_irreflexive : (a : C) → Less cost a a → ⊥
  less_irreflexive a h = not_less a a (at_most_refl a) h

  pub less_from_not_at_most : (a b : C) → (AtMost cost a b → ⊥) → Less cost b a
  less_from_not_at_most a b h = ⊎_elim (λ g. absurd (h g)) (λ g. g) (at_most_or_less a b)

  pub less_then_at_most : (a b c : C) → Less cost a b → AtMost cost b c → Less cost a c
  less_then_at_most a b c h g = less_from_not_at_most c a (λ k. not_less b a (laws.transitive b c a g k) h)

  pub at_most_then_less : (a b c : C) → AtMost cost a b → Less cost b c → Less cost a c
  at_most_then_less a b c h g = less_from_not_at_most c a (λ k. not_less c b (laws.transitive c a b k h) g)

  pub less_then_less : (a b c : C) → Less cost a b → Less cost b c → Less cost a c
  less_then_less a b c h g = less_then_at_most a b c h (at_most_from_less b c g)

  -- the lesser is no more than either
  pub lesser_first : (a b : C) → AtMost cost (lesser cost a b) a
  lesser_first a b =
      cond_both (cost.at_most a b) a b (λ x. AtMost cost x a) (λ _. at_most_refl a) (λ e. at_most_from_less b a e)

  pub lesser_last : (a b : C) → AtMost cost (lesser cost a b) b
  lesser_last a b = cond_both (cost.at_most a b) a b (λ x. AtMost cost x b) (λ e. e) (λ _. at_most_refl b)

  -- what is no more than either is no more than the lesser
  pub at_most_lesser : (a b c : C) → AtMost cost c a → AtMost cost c b → AtMost cost c (lesser cost a b)
  at_most_lesser a b c h g = lesser_keeps (AtMost cost c) a b h g

  -- only unreached is as large as unreached
  pub same_from_largest : (a : C) → Fits cost a → AtMost cost cost.unreached a → a ≡ cost.unreached
  same_from_largest a f h = laws.no_tie a cost.unreached (laws.largest a f) h

  -- joining keeps the order on both sides at once
  pub join_both : (a b c d : C) → Fits cost a → Fits cost b → Fits cost c → Fits cost d → AtMost cost a b → AtMost cost c d →
      AtMost cost (cost.join a c) (cost.join b d)
  join_both a b c d fa fb fc fd h g =
      laws.transitive _ _ _ (laws.join_behind a b c fa fb fc h) (laws.join_before b c d fb fc fd g)
