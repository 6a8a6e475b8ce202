-- The distances that are worked out are the least costs of walks. Assumes nothing.
use Rattle.std.proofs.Common.{◌≡◌, ℕ, zero, suc, ◌<◌, true, cond, eqb, ◌⊎◌, List, [], ◌∷◌, length, get_or, All, Contains, sym, refl, ap, ◌∙◌, subst, ap₂, inl, inr, arith}
use Rattle.std.proofs.lemmas.List.Elements.{Contains-get_or, Contains-append_right, All-contains}
use Rattle.std.proofs.lemmas.Bool.{eqb-true, eq-eqb, cases_lt, cond-true, cond_both}
use Rattle.layout.specs.WellFormed.{Same, LinkFits, Chain, stay, along}
use Rattle.layout.specs.declared.link.Link.{Link}
use Rattle.layout.proofs.Chains.{end_below as pair_end_below}
use Rattle.layout.proofs.Pairs.{decides_same}
use Rattle.costs.specs.Cost.{Cost, CostLaws, Fits, AtMost, lesser}
use Rattle.costs.specs.Least.{joins, by_links, direct, over}
use Rattle.costs.specs.Walks.{walk_cost, Distance}
use Rattle.costs.proofs.Orders.{lesser_keeps, at_most_refl, at_most_lesser, lesser_first, lesser_last, join_both, same_from_largest}

-- the test finds a link between a and b
pub joins_true : (l : Link) (a b : ℕ) → Same l.ends (record { a = a; b = b }) → joins l a b ≡ true
joins_true l a b h = (decides_same l.ends (record { a = a; b = b })).1 h

-- and nothing else
pub same_from_joins : (l : Link) (a b : ℕ) → joins l a b ≡ true → Same l.ends (record { a = a; b = b })
same_from_joins l a b h = (decides_same l.ends (record { a = a; b = b })).0 h

-- the far end of a link is below n
pub end_below : (n : ℕ) (l : Link) (a b : ℕ) → LinkFits n l → Same l.ends (record { a = a; b = b }) → b < n
end_below n l a b fits same = pair_end_below n l.ends a b (fits.0.0, fits.0.1) same

module _ {C : Type 0} {cost : Cost C} (laws : CostLaws cost) where
  -- what is true of d and of every link between a and b is true of the lesser of them
  by_links_keeps : (P : C → Type 0) (ls : List Link) (d : C) (a b : ℕ) → P d →
      ((l : Link) → Contains ls l → Same l.ends (record { a = a; b = b }) → P (cost.of_link l)) → P (by_links cost d ls a b)
  unfolding by_links
  by_links_keeps P [] d a b h each = h
  by_links_keeps P (l ∷ ls) d a b h each =
      by_links_keeps P ls (cond (joins l a b) (lesser cost d (cost.of_link l)) d) a b
      (cond_both (joins l a b) (lesser cost d (cost.of_link l)) d P
      (λ e. lesser_keeps laws P d (cost.of_link l) h (each l (Contains-get_or (l ∷ ls) 0 l (omega arith)) (same_from_joins l a b e)))
      (λ _. h))
      (λ m has. each m (Contains-append_right (l ∷ []) ls m has))

  -- the lesser of d and some links is no more than d
  by_links_start : (ls : List Link) (d : C) (a b : ℕ) → AtMost cost (by_links cost d ls a b) d
  unfolding by_links
  by_links_start [] d a b = at_most_refl laws d
  by_links_start (l ∷ ls) d a b =
      laws.transitive _ _ _ (by_links_start ls (cond (joins l a b) (lesser cost d (cost.of_link l)) d) a b)
      (cond_both (joins l a b) (lesser cost d (cost.of_link l)) d (λ x. AtMost cost x d) (λ _. lesser_first laws d (cost.of_link l)) (λ _. at_most_refl laws d))

  -- nor than one of the links, at place k
  by_links_at : (ls : List Link) (d : C) (a b k : ℕ) (l : Link) → k < length ls → get_or ls k l ≡ l → Same l.ends (record { a = a; b = b }) →
      AtMost cost (by_links cost d ls a b) (cost.of_link l)
  unfolding by_links
  by_links_at [] d a b k l h is same = absurd (omega arith)
  by_links_at (x ∷ ls) d a b zero l h is same =
      let taken : cond (joins x a b) (lesser cost d (cost.of_link x)) d ≡ lesser cost d (cost.of_link l) =
      cond-true (joins x a b) (lesser cost d (cost.of_link x)) d (ap (λ (y : Link). joins y a b) is ∙ joins_true l a b same)
      ∙ ap (λ (y : Link). lesser cost d (cost.of_link y)) is in
      laws.transitive _ _ _ (by_links_start ls (cond (joins x a b) (lesser cost d (cost.of_link x)) d) a b)
      (subst (λ y. AtMost cost y (cost.of_link l)) (sym taken) (lesser_last laws d (cost.of_link l)))
  by_links_at (x ∷ ls) d a b (suc k) l h is same =
      by_links_at ls (cond (joins x a b) (lesser cost d (cost.of_link x)) d) a b k l (omega arith) is same

module _ {C : Type 0} {cost : Cost C} (laws : CostLaws cost) (links : List Link) (n : ℕ) (fit : All (LinkFits n) links) where
  -- over these links
  abbrev far : ℕ → ℕ → ℕ → C
  far k a b = over cost links k a b

  -- links, walks and what is worked out have costs that fit
  pub link_fits : (l : Link) → Contains links l → Fits cost (cost.of_link l)
  link_fits l has = laws.link_fits l (All-contains (LinkFits n) links l fit has).2

  pub direct_fits : (a b : ℕ) → Fits cost (direct cost links a b)
  direct_fits a b =
      by_links_keeps laws (Fits cost) links (cond (eqb a b) cost.zero_cost cost.unreached) a b
      (cond_both (eqb a b) cost.zero_cost cost.unreached (Fits cost) (λ _. laws.zero_fits) (λ _. laws.unreached_fits))
      (λ l has _. link_fits l has)

  pub over_fits : (k a b : ℕ) → Fits cost (over cost links k a b)
  unfolding over
  over_fits zero a b = direct_fits a b
  over_fits (suc k) a b =
      lesser_keeps laws (Fits cost) (far k a b) (cost.join (far k a k) (far k k b)) (over_fits k a b)
      (laws.join_fits _ _ (over_fits k a k) (over_fits k k b))

  pub walk_fits : {a b : ℕ} (w : Chain links a b) → Fits cost (walk_cost cost w)
  walk_fits (stay a) = laws.zero_fits
  walk_fits (along a b c l rest) = laws.join_fits _ _ (link_fits l.0 l.1) (walk_fits rest)

  -- one walk and then another make a walk, whose cost is theirs joined
  pub walk_join : {a b c : ℕ} (v : Chain links a b) (w : Chain links b c) →
      (x : Chain links a c) × (walk_cost cost x ≡ cost.join (walk_cost cost v) (walk_cost cost w))
  walk_join (stay a) w = (w, sym (laws.zero_join (walk_cost cost w) (walk_fits w)))
  walk_join (along a b c l rest) w =
      let on = walk_join rest w in (
        along _ _ _ l on.0,
        ap (cost.join (cost.of_link l.0)) on.1
            ∙ sym (laws.join_assoc _ _ _ (link_fits l.0 l.1) (walk_fits rest) (walk_fits w)),
      )

  -- a cost that is unreached, or that some walk has
  abbrev Walked : ℕ → ℕ → C → Type 0
  Walked a b d = (d ≡ cost.unreached) ⊎ ((w : Chain links a b) × (walk_cost cost w ≡ d))

  -- so it is of the first values, and joining keeps it
  walked_stay : (a b : ℕ) → a ≡ b → Walked a b cost.zero_cost
  walked_stay a b e = subst (λ x. Walked a x cost.zero_cost) e (inr (stay a, refl))

  walked_link : (a b : ℕ) (l : Link) → Contains links l → Same l.ends (record { a = a; b = b }) → Walked a b (cost.of_link l)
  walked_link a b l has same = inr (along a b b (l, has, same) (stay b), laws.join_zero (cost.of_link l) (link_fits l has))

  walked_join : (a b c : ℕ) (d e : C) → Fits cost d → Fits cost e → Walked a b d → Walked b c e → Walked a c (cost.join d e)
  walked_join a b c d e fd fe (inl h) g = inl (ap (λ x. cost.join x e) h ∙ laws.unreached_join e fe)
  walked_join a b c d e fd fe (inr h) (inl g) = inl (ap (cost.join d) g ∙ laws.join_unreached d fd)
  walked_join a b c d e fd fe (inr h) (inr g) =
      let on = walk_join h.0 g.0 in
      inr (on.0, on.1 ∙ ap₂ cost.join h.1 g.1)

  walked_direct : (a b : ℕ) → Walked a b (direct cost links a b)
  walked_direct a b =
      by_links_keeps laws (Walked a b) links (cond (eqb a b) cost.zero_cost cost.unreached) a b
      (cond_both (eqb a b) cost.zero_cost cost.unreached (Walked a b) (λ e. walked_stay a b (eqb-true a b e)) (λ _. inl refl))
      (walked_link a b)

  -- what is worked out is the cost of a walk, if it is reached
  walked_over : (k a b : ℕ) → Walked a b (far k a b)
  unfolding over
  walked_over zero a b = walked_direct a b
  walked_over (suc k) a b =
      lesser_keeps laws (Walked a b) (far k a b) (cost.join (far k a k) (far k k b)) (walked_over k a b)
      (walked_join a k b _ _ (over_fits k a k) (over_fits k k b) (walked_over k a k) (walked_over k k b))

  -- with more routers to go over it is no farther
  over_more : (k a b : ℕ) → AtMost cost (far (suc k) a b) (far k a b)
  unfolding over
  over_more k a b = lesser_first laws (far k a b) (cost.join (far k a k) (far k k b))

  -- and no farther than without a router between
  pub over_direct : (k a b : ℕ) → AtMost cost (over cost links k a b) (direct cost links a b)
  unfolding over
  over_direct zero a b = at_most_refl laws (direct cost links a b)
  over_direct (suc k) a b = laws.transitive _ _ _ (over_more k a b) (over_direct k a b)

  -- which is no farther than over any link between the two
  pub direct_link : (a b : ℕ) (l : Link) → Contains links l → Same l.ends (record { a = a; b = b }) → AtMost cost (direct cost links a b) (cost.of_link l)
  direct_link a b l has same =
      by_links_at laws links (cond (eqb a b) cost.zero_cost cost.unreached) a b has.0 l has.1 has.2 same

  -- and nowhere from a router to itself
  pub direct_itself : (a : ℕ) → AtMost cost (direct cost links a a) cost.zero_cost
  direct_itself a =
      subst (λ x. AtMost cost (direct cost links a a) x) (cond-true (eqb a a) cost.zero_cost cost.unreached (eq-eqb a a refl))
      (by_links_start laws links (cond (eqb a a) cost.zero_cost cost.unreached) a a)

  -- no farther than over router k
  over_by : (k a b : ℕ) → AtMost cost (far (suc k) a b) (cost.join (far k a k) (far k k b))
  unfolding over
  over_by k a b = lesser_last laws (far k a b) (cost.join (far k a k) (far k k b))

  -- going over router k makes the way to it no nearer
  over_to : (k a : ℕ) → AtMost cost (far k a k) (far (suc k) a k)
  unfolding over
  over_to k a =
      at_most_lesser laws (far k a k) (cost.join (far k a k) (far k k k)) (far k a k)
      (at_most_refl laws (far k a k)) (laws.join_first _ _ (over_fits k a k) (over_fits k k k))

  -- nor the way from it
  over_from : (k b : ℕ) → AtMost cost (far k k b) (far (suc k) k b)
  unfolding over
  over_from k b =
      at_most_lesser laws (far k k b) (cost.join (far k k k) (far k k b)) (far k k b)
      (at_most_refl laws (far k k b)) (laws.join_last _ _ (over_fits k k k) (over_fits k k b))

  -- one router more: going by way of b is no shorter, if it was not without router k
  module _ (k b : ℕ) (ih : (a c : ℕ) → AtMost cost (far k a c) (cost.join (far k a b) (far k b c))) (a c : ℕ) where
    -- only the part up to b goes over router k
    triangle_first : AtMost cost (far (suc k) a c) (cost.join (cost.join (far k a k) (far k k b)) (far k b c))
    triangle_first =
        laws.transitive _ _ _ (over_by k a c)
        (subst (AtMost cost (cost.join (far k a k) (far k k c)))
        (sym (laws.join_assoc _ _ _ (over_fits k a k) (over_fits k k b) (over_fits k b c)))
        (laws.join_before _ _ _ (over_fits k a k) (over_fits k k c) (laws.join_fits _ _ (over_fits k k b) (over_fits k b c)) (ih k c)))

    -- only the part from b on does
    triangle_last : AtMost cost (far (suc k) a c) (cost.join (far k a b) (cost.join (far k b k) (far k k c)))
    triangle_last =
        laws.transitive _ _ _ (over_by k a c)
        (subst (AtMost cost (cost.join (far k a k) (far k k c)))
        (laws.join_assoc _ _ _ (over_fits k a b) (over_fits k b k) (over_fits k k c))
        (laws.join_behind _ _ _ (over_fits k a k) (laws.join_fits _ _ (over_fits k a b) (over_fits k b k)) (over_fits k k c) (ih a k)))

    -- both do
    triangle_both : AtMost cost (far (suc k) a c)
        (cost.join (cost.join (far k a k) (far k k b)) (cost.join (far k b k) (far k k c)))
    triangle_both =
        let out = laws.join_fits _ _ (over_fits k a k) (over_fits k k b) in
        let back = laws.join_fits _ _ (over_fits k b k) (over_fits k k c) in
        laws.transitive _ _ _ (over_by k a c)
        (join_both laws _ _ _ _ (over_fits k a k) out (over_fits k k c) back
        (laws.join_first _ _ (over_fits k a k) (over_fits k k b))
        (laws.join_last _ _ (over_fits k b k) (over_fits k k c)))

    -- whichever does
    triangle_more : AtMost cost (far (suc k) a c) (cost.join (far (suc k) a b) (far (suc k) b c))
    unfolding over
    triangle_more =
        lesser_keeps laws (λ x. AtMost cost (far (suc k) a c) (cost.join x (far (suc k) b c)))
        (far k a b) (cost.join (far k a k) (far k k b))
        (lesser_keeps laws (λ y. AtMost cost (far (suc k) a c) (cost.join (far k a b) y))
        (far k b c) (cost.join (far k b k) (far k k c))
        (laws.transitive _ _ _ (over_more k a c) (ih a c)) triangle_last)
        (lesser_keeps laws (λ y. AtMost cost (far (suc k) a c) (cost.join (cost.join (far k a k) (far k k b)) y))
        (far k b c) (cost.join (far k b k) (far k k c))
        triangle_first triangle_both)

  -- the same by way of router k
  triangle_at : (k a c : ℕ) → AtMost cost (far (suc k) a c) (cost.join (far (suc k) a k) (far (suc k) k c))
  triangle_at k a c =
      laws.transitive _ _ _ (over_by k a c)
      (join_both laws _ _ _ _ (over_fits k a k) (over_fits (suc k) a k) (over_fits k k c) (over_fits (suc k) k c) (over_to k a) (over_from k c))

  -- going by way of a router that may stand between is no shorter
  pub triangle : (k b : ℕ) → b < k → (a c : ℕ) → AtMost cost (over cost links k a c) (cost.join (over cost links k a b) (over cost links k b c))
  triangle zero b h a c = absurd (omega arith)
  triangle (suc k) b h a c =
      elim (cases_lt b k) [
        | inl l ↦ triangle_more k b (triangle k b l) a c
        | inr g ↦
            let e : k ≡ b = omega arith in
            subst (λ x. AtMost cost (far (suc k) a c) (cost.join (far (suc k) a x) (far (suc k) x c))) e (triangle_at k a c)
      ]

  -- no walk costs less than what is worked out
  pub walk_least : {a b : ℕ} (w : Chain links a b) → AtMost cost (over cost links n a b) (walk_cost cost w)
  walk_least (stay a) = laws.transitive _ _ _ (over_direct n a a) (direct_itself a)
  walk_least (along a b c l rest) =
      let below : b < n = end_below n l.0 a b (All-contains (LinkFits n) links l.0 fit l.1) l.2 in
      laws.transitive _ _ _ (triangle n b below a c)
      (join_both laws _ _ _ _ (over_fits n a b) (link_fits l.0 l.1) (over_fits n b c) (walk_fits rest)
      (laws.transitive _ _ _ (over_direct n a b) (direct_link a b l.0 l.1 l.2))
      (walk_least rest))

  -- some walk has the cost that is worked out: where that is unreached, any walk
  reached : (a b : ℕ) → Chain links a b → Walked a b (far n a b) → (w : Chain links a b) × (walk_cost cost w ≡ far n a b)
  reached a b w (inl e) =
      (w, same_from_largest laws (walk_cost cost w) (walk_fits w) (subst (λ x. AtMost cost x (walk_cost cost w)) e (walk_least w)) ∙ sym e)
  reached a b w (inr h) = h

  -- what is worked out is the distance, where there is a walk
  pub distance_is : (a b : ℕ) → Chain links a b → Distance cost links a b (over cost links n a b)
  distance_is a b w = record { some_walk = reached a b w (walked_over n a b); no_less = λ v. walk_least v }

-- there is one distance at most
pub distance_unique : {C : Type 0} {cost : Cost C} (laws : CostLaws cost) {links : List Link} {a b : ℕ} {d e : C} →
    Distance cost links a b d → Distance cost links a b e → d ≡ e
distance_unique {cost = cost} laws {d = d} {e = e} h g =
    laws.no_tie d e (subst (AtMost cost d) g.some_walk.1 (h.no_less g.some_walk.0))
    (subst (AtMost cost e) h.some_walk.1 (g.no_less h.some_walk.0))
