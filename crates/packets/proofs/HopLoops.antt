-- One link after another: the lowest router to which one of the first links leads. Assumes nothing.
use Rattle.std.proofs.Common.{◌≡◌, ℕ, ◌+◌, ◌<◌, ◌≤◌, min, Bool, true, false, cond, ◌||◌, eqb, List, [], ◌∷◌, ◌++◌, length, get_or, take, Some, None, All, Option, sym, refl, ap, ◌∙◌, subst, inl, inr, ⊎_elim, arith}
use Rattle.std.proofs.lemmas.List.{take_more, take_all}
use Rattle.std.proofs.lemmas.Bool.{both_ways, cases_Bool, cases_eq, cases_lt, eq-eqb, ne_eqb, and_parts, and_from, or_from, or_left, or_right, cond-true, cond-false}
use Rattle.costs.specs.Cost.{Cost, CostLaws}
use Rattle.costs.specs.Least.{joins, distance}
use Rattle.costs.proofs.Distances.{joins_true, same_from_joins}
use Rattle.layout.specs.Table.{Declared}
use Rattle.layout.specs.WellFormed.{Same, LinkFits}
use Rattle.layout.specs.declared.link.Link.{Link}
use Rattle.packets.specs.Hops.{level, leads, some_leads, hop, other_end, led_to, lead_along}
use Rattle.packets.proofs.NextHops.{Found, decides_towards, linked_below, same_found}

-- the lower of two, where there are two
abbrev pub the_lower : Option ℕ → Option ℕ → Option ℕ
the_lower None o = o
the_lower (Some x) None = Some x
the_lower (Some x) (Some y) = Some (min x y)

-- the other end of a pair is the one router that the pair joins to v
other_joins : (l : Link) (v w : ℕ) → other_end l.ends v ≡ Some w → joins l v w ≡ true
other_joins l v w e =
    let p = l.ends in
    ⊎_elim
    (λ a. let at : p.b ≡ w = let f = sym (cond-true (eqb p.a v) (Some p.b) (cond (eqb p.b v) (Some p.a) None) (eq-eqb _ _ a)) ∙ e in cc in joins_true l v w (inl (a, at)))
    (λ na. let rest = sym (cond-false (eqb p.a v) (Some p.b) (cond (eqb p.b v) (Some p.a) None) (ne_eqb _ _ na)) ∙ e in
    ⊎_elim
    (λ b. let at : p.a ≡ w = let f = sym (cond-true (eqb p.b v) (Some p.a) None (eq-eqb _ _ b)) ∙ rest in cc in joins_true l v w (inr (at, b)))
    (λ nb. let never : ◌≡◌ {A = ℕ} 0 1 = let f = sym (cond-false (eqb p.b v) (Some p.a) None (ne_eqb _ _ nb)) ∙ rest in cc in absurd (omega arith))
    (cases_eq p.b v))
    (cases_eq p.a v)

joins_other : (l : Link) (v w : ℕ) → Same l.ends (record { a = v; b = w }) → other_end l.ends v ≡ Some w
joins_other l v w (inl h) = cond-true (eqb l.ends.a v) _ _ (eq-eqb _ _ h.0) ∙ ap Some h.1
joins_other l v w (inr h) =
    let p = l.ends in
    ⊎_elim
    (λ a. cond-true (eqb p.a v) _ _ (eq-eqb _ _ a) ∙ ap Some (h.1 ∙ sym a ∙ h.0))
    (λ na. cond-false (eqb p.a v) _ _ (ne_eqb _ _ na) ∙ cond-true (eqb p.b v) _ _ (eq-eqb _ _ h.1) ∙ ap Some h.0)
    (cases_eq p.a v)

module _ {C : Type 0} (cost : Cost C) (laws : CostLaws cost) (t : Declared) (v e : ℕ) where
  abbrev some : ℕ → List Link → Bool
  some w ls = some_leads cost t v e w ls

  some_push : (w : ℕ) (ls : List Link) (l : Link) → some w (ls ++ l ∷ []) ≡ (some w ls || leads cost t v e w l)
  some_push w [] l = ⊎_elim (λ h. ap (λ (b : Bool). b || false) h ∙ sym h) (λ h. ap (λ (b : Bool). b || false) h ∙ sym h) (cases_Bool (leads cost t v e w l))
  some_push w (x ∷ ls) l =
      ⊎_elim
      (λ h. or_left _ _ h ∙ sym (or_left _ _ (or_left _ _ h)))
      (λ h. ap (λ (b : Bool). b || some w (ls ++ l ∷ [])) h ∙ some_push w ls l ∙ ap (λ (b : Bool). (b || some w ls) || leads cost t v e w l) (sym h))
      (cases_Bool (leads cost t v e w x))

  abbrev fits : ℕ → Link → Bool
  fits w l = level cost (cost.join (cost.of_link l) (distance cost t w e)) (distance cost t v e)

  -- the router to which l leads, and no other
  along_leads : (l : Link) (o : Option ℕ) → other_end l.ends v ≡ o → (x : ℕ) → led_to cost t v e l o ≡ Some x → leads cost t v e x l ≡ true
  along_leads l None is x h = let never : ◌≡◌ {A = ℕ} 0 1 = cc in absurd (omega arith)
  along_leads l (Some w) is x h =
      ⊎_elim
      (λ f. let same : w ≡ x = let g = sym (cond-true (fits w l) (Some w) None f) ∙ h in cc in
      subst (λ y. leads cost t v e y l ≡ true) same (and_from _ _ (other_joins l v w is) f))
      (λ f. let never : ◌≡◌ {A = ℕ} 0 1 = let g = sym (cond-false (fits w l) (Some w) None f) ∙ h in cc in absurd (omega arith))
      (cases_Bool (fits w l))

  leads_along : (l : Link) (w : ℕ) → leads cost t v e w l ≡ true → lead_along cost t v e l ≡ Some w
  leads_along l w h =
      let both = and_parts _ _ h in
      ap (led_to cost t v e l) (joins_other l v w (same_from_joins l v w both.0)) ∙ cond-true (fits w l) (Some w) None both.1

  -- of the links so far, none leads on, or x is the lowest router to which one does
  abbrev pub Over : List Link → Option ℕ → Type 0
  Over ls None = (w : ℕ) → some w ls ≡ false
  Over ls (Some x) = (some x ls ≡ true) × ((w : ℕ) → w < x → some w ls ≡ false)

  not_leads : (l : Link) (o : Option ℕ) → lead_along cost t v e l ≡ o → (w : ℕ) → (o ≡ Some w → ⊥) → leads cost t v e w l ≡ false
  not_leads l o is w ne = ⊎_elim (λ h. absurd (ne (sym is ∙ leads_along l w h))) (λ h. h) (cases_Bool (leads cost t v e w l))

  no_other : (x w : ℕ) → w < x → ◌≡◌ {A = Option ℕ} (Some x) (Some w) → ⊥
  no_other x w lt h = let same : x ≡ w = cc in omega arith

  no_some : (w : ℕ) → ◌≡◌ {A = Option ℕ} None (Some w) → ⊥
  no_some w h = let never : ◌≡◌ {A = ℕ} 0 1 = cc in omega arith

  over_lower : (ls : List Link) (l : Link) (a o : Option ℕ) → lead_along cost t v e l ≡ a → Over ls o → Over (ls ++ l ∷ []) (the_lower a o)
  over_lower ls l None None is h = λ w. some_push w ls l ∙ or_from _ _ (h w) (not_leads l None is w (no_some w))
  over_lower ls l None (Some y) is h = (
    some_push y ls l ∙ or_left _ _ h.0,
    λ w lt. some_push w ls l ∙ or_from _ _ (h.1 w lt) (not_leads l None is w (no_some w)),
  )
  over_lower ls l (Some x) None is h = (
    some_push x ls l ∙ or_right _ _ (along_leads l (other_end l.ends v) refl x is),
    λ w lt. some_push w ls l ∙ or_from _ _ (h w) (not_leads l (Some x) is w (no_other x w lt)),
  )
  over_lower ls l (Some x) (Some y) is h = (
    ⊎_elim
        (λ lt. let least : min x y ≡ x = omega arith in
        subst (λ z. some z (ls ++ l ∷ []) ≡ true) (sym least) (some_push x ls l ∙ or_right _ _ (along_leads l (other_end l.ends v) refl x is)))
        (λ ge. let least : min x y ≡ y = omega arith in
        subst (λ z. some z (ls ++ l ∷ []) ≡ true) (sym least) (some_push y ls l ∙ or_left _ _ h.0))
        (cases_lt x y),
    λ w lt. some_push w ls l ∙ or_from _ _ (h.1 w (omega arith)) (not_leads l (Some x) is w (no_other x w (omega arith))),
  )

  pub over_none : Over [] None
  over_none = λ w. refl

  -- one link more
  pub over_more : (links : List Link) (i : ℕ) (d : Link) (o : Option ℕ) → i < length links → Over (take i links) o → Over (take (i + 1) links) (the_lower (lead_along cost t v e (get_or links i d)) o)
  over_more links i d o lt h =
      subst (λ ls. Over ls (the_lower (lead_along cost t v e (get_or links i d)) o)) (sym (take_more links i d lt)) (over_lower (take i links) (get_or links i d) (lead_along cost t v e (get_or links i d)) o refl h)

  module _ (fit : All (LinkFits (length t.routers)) t.links) where
    found_over : (o : Option ℕ) → Over t.links o → Found cost laws t v e o
    found_over None h = λ w lt towards. both_ways _ (h w) ((decides_towards cost laws t v e w).1 towards)
    found_over (Some x) h =
        let towards = (decides_towards cost laws t v e x).0 h.0 in (
          linked_below cost laws t fit v x towards.0 towards.1 towards.2,
          (towards, λ u lt other. both_ways _ (h.1 u lt) ((decides_towards cost laws t v e u).1 other)),
        )

    -- after the last link it is the next hop
    pub over_all : (i : ℕ) (o : Option ℕ) → length t.links ≤ i → Over (take i t.links) o → o ≡ hop cost t v e
    over_all i o le h = same_found cost laws t v e o (found_over o (subst (λ ls. Over ls o) (take_all i t.links le) h))
