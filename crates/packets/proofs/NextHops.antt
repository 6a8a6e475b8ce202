-- The next hop that is found is the lowest router to which a link leads, and there is one. Assumes nothing.
use Rattle.std.proofs.Common.{◌≡◌, ℕ, ◌<◌, Bool, length, get_or, Some, None, Decides, All, Contains, Option, sym, refl, ap, ◌∙◌, subst, ⊎_elim, arith}
use Rattle.std.specs.List.{range_with_len}
use Rattle.std.proofs.lemmas.List.FromFn.{length-range_with_len, get_or-range_with_len}
use Rattle.std.proofs.lemmas.List.Elements.{All-contains, Contains-get_or, at_from_Contains}
use Rattle.std.proofs.lemmas.Bool.{and_parts, and_from, cases_eq, cases_order}
use Rattle.std.proofs.lemmas.Bool.Decides.{Decides-and, Decides-by_or, Decides-like, not_from_Decides}
use Rattle.costs.specs.Cost.{Cost, CostLaws, AtMost}
use Rattle.costs.specs.Least.{distance}
use Rattle.costs.specs.Walks.{walk_cost, Distance}
use Rattle.costs.proofs.Distances.{end_below, link_fits, over_fits, walk_fits}
use Rattle.costs.proofs.Orders.{at_most_from_same}
use Rattle.layout.specs.Promise.{Lowest}
use Rattle.layout.specs.Table.{Declared}
use Rattle.layout.specs.WellFormed.{Same, LinkFits, Chain, stay, along}
use Rattle.layout.specs.declared.link.Link.{Link}
use Rattle.sets.proofs.Firsts.{First, first}
use Rattle.layout.proofs.Pairs.{decides_same}
use Rattle.packets.specs.Hops.{level, leads, some_leads, hop, Towards, NextHop, HopIs}

module _ {C : Type 0} (cost : Cost C) (laws : CostLaws cost) (t : Declared) where
  decides_level : (a b : C) → Decides (level cost a b) (a ≡ b)
  decides_level a b = (
    λ h. let both = and_parts _ _ h in laws.no_tie a b both.0 both.1,
    λ e. and_from _ _ (at_most_from_same laws a b e) (at_most_from_same laws b a (sym e)),
  )

  -- what link l has to be, to lead from v to w on the way to e
  abbrev Leading : ℕ → ℕ → ℕ → Link → Type 0
  Leading v e w l = Same l.ends (record { a = v; b = w }) × (cost.join (cost.of_link l) (distance cost t w e) ≡ distance cost t v e)

  decides_leads : (v e w : ℕ) (l : Link) → Decides (leads cost t v e w l) (Leading v e w l)
  decides_leads v e w l = Decides-and _ _ (decides_same l.ends (record { a = v; b = w })) (decides_level _ _)

  no_link : Link
  no_link = record { ends = record { a = 0; b = 0 }; metric = 0 }

  pub decides_towards : (v e w : ℕ) → Decides (some_leads cost t v e w t.links) (Towards cost t v e w)
  decides_towards v e w =
      Decides-like (some_leads cost t v e w t.links)
      (λ h. (get_or t.links h.0 no_link, Contains-get_or t.links h.0 no_link h.1, (h.2 no_link).0, (h.2 no_link).1))
      (λ h. let at = at_from_Contains t.links h.0 h.1 in (at.0, at.1, λ d. subst (Leading v e w) (sym (at.2 d)) (h.2, h.3)))
      (Decides-by_or (leads cost t v e w) (Leading v e w) (some_leads cost t v e w) (decides_leads v e w) refl (λ _ _. refl) t.links)

  abbrev n : ℕ
  n = length t.routers

  abbrev test : ℕ → ℕ → ℕ → Bool
  test v e w = some_leads cost t v e w t.links

  -- what stands at place k of the numbers below n is k
  at_place : (v e k : ℕ) → k < n → test v e (get_or (range_with_len 0 n) k 0) ≡ test v e k
  at_place v e k lt = ap (test v e) (get_or-range_with_len 0 n k 0 lt ∙ (omega arith))

  -- no router below n, or the lowest
  abbrev pub Found : ℕ → ℕ → Option ℕ → Type 0
  Found v e None = (w : ℕ) → w < n → Towards cost t v e w → ⊥
  Found v e (Some w) = (w < n) × NextHop cost t v e w

  found : (v e : ℕ) (o : Option ℕ) → First (test v e) 0 (range_with_len 0 n) o → Found v e o
  found v e None h = λ w lt towards.
      not_from_Decides _ (decides_towards v e w) (sym (at_place v e w lt) ∙ h w 0 (omega (arith, length-range_with_len 0 n))) towards
  found v e (Some w) h =
      let same : w ≡ h.0 = omega (arith, h.1) in
      let below : h.0 < n = omega (arith, h.2, length-range_with_len 0 n) in
      let lowest : NextHop cost t v e h.0 = (
        (decides_towards v e h.0).0 (sym (at_place v e h.0 below) ∙ h.3 0),
        λ u lt towards. not_from_Decides _ (decides_towards v e u) (sym (at_place v e u (omega arith)) ∙ h.4 u 0 lt) towards,
      ) in
      subst (λ x. Found v e (Some x)) (sym same) (below, lowest)

  pub hop_found : (v e : ℕ) → Found v e (hop cost t v e)
  hop_found v e = found v e (hop cost t v e) (first (test v e) (range_with_len 0 n))

  lowest_unique : (P : ℕ → Type 0) (u w : ℕ) → Lowest P u → Lowest P w → u ≡ w
  lowest_unique P u w h g =
      ⊎_elim (λ e. e) (λ other. ⊎_elim (λ lt. absurd (g.1 u lt h.0)) (λ lt. absurd (h.1 w lt g.0)) other) (cases_order u w)

  same_hop : (v e : ℕ) (o : Option ℕ) → Found v e o → (w : ℕ) → w < n → NextHop cost t v e w → o ≡ Some w
  same_hop v e None h w lt next = absurd (h w lt next.0)
  same_hop v e (Some u) h w lt next = ap Some (lowest_unique (Towards cost t v e) u w h.1 next)

  -- the lowest router is the one that is found
  pub hop_from : (v e w : ℕ) → w < n → NextHop cost t v e w → hop cost t v e ≡ Some w
  hop_from v e w lt next = same_hop v e (hop cost t v e) (hop_found v e) w lt next

  both_found : (v e : ℕ) (o q : Option ℕ) → Found v e o → Found v e q → o ≡ q
  both_found v e None None h g = refl
  both_found v e None (Some w) h g = absurd (h w g.0 g.1.0)
  both_found v e (Some w) q h g = sym (same_hop v e q g w h.0 h.1)

  -- what is found is the next hop
  pub same_found : (v e : ℕ) (o : Option ℕ) → Found v e o → o ≡ hop cost t v e
  same_found v e o h = both_found v e o (hop cost t v e) h (hop_found v e)

  module _ (fit : All (LinkFits n) t.links) where
    pub linked_below : (v w : ℕ) (l : Link) → Contains t.links l → Same l.ends (record { a = v; b = w }) → w < n
    linked_below v w l has same = end_below n l v w (All-contains (LinkFits n) t.links l fit has) same

  module _ (fit : All (LinkFits n) t.links) (measured : (a b : ℕ) → a < n → b < n → Distance cost t.links a b (distance cost t a b)) where
    -- the first link of a least walk leads on
    first_link : (v e : ℕ) → v < n → e < n → (v ≡ e → ⊥) → (w : Chain t.links v e) → walk_cost cost w ≡ distance cost t v e → (u : ℕ) × Towards cost t v e u
    first_link v e hv he ne (stay a) least = absurd (ne refl)
    first_link v e hv he ne (along a b c l rest) least =
        let link = l.0 in
        let below = linked_below fit a b link l.1 l.2 in
        let walk = (measured b c below he).some_walk in
        let further : AtMost cost (distance cost t a c) (cost.join (cost.of_link link) (distance cost t b c)) =
        subst (λ x. AtMost cost (distance cost t a c) (cost.join (cost.of_link link) x)) walk.1 ((measured a c hv he).no_less (along a b c l walk.0)) in
        let nearer : AtMost cost (cost.join (cost.of_link link) (distance cost t b c)) (distance cost t a c) =
        subst (AtMost cost (cost.join (cost.of_link link) (distance cost t b c))) least
        (laws.join_before (cost.of_link link) (distance cost t b c) (walk_cost cost rest) (link_fits laws t.links n fit link l.1) (over_fits laws t.links n fit n b c) (walk_fits laws t.links n fit rest) ((measured b c below he).no_less rest)) in
        (b, (link, l.1, l.2, laws.no_tie _ _ nearer further))

    one_leads : (v e : ℕ) → v < n → e < n → (v ≡ e → ⊥) → (o : Option ℕ) → Found v e o → (w : ℕ) × (o ≡ Some w) × (w < n) × NextHop cost t v e w
    one_leads v e hv he ne None h =
        let walk = (measured v e hv he).some_walk in
        let link = first_link v e hv he ne walk.0 walk.1 in
        absurd (h link.0 (linked_below fit v link.0 link.1.0 link.1.1 link.1.2) link.1)
    one_leads v e hv he ne (Some w) h = (w, refl, h.0, h.1)

    -- from one router towards another there always is a next hop
    pub hop_exists : (v e : ℕ) → v < n → e < n → (v ≡ e → ⊥) → (w : ℕ) × (hop cost t v e ≡ Some w) × (w < n) × NextHop cost t v e w
    hop_exists v e hv he ne = one_leads v e hv he ne (hop cost t v e) (hop_found v e)

    told : (v e : ℕ) → v < n → e < n → (o : Option ℕ) → Found v e o → HopIs cost t v e o
    told v e hv he None h =
        ⊎_elim (λ same. same) (λ ne. let one = hop_exists v e hv he ne in absurd (h one.0 one.2 one.3.0)) (cases_eq v e)
    told v e hv he (Some w) h = h.1

    pub hop_is : (v e : ℕ) → v < n → e < n → HopIs cost t v e (hop cost t v e)
    hop_is v e hv he = told v e hv he (hop cost t v e) (hop_found v e)
