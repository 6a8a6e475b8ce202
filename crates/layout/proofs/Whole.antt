-- The checks of the whole tell whether it is led and connected. Assumes nothing.
use Rattle.std.proofs.Common.{◌≡◌, ℕ, ◌<◌, ◌≤◌, true, false, not, eqb, ◌⊎◌, List, length, get_or, take, Some, None, Ok, Err, Decides, All, Option, Result, sym, refl, ap, ◌∙◌, subst, inl, inr, ⊎_elim, arith}
use Rattle.std.proofs.lemmas.List.Elements.{All-weaker}
use Rattle.std.proofs.lemmas.List.{get_or_default, get_or-take, length-take-le}
use Rattle.std.proofs.lemmas.Bool.{and_parts, eqb-true, eqb-false, eq-eqb, ne_eqb, not-true, not-false, not_from_true, not_from_false, false≢true, cond-true, cond-false, cases_Bool}
use Rattle.std.proofs.lemmas.Bool.Decides.{Decides-by_or, Decides-like, not_from_Decides}
use Rattle.std.specs.List.{position}
use Rattle.faults.specs.declared.graph.GraphFault.{GraphFault}
use Rattle.layout.specs.Checks.{is_client}
use Rattle.layout.specs.Graph.{reflects, has_reflector, unled, Labellable, labels, cut_off, graph_check, whole}
use Rattle.layout.specs.Promise.{Lowest, Unled, CutOff, BreaksWhole}
use Rattle.layout.specs.Table.{Declared}
use Rattle.layout.specs.WellFormed.{Is, client, reflector, Chain, Led, LinkFits, Sound, WellFormed}
use Rattle.layout.specs.declared.router.Role.{Role}
use Rattle.layout.specs.declared.router.Role.TheVariants.{Client, Reflector}
use Rattle.layout.specs.declared.router.Router.{Router}
use Rattle.layout.proofs.Chains.{Labelled, labelled, chain_label}
use Rattle.layout.proofs.Checks.{a_client, is_from}
use Rattle.sets.proofs.Firsts.{First, first, first_none}
use Rattle.layout.proofs.Lengths.{router_place_is}

pub a_reflector : (c : ℕ) (role : Role) → not (is_client role) ≡ true → ◌≡◌ {A = Router} (record { cluster = c; role = role }) (reflector c)
a_reflector c Client e = absurd (false≢true e)
a_reflector c Reflector e = refl

decides_reflects : (c : ℕ) (r : Router) → Decides (reflects c r) (r ≡ reflector c)
decides_reflects c r = (
  λ e. let s = and_parts (not (is_client r.role)) _ e in a_reflector r.cluster r.role s.0 ∙ ap reflector (eqb-true _ _ s.1),
  λ e. ap (reflects c) e ∙ eq-eqb c c refl,
)

decides_has : (c : ℕ) (routers : List Router) → Decides (has_reflector c routers) ((w : ℕ) × Is routers w (reflector c))
decides_has c routers =
    Decides-like (has_reflector c routers) (λ h. (h.0, (h.1, h.2 (reflector c)))) (λ h. (h.0, h.1.0, λ d. get_or_default routers h.0 d (reflector c) h.1.0 ∙ h.1.1))
    (Decides-by_or (reflects c) (λ r. r ≡ reflector c) (has_reflector c) (decides_reflects c) refl (λ _ _. refl) routers)

module _ (routers : List Router) where
  -- a router that fails the test is the client of a cluster without a reflector
  unled_from : (v : ℕ) → v < length routers → ((d : Router) → unled routers (get_or routers v d) ≡ true) → Unled routers v
  unled_from v lt h =
      let r = get_or routers v (client 0) in
      let s = and_parts (is_client r.role) _ (h (client 0)) in (
        r.cluster,
        is_from routers v (client 0) _ lt (a_client r.cluster r.role s.0),
        λ w is. not_from_Decides _ (decides_has r.cluster routers) (not-true _ s.1) (w, is),
      )

  unled_test : (v : ℕ) (d : Router) → Unled routers v → unled routers (get_or routers v d) ≡ true
  unled_test v d h =
      let c = h.0 in
      let same : get_or routers v d ≡ client c = get_or_default routers v d (client c) h.1.0 ∙ h.1.1 in
      ap (unled routers) same ∙ ⊎_elim (λ e. absurd (let w = (decides_has c routers).0 e in h.2 w.0 w.1)) (λ e. not_from_false _ e) (cases_Bool (has_reflector c routers))

  -- a client's cluster has a reflector, or the client is one that fails the test
  led_or : (v c : ℕ) → Is routers v (client c) → ((w : ℕ) × Is routers w (reflector c)) ⊎ Unled routers v
  led_or v c is = ⊎_elim (λ e. inl ((decides_has c routers).0 e)) (λ e. inr (c, is, λ w h. not_from_Decides _ (decides_has c routers) e (w, h))) (cases_Bool (has_reflector c routers))

  led_from : ((v : ℕ) (d : Router) → v < length routers → unled routers (get_or routers v d) ≡ false) → Led routers
  led_from h v c is = ⊎_elim (λ w. w) (λ u. absurd (false≢true (sym (h v (client c) is.0) ∙ unled_test v (client c) u))) (led_or v c is)

  led_passes : Led routers → (v : ℕ) (d : Router) → v < length routers → unled routers (get_or routers v d) ≡ false
  led_passes led v d lt =
      ⊎_elim
      (λ e. let u = unled_from v lt (λ d'. ap (unled routers) (get_or_default routers v d' d lt) ∙ e) in let w = led v u.0 u.1 in absurd (u.2 w.0 w.1))
      (λ e. e)
      (cases_Bool (unled routers (get_or routers v d)))

module _ (t : Declared) (s : Sound t) where
  abbrev count : ℕ
  count = length t.routers

  abbrev ls : List ℕ
  ls = labels t.links

  fits : All Labellable t.links
  fits = All-weaker (LinkFits count) Labellable (λ l h. (omega (arith, h.0.0, s.few_routers), omega (arith, h.0.1, s.few_routers))) t.links s.links_fit

  told : Labelled t.links ls
  told = labelled t.links fits

  row_length : length (take count ls) ≡ count
  row_length = length-take-le count ls (omega (arith, told.long, s.few_routers))

  at_row : (v d : ℕ) → v < count → get_or (take count ls) v d ≡ get_or ls v 0
  at_row v d lt = get_or-take count ls v d lt ∙ get_or_default ls v d 0 (omega (arith, told.long, s.few_routers))

  chain_from : (v d : ℕ) → v < count → cut_off ls (get_or (take count ls) v d) ≡ false → Chain t.links 0 v
  chain_from v d lt e =
      let same : get_or ls v 0 ≡ get_or ls 0 0 = eqb-true _ _ (not-false _ (ap (cut_off ls) (sym (at_row v d lt)) ∙ e)) in
      told.tells 0 v (omega arith) (omega (arith, s.few_routers)) (sym same)

  chain_passes : (v d : ℕ) → v < count → Chain t.links 0 v → cut_off ls (get_or (take count ls) v d) ≡ false
  chain_passes v d lt chain =
      let same : get_or ls 0 0 ≡ get_or ls v 0 = chain_label t.links ls told fits (omega arith) chain in
      ap (cut_off ls) (at_row v d lt) ∙ not_from_true _ (eq-eqb _ _ (sym same))

  -- what the checks of the whole say
  abbrev pub WholeTells : Result Declared GraphFault → Type 0
  WholeTells (Ok u) = (u ≡ t) × WellFormed t
  WholeTells (Err fault) = BreaksWhole t fault

  lowest_unled : (v : ℕ) → First (unled t.routers) 0 t.routers (Some v) → Lowest (Unled t.routers) v
  lowest_unled v f =
      let same : f.0 ≡ v = omega (arith, f.1) in
      subst (Lowest (Unled t.routers)) same (
        unled_from t.routers f.0 f.2 f.3,
        λ w lt u. false≢true (sym (f.4 w (client 0) lt) ∙ unled_test t.routers w (client 0) u),
      )

  lowest_cut_off : (v : ℕ) → First (cut_off ls) 0 (take count ls) (Some v) → Lowest (CutOff t) v
  lowest_cut_off v f =
      let same : f.0 ≡ v = omega (arith, f.1) in
      let within : f.0 < count = omega (arith, f.2, row_length) in
      subst (Lowest (CutOff t)) same (
        (within, λ chain. false≢true (sym (chain_passes f.0 0 within chain) ∙ f.3 0)),
        λ w lt u. u.1 (chain_from w 0 u.0 (f.4 w 0 lt)),
      )

  module _ (some : 1 ≤ count) where
    graph_tells : (o q : Option ℕ) → First (unled t.routers) 0 t.routers o → First (cut_off ls) 0 (take count ls) q → WholeTells (graph_check t o q)
    graph_tells None None f h = (
      refl,
      record { sound = s; some_router = some; led = led_from t.routers f; connected = λ v lt. chain_from v 0 lt (h v 0 (omega (arith, row_length))) },
    )
    graph_tells None (Some v) f h =
        let lowest = lowest_cut_off v h in
        (some, led_from t.routers f, v, router_place_is t.routers v (omega (arith, lowest.0.0)), lowest)
    graph_tells (Some v) q f h =
        let lowest = lowest_unled v f in
        (some, v, router_place_is t.routers v (omega (arith, lowest.0.1.0)), lowest)

  pub whole_tells : WholeTells (whole t)
  whole_tells =
      ⊎_elim
      (λ e. subst WholeTells (sym (cond-true _ _ _ e)) (eqb-true _ _ e))
      (λ e. subst WholeTells (sym (cond-false _ _ _ e)) (graph_tells (omega (arith, eqb-false count 0 e)) _ _ (first (unled t.routers) t.routers) (first (cut_off ls) (take count ls))))
      (cases_Bool (eqb count 0))

pub whole_accepts : (t : Declared) → WellFormed t → whole t ≡ Ok t
whole_accepts t w =
    let none = ne_eqb (length t.routers) 0 (λ e. omega (arith, w.some_router)) in
    let all_led = first_none (unled t.routers) t.routers (led_passes t.routers w.led) in
    let all_joined = first_none (cut_off (labels t.links)) (take (length t.routers) (labels t.links)) (λ v d lt. let within : v < length t.routers = omega (arith, row_length t w.sound) in chain_passes t w.sound v d within (w.connected v within)) in
    cond-false _ _ _ none ∙ ap (λ o. graph_check t o (position (cut_off (labels t.links)) (take (length t.routers) (labels t.links)))) all_led ∙ ap (λ q. graph_check t None q) all_joined

-- what the answers of the single checks come to
module _ (t : Declared) (s : Sound t) where
  pub well_formed : 1 ≤ length t.routers → None ≡ position (unled t.routers) t.routers → None ≡ position (cut_off (labels t.links)) (take (length t.routers) (labels t.links)) → WellFormed t
  well_formed some e f =
      (graph_tells t s some None None (subst (First (unled t.routers) 0 t.routers) (sym e) (first (unled t.routers) t.routers))
      (subst (First (cut_off (labels t.links)) 0 (take (length t.routers) (labels t.links))) (sym f) (first (cut_off (labels t.links)) (take (length t.routers) (labels t.links))))).1
