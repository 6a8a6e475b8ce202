-- A packet leaves: each router that sends it on reckons less than the one before, however ties fall. Assumes nothing.
use Rattle.std.proofs.Common.{◌≡◌, ℕ, zero, suc, ◌+◌, ◌<◌, List, [], ◌∷◌, length, Some, All, Contains, Option, sym, ap, ◌∙◌, subst, inr, ⊎_elim, arith}
use Rattle.std.proofs.lemmas.List.Elements.{All-nil, All-cons, All-get_or, All-contains, All-weaker}
use Rattle.std.proofs.lemmas.Bool.{cases_eq}
use Rattle.costs.specs.Cost.{Cost, CostLaws, Fits, AtMost, Less}
use Rattle.costs.specs.Least.{direct, distance}
use Rattle.costs.specs.Once.{Once}
use Rattle.costs.specs.Walks.{Distance}
use Rattle.costs.proofs.Distances.{over_fits, direct_fits, direct_link}
use Rattle.costs.proofs.Once.{once_short}
use Rattle.costs.proofs.Orders.{at_most_then_less, less_then_less, less_irreflexive, join_both}
use Rattle.layout.specs.Table.{Declared, path_at}
use Rattle.layout.specs.WellFormed.{LinkFits, PathFits}
use Rattle.selection.specs.Laws.{Offered}
use Rattle.packets.specs.Best.{exit_of, metric}
use Rattle.packets.specs.BestPlain.{Nearest}
use Rattle.packets.specs.Hops.{Towards, NextHop}
use Rattle.packets.specs.WaysPlain.{links_cost, Way, out, on, Leaves, Choosing, AlwaysLeaves}
use Rattle.packets.proofs.NextHops.{linked_below, hop_exists}

-- a table whose links and paths fit, whose distances are those of its links, and where every path is reached from every router
pub record Measured {C : Type 0} (cost : Cost C) (t : Declared) : Type 0 where
  pub links_fit : All (LinkFits (length t.routers)) t.links
  pub paths_fit : All (PathFits (length t.routers)) t.paths
  pub distances : (a b : ℕ) → a < length t.routers → b < length t.routers → Distance cost t.links a b (distance cost t a b)
  pub reached : (v p : ℕ) → v < length t.routers → p < length t.paths → Less cost (metric cost t v p) cost.unreached

module _ {C : Type 0} (cost : Cost C) (laws : CostLaws cost) (t : Declared) (measured : Measured cost t) where
  abbrev n : ℕ
  n = length t.routers

  abbrev m : ℕ → ℕ → C
  m v p = metric cost t v p

  path_fits : (p : ℕ) → p < length t.paths → PathFits n (path_at t.paths p)
  path_fits p lt = All-get_or (PathFits n) t.paths p _ lt measured.paths_fit

  distance_fits : (a b : ℕ) → Fits cost (distance cost t a b)
  distance_fits a b = over_fits laws t.links n measured.links_fit n a b

  exit_fits : (p : ℕ) → p < length t.paths → Fits cost (cost.of_exit (path_at t.paths p))
  exit_fits p lt = laws.exit_fits _ (path_fits p lt).cost

  metric_fits : (v p : ℕ) → p < length t.paths → Fits cost (m v p)
  metric_fits v p lt = laws.join_fits _ _ (distance_fits v (exit_of t p)) (exit_fits p lt)

  zero_least : (a : C) → Fits cost a → AtMost cost cost.zero_cost a
  zero_least a f = subst (AtMost cost cost.zero_cost) (laws.zero_join a f) (laws.join_first cost.zero_cost a laws.zero_fits f)

  -- a hop from v to w towards the exit point of path p
  module _ (v w p : ℕ) (lt : p < length t.paths) (hw : w < n) (towards : Towards cost t v (exit_of t p) w) where
    link_fit : LinkFits n towards.0
    link_fit = All-contains (LinkFits n) t.links towards.0 measured.links_fit towards.1

    hop_fits : Fits cost (cost.of_link towards.0)
    hop_fits = laws.link_fits towards.0 link_fit.2

    -- the metric at v is that at w with the link in front
    metric_step : m v p ≡ cost.join (cost.of_link towards.0) (m w p)
    metric_step =
        ap (λ d. cost.join d (cost.of_exit (path_at t.paths p))) (sym towards.3) ∙ laws.join_assoc _ _ _ hop_fits (distance_fits w (exit_of t p)) (exit_fits p lt)

    metric_falls : Less cost (m w p) (m v p)
    metric_falls = subst (Less cost (m w p)) (sym metric_step) (laws.farther towards.0 (m w p) link_fit.1 link_fit.2 (metric_fits w p lt) (measured.reached w p hw lt))

    link_direct : AtMost cost (direct cost t.links v w) (cost.of_link towards.0)
    link_direct = direct_link laws t.links n measured.links_fit v w towards.0 towards.1 towards.2

  module _ (s : ℕ) (choice : ℕ → Option ℕ) (choosing : Choosing cost t s choice) where
    nearest : (v p : ℕ) → v < n → choice v ≡ Some p → Nearest cost t s v p
    nearest v p hv e =
        let at = choosing v hv in
        let same : at.0 ≡ p = let f = at.1 in cc in
        subst (Nearest cost t s v) same at.2

    declared : (v p : ℕ) → v < n → choice v ≡ Some p → p < length t.paths
    declared v p hv e = (nearest v p hv e).0.0.0

    -- a router that does not send the packet out has no path of its own to choose from
    none_own : (v p : ℕ) → v < n → choice v ≡ Some p → (exit_of t p ≡ v → ⊥) → (q : ℕ) → Offered t.paths s q → exit_of t q ≡ v → ⊥
    none_own v p hv e ne = ⊎_elim (λ own. absurd (ne own)) (λ none. none) (nearest v p hv e).0.1

    -- a router that sends the packet on reckons no more than it is from there by the path of the router before
    no_more : (v p w q : ℕ) → v < n → choice v ≡ Some p → w < n → choice w ≡ Some q → (exit_of t q ≡ w → ⊥) → AtMost cost (m w q) (m w p)
    no_more v p w q hv e hw f ne = (nearest w q hw f).1 p ((nearest v p hv e).0.0, inr (none_own w q hw f ne))

    -- so it reckons less than that router
    falls : (v p w q : ℕ) → v < n → choice v ≡ Some p → w < n → NextHop cost t v (exit_of t p) w → choice w ≡ Some q → (exit_of t q ≡ w → ⊥) → Less cost (m w q) (m v p)
    falls v p w q hv e hw next f ne =
        at_most_then_less laws (m w q) (m w p) (m v p) (no_more v p w q hv e hw f ne) (metric_falls v w p (declared v p hv e) hw next.0)

    pub hop_below : (v p w : ℕ) → NextHop cost t v (exit_of t p) w → w < n
    hop_below v p w next =
        linked_below cost laws t measured.links_fit v w next.0.0 next.0.1 next.0.2

    -- router u reckons more than c
    abbrev Above : C → ℕ → Type 0
    Above c u = (q : ℕ) → choice u ≡ Some q → Less cost c (m u q)

    same_choice : (u p q : ℕ) → choice u ≡ Some p → choice u ≡ Some q → p ≡ q
    same_choice u p q e f = cc

    not_seen : (v p : ℕ) (seen : List ℕ) → choice v ≡ Some p → All (Above (m v p)) seen → Contains seen v → ⊥
    not_seen v p seen e above has = less_irreflexive laws (m v p) (All-contains (Above (m v p)) seen v above has p e)

    -- those before v, and v itself, reckon more than the router behind it
    above_more : (v p w q : ℕ) (seen : List ℕ) → choice v ≡ Some p → Less cost (m w q) (m v p) → All (Above (m v p)) seen → All (Above (m w q)) (v ∷ seen)
    above_more v p w q seen e less above =
        All-cons (Above (m w q)) v seen
        (λ r f. subst (λ x. Less cost (m w q) (m v x)) (same_choice v p r e f) less)
        (All-weaker (Above (m v p)) (Above (m w q)) (λ u h r f. less_then_less laws (m w q) (m v p) (m u r) less (h r f)) seen above)

    -- from v on, where those that the packet met before it are seen and more are left to meet than fuel allows
    leaving : (fuel v : ℕ) (seen : List ℕ) → v < n → Once seen → All (λ u. u < n) seen → ((p : ℕ) → choice v ≡ Some p → (exit_of t p ≡ v → ⊥) → All (Above (m v p)) seen) → n < fuel + length seen → (met : List ℕ) × (path : ℕ) × Way cost t choice v met path
    leaving zero v seen hv once below above many = absurd (let short = once_short n seen once below in omega arith)
    leaving (suc fuel) v seen hv once below above many =
        let at = choosing v hv in
        let p = at.0 in
        let e = at.1 in
        ⊎_elim
        (λ own. ([], p, out v p e own))
        (λ ne.
        let next = hop_exists cost laws t measured.links_fit measured.distances v (exit_of t p) hv (path_fits p (declared v p hv e)).at_router (λ same. ne (sym same)) in
        let w = next.0 in
        let hw = next.2 in
        let rest =
        leaving fuel w (v ∷ seen) hw (not_seen v p seen e (above p e ne), once) (All-cons (λ u. u < n) v seen hv below)
        (λ q f other. above_more v p w q seen e (falls v p w q hv e hw next.3 f other) (above p e ne))
        (omega arith) in
        (w ∷ rest.0, rest.1, on v p w rest.0 rest.1 e ne next.3 rest.2))
        (cases_eq (exit_of t p) v)

    -- router u reckons less than c, if it sends the packet on
    abbrev Under : C → ℕ → Type 0
    Under c u = (q : ℕ) → choice u ≡ Some q → (exit_of t q ≡ u → ⊥) → Less cost (m u q) c

    -- behind a router that sends the packet on, each router that sends it on reckons less
    later_less : (v p w : ℕ) (met : List ℕ) (path : ℕ) → v < n → choice v ≡ Some p → NextHop cost t v (exit_of t p) w → Way cost t choice w met path → All (Under (m v p)) (w ∷ met)
    later_less v p w met path hv e next (out x q f own) = All-cons (Under (m v p)) w [] (λ r g ne. absurd (ne (subst (λ y. exit_of t y ≡ w) (same_choice w q r f g) own))) (All-nil (Under (m v p)))
    later_less v p w met path hv e next (on x q u more end f ne after way) =
        let hw = hop_below v p w next in
        let here = falls v p w q hv e hw next f ne in
        All-cons (Under (m v p)) w (u ∷ more)
        (λ r g other. subst (λ y. Less cost (m w y) (m v p)) (same_choice w q r f g) here)
        (All-weaker (Under (m w q)) (Under (m v p)) (λ y h r g other. less_then_less laws (m y r) (m w q) (m v p) (h r g other) here) (u ∷ more) (later_less w q u more end hw f after way))

    pub met_once : (v : ℕ) (met : List ℕ) (path : ℕ) → v < n → Way cost t choice v met path → Once (v ∷ met)
    met_once v met path hv (out x p e own) = (λ has. absurd (omega (arith, has.1)), tt)
    met_once v met path hv (on x p w more end e ne next way) = (
      λ has. less_irreflexive laws (m v p) (All-contains (Under (m v p)) (w ∷ more) v (later_less v p w more end hv e next way) has p e ne),
      met_once w more end (hop_below v p w next) way,
    )

    pub met_below : (v : ℕ) (met : List ℕ) (path : ℕ) → v < n → Way cost t choice v met path → All (λ u. u < n) (v ∷ met)
    met_below v met path hv (out x p e own) = All-cons (λ u. u < n) v [] hv (All-nil (λ u. u < n))
    met_below v met path hv (on x p w more end e ne next way) = All-cons (λ u. u < n) v (w ∷ more) hv (met_below w more end (hop_below v p w next) way)

    links_fit : (v : ℕ) (met : List ℕ) → Fits cost (links_cost cost t v met)
    links_fit v [] = laws.zero_fits
    links_fit v (w ∷ met) = laws.join_fits _ _ (direct_fits laws t.links n measured.links_fit v w) (links_fit w met)

    -- the links behind w cost no more than it is from w by the path of the router before
    cheap_behind : (v p w : ℕ) (met : List ℕ) (path : ℕ) → v < n → choice v ≡ Some p → w < n → Way cost t choice w met path → ((q : ℕ) → choice w ≡ Some q → AtMost cost (links_cost cost t w met) (m w q)) → AtMost cost (links_cost cost t w met) (m w p)
    cheap_behind v p w met path hv e hw (out x q f own) cheap = zero_least (m w p) (metric_fits w p (declared v p hv e))
    cheap_behind v p w met path hv e hw (on x q u more end f ne next way) cheap = laws.transitive _ _ _ (cheap q f) (no_more v p w q hv e hw f ne)

    pub met_cheap : (v : ℕ) (met : List ℕ) (path : ℕ) → v < n → Way cost t choice v met path → (p : ℕ) → choice v ≡ Some p → AtMost cost (links_cost cost t v met) (m v p)
    met_cheap v met path hv (out x q f own) p e = zero_least (m v p) (metric_fits v p (declared v p hv e))
    met_cheap v met path hv (on x q w more end f ne next way) p e =
        let hw = hop_below v q w next in
        let lt = declared v q hv f in
        let behind = cheap_behind v q w more end hv f hw way (met_cheap w more end hw way) in
        subst (λ y. AtMost cost (links_cost cost t v (w ∷ more)) (m v y)) (same_choice v q p f e)
        (subst (AtMost cost (links_cost cost t v (w ∷ more))) (sym (metric_step v w q lt hw next.0))
        (join_both laws _ _ _ _ (direct_fits laws t.links n measured.links_fit v w) (hop_fits v w q lt hw next.0) (links_fit w more) (metric_fits w q lt) (link_direct v w q lt hw next.0) behind))

    pub leaves_from : (v : ℕ) (met : List ℕ) (path : ℕ) → v < n → Way cost t choice v met path → Leaves cost t choice v met path
    leaves_from v met path hv way = record { goes = way; once = met_once v met path hv way; cheap = met_cheap v met path hv way }

    pub way_exists : (v : ℕ) → v < n → (met : List ℕ) × (path : ℕ) × Way cost t choice v met path
    way_exists v hv = leaving (suc n) v [] hv tt (All-nil (λ u. u < n)) (λ p _ _. All-nil (Above (m v p))) (omega arith)

  pub always_leaves : (s : ℕ) → AlwaysLeaves cost t s
  always_leaves s choice choosing v hv =
      let way = way_exists s choice choosing v hv in
      (way.0, way.1, leaves_from s choice choosing v way.0 way.1 hv way.2)
