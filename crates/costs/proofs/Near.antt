-- Walks that meet no router twice, and how far one router is from another by the plain metric. Assumes nothing.
use Rattle.std.proofs.Common.{ℕ, ◌+◌, ◌*◌, ◌^◌, ◌<◌, ◌≤◌, List, [], ◌∷◌, length, All, Contains, subst, ⊎_elim, arith}
use Rattle.std.proofs.lemmas.List.Elements.{All-nil, All-cons, All-contains}
use Rattle.std.proofs.lemmas.Bool.{leb-true}
use Rattle.layout.specs.Table.{Declared}
use Rattle.layout.specs.WellFormed.{LinkFits, Chain, stay, along, WellFormed}
use Rattle.layout.specs.declared.link.Link.{Link}
use Rattle.layout.proofs.Chains.{chain_join, chain_back}
use Rattle.costs.specs.Cost.{plain}
use Rattle.costs.specs.Least.{distance}
use Rattle.costs.specs.Once.{Once}
use Rattle.costs.specs.Walks.{walk_cost, Distance}
use Rattle.costs.proofs.Plain.{plain_laws}
use Rattle.costs.proofs.Distances.{end_below, distance_is}
use Rattle.costs.proofs.Once.{has_cases, has_or_not, once_short}

-- the routers that a walk meets, first and last included
abbrev pub met : {links : List Link} {a b : ℕ} → Chain links a b → List ℕ
met (stay a) = a ∷ []
met (along a b c l rest) = a ∷ met rest

-- a walk that meets no router twice
abbrev pub Straight : List Link → ℕ → ℕ → Type 0
Straight links a b = (w : Chain links a b) × Once (met w)

-- what is left of a walk from a router that it meets
from_met : {links : List Link} {b c : ℕ} (w : Chain links b c) (a : ℕ) → Once (met w) → Contains (met w) a → Straight links a c
from_met {links} (stay b) a once has =
    ⊎_elim (λ e. subst (λ x. Straight links x b) e (stay b, once)) (λ h. absurd (omega (arith, h.1))) (has_cases b [] a has)
from_met {links} (along b d c l rest) a once has =
    ⊎_elim
    (λ e. subst (λ x. Straight links x c) e (along b d c l rest, once))
    (λ h. from_met rest a once.1 h)
    (has_cases b (met rest) a has)

-- where there is a walk, there is one that meets no router twice
pub straight : {links : List Link} {a b : ℕ} → Chain links a b → Straight links a b
straight (stay a) = (stay a, ((λ h. omega (arith, h.1)), tt))
straight (along a b c l rest) =
    let on = straight rest in
    ⊎_elim (from_met on.0 a on.1) (λ new. (along a b c l on.0, (new, on.1))) (has_or_not (met on.0) a)

module _ (links : List Link) (n : ℕ) (fit : All (LinkFits n) links) where
  -- a walk from a router meets only routers
  pub met_below : {a b : ℕ} (w : Chain links a b) → a < n → All (λ v. v < n) (met w)
  met_below (stay a) h = All-cons (λ v. v < n) a [] h (All-nil (λ v. v < n))
  met_below (along a b c l rest) h = All-cons (λ v. v < n) a (met rest) h (met_below rest (end_below n l.0 a b (All-contains (LinkFits n) links l.0 fit l.1) l.2))

  -- by the plain metric, each router that a walk goes on to adds less than 2 ^ 16
  plain_walk : {a b : ℕ} (w : Chain links a b) → walk_cost plain w + 65535 ≤ length (met w) * 65535
  plain_walk (stay a) = omega arith
  plain_walk (along a b c l rest) =
      let on = plain_walk rest in
      let small : l.0.metric < 2 ^ 16 = (All-contains (LinkFits n) links l.0 fit l.1).2 in
      omega arith

-- links join any two routers
pub joined_routers : (t : Declared) → WellFormed t → (a b : ℕ) → a < length t.routers → b < length t.routers → Chain t.links a b
joined_routers t well a b ha hb = chain_join (chain_back (well.connected a ha)) (well.connected b hb)

-- what is worked out by the plain metric is the distance
pub plain_distance : (t : Declared) → WellFormed t → (a b : ℕ) → a < length t.routers → b < length t.routers →
    Distance plain t.links a b (distance plain t a b)
plain_distance t well a b ha hb =
    distance_is plain_laws t.links (length t.routers) well.sound.links_fit a b (joined_routers t well a b ha hb)

-- 31 links at most, each of less than 2 ^ 16
pub plain_near : (t : Declared) → WellFormed t → (a b : ℕ) → a < length t.routers → b < length t.routers → distance plain t a b ≤ 31 * 65535
plain_near t well a b ha hb =
    let n = length t.routers in
    let fit = well.sound.links_fit in
    let w = straight (joined_routers t well a b ha hb) in
    let few : length (met w.0) ≤ n = once_short n (met w.0) w.1 (met_below t.links n fit w.0 ha) in
    let least : distance plain t a b ≤ walk_cost plain w.0 = leb-true _ _ ((plain_distance t well a b ha hb).no_less w.0) in
    omega (arith, plain_walk t.links n fit w.0, well.sound.few_routers)
