-- How far a path has to go to a router. Assumes nothing.
use Rattle.std.proofs.Common.{◌≡◌, ℕ, ◌<◌, ◌≤◌, Bool, true, false, cond, not, ◌&&◌, ◌||◌, eqb, length, get_or, refl, ap, ◌∙◌, inl, inr, arith}
use Rattle.std.proofs.lemmas.Bool.{true≢false, cases_Bool, and_parts, or_parts}
use Rattle.std.proofs.lemmas.Bool.Decides.{nat_tests}
use Rattle.std.proofs.lemmas.List.{get_or_default}
use Rattle.layout.specs.Checks.{is_client}
use Rattle.layout.specs.declared.router.Role.{Role}
use Rattle.layout.specs.declared.router.Role.TheVariants.{Client, Reflector}
use Rattle.layout.specs.declared.router.Router.{Router}
use Rattle.layout.specs.Table.{Declared}
use Rattle.layout.specs.WellFormed.{client, reflector, Led}
use Rattle.packets.specs.Best.{exit_of}
use Rattle.protocol.specs.Network.{router_at, reflects, in_session, peers, passes}

-- by the clusters of the two routers, and whether v is a reflector
rank : ℕ → ℕ → ℕ → ℕ → Bool → ℕ
rank e v ce cv rv = cond (eqb v e) 0 (cond (rv && eqb cv ce) 1 (cond (eqb cv ce || rv) 2 3))

rises :
    (e w v ce cw cv : ℕ) (re rw rv : Bool) → (w ≡ e → cw ≡ ce) → (w ≡ e → rw ≡ re) → (v ≡ e → rv ≡ re) → (v ≡ e → cv ≡ ce) →
    not (eqb w v) ≡ true → (eqb w e || ((rw && (rv && (not (eqb cw cv) && (not re && eqb ce cw)))) || (rw && (not rv && (eqb cw cv && not (eqb v e)))))) ≡ true →
    rank e w ce cw rw < rank e v ce cv rv
unfolding rank
rises e w v ce cw cv re rw rv a b c d peer pass = grind (arith, nat_tests)

-- what is needed of a router w to pass a path on to v: to be its peer, and one of the three cases
Passing : (e w v ce cw cv : ℕ) (re rw rv sess : Bool) → Type 0
Passing e w v ce cw cv re rw rv sess =
    ((not (eqb w v) && ((rw && rv) || ((eqb cw cv && (rw || rv)) || sess))) ≡ true)
    × ((eqb w e || ((rw && (rv && (not (eqb cw cv) && (not re && eqb ce cw)))) || (rw && (not rv && (eqb cw cv && not (eqb v e)))))) ≡ true)

-- the exit point itself, to the reflectors of its cluster, and if it is a reflector to every reflector and its clients
by_exit : (e v ce cv : ℕ) (re rv sess : Bool) → (v ≡ e → ⊥) → ((rv && (re || eqb cv ce)) || (re && eqb cv ce)) ≡ true → Passing e e v ce ce cv re re rv sess
unfolding Passing
by_exit e v ce cv re rv sess other h = (grind (arith, nat_tests), grind (arith, nat_tests))

-- a reflector of the cluster of the exit point, which is a client, to reflectors of other clusters and to its other clients
by_its_reflector :
    (e w v ce cw cv : ℕ) (re rw rv sess : Bool) → (v ≡ e → ⊥) → (w ≡ v → rw ≡ rv) → (w ≡ v → cw ≡ cv) → re ≡ false → rw ≡ true → cw ≡ ce →
    ((rv && not (eqb cv ce)) || (not rv && eqb cv ce)) ≡ true → Passing e w v ce cw cv re rw rv sess
unfolding Passing
by_its_reflector e w v ce cw cv re rw rv sess other a b client reflector same h = (grind (arith, nat_tests), grind (arith, nat_tests))

-- a reflector of v's cluster, which is not that of the exit point, to its client v
by_own_reflector :
    (e w v ce cw cv : ℕ) (re rw rv sess : Bool) → (v ≡ e → cv ≡ ce) → (w ≡ v → rw ≡ rv) → rw ≡ true → cw ≡ cv → rv ≡ false → eqb cv ce ≡ false → Passing e w v ce cw cv re rw rv sess
unfolding Passing
by_own_reflector e w v ce cw cv re rw rv sess a b reflector same client other = (grind (arith, nat_tests), grind (arith, nat_tests))

pub as_client : (c : ℕ) (role : Role) → not (is_client role) ≡ false → ◌≡◌ {A = Router} (record { cluster = c; role = role }) (client c)
as_client c Client e = refl
as_client c Reflector e = absurd (true≢false e)

module _ (t : Declared) where
  cluster : ℕ → ℕ
  cluster v = (router_at t v).cluster

  -- the steps that a path takes from its exit point e to router v: none to e itself, one to the reflectors of its cluster,
  -- two to its other clients and to the reflectors of other clusters, three to the clients of those
  pub level : ℕ → ℕ → ℕ
  level e v = rank e v (cluster e) (cluster v) (reflects t v)

  -- a path goes up
  pub upward : (w v p : ℕ) → peers t w v ≡ true → passes t w v p ≡ true → level (exit_of t p) w < level (exit_of t p) v
  unfolding level cluster
  upward w v p peer pass =
      let e = exit_of t p in
      rises e w v (cluster e) (cluster w) (cluster v) (reflects t e) (reflects t w) (reflects t v)
      (λ q. ap cluster q) (λ q. ap (reflects t) q) (λ q. ap (reflects t) q) (λ q. ap cluster q)
      (and_parts (not (eqb w v)) _ peer).0 pass

  pub no_higher : (e v : ℕ) → level e v ≤ 3
  unfolding level rank
  no_higher e v = grind (arith, nat_tests)

  pub at_exit : (e v : ℕ) → level e v ≡ 0 → v ≡ e
  unfolding level rank
  at_exit e v h = grind (arith, nat_tests)

  pub exit_level : (e : ℕ) → level e e ≡ 0
  unfolding level rank
  exit_level e = grind (arith, nat_tests)

  -- w is a peer of v and passes it path p
  abbrev pub Hands : ℕ → ℕ → ℕ → Type 0
  Hands p v w = (w < length t.routers) × (peers t w v ≡ true) × (passes t w v p ≡ true)

  module _ (led : Led t.routers) where
    is_client_of : (v : ℕ) → v < length t.routers → reflects t v ≡ false → get_or t.routers v (client (cluster v)) ≡ client (cluster v)
    unfolding cluster
    is_client_of v below h = get_or_default t.routers v (client (cluster v)) (client 0) below ∙ as_client (cluster v) (router_at t v).role h

    -- a client has a reflector
    led_by : (v : ℕ) → v < length t.routers → reflects t v ≡ false → (w : ℕ) × (w < length t.routers) × (reflects t w ≡ true) × (cluster w ≡ cluster v)
    unfolding cluster
    led_by v below not_one =
        let found = led v (cluster v) (below, is_client_of v below not_one) in
        let w = found.0 in
        let is : router_at t w ≡ reflector (cluster v) = get_or_default t.routers w (client 0) (reflector (cluster v)) found.1.0 ∙ found.1.1 in
        (w, found.1.0, ap (λ (r : Router). not (is_client r.role)) is, ap (λ (r : Router). r.cluster) is)

    module _ (p v : ℕ) (declared : exit_of t p < length t.routers) (below : v < length t.routers) (other : v ≡ exit_of t p → ⊥) where
      abbrev e : ℕ
      e = exit_of t p

      handed_by_exit : ((reflects t v && (reflects t e || eqb (cluster v) (cluster e))) || (reflects t e && eqb (cluster v) (cluster e))) ≡ true → Hands p v e
      unfolding cluster Passing
      handed_by_exit h =
          let is = by_exit e v (cluster e) (cluster v) (reflects t e) (reflects t v) (in_session t e v) other h in
          (declared, is.0, is.1)

      handed_by_its : reflects t e ≡ false → ((reflects t v && not (eqb (cluster v) (cluster e))) || (not (reflects t v) && eqb (cluster v) (cluster e))) ≡ true → (w : ℕ) × Hands p v w
      unfolding cluster Passing
      handed_by_its no_reflector h =
          let found = led_by e declared no_reflector in
          let w = found.0 in
          let is =
          by_its_reflector e w v (cluster e) (cluster w) (cluster v) (reflects t e) (reflects t w) (reflects t v) (in_session t w v) other
          (λ q. ap (reflects t) q) (λ q. ap cluster q) no_reflector found.2 found.3 h in
          (w, (found.1, is.0, is.1))

      handed_by_own : reflects t v ≡ false → eqb (cluster v) (cluster e) ≡ false → (w : ℕ) × Hands p v w
      unfolding cluster Passing
      handed_by_own no_reflector apart =
          let found = led_by v below no_reflector in
          let w = found.0 in
          let is =
          by_own_reflector e w v (cluster e) (cluster w) (cluster v) (reflects t e) (reflects t w) (reflects t v) (in_session t w v)
          (λ q. ap cluster q) (λ q. ap (reflects t) q) found.2 found.3 no_reflector apart in
          (w, (found.1, is.0, is.1))

      -- every router but the exit point is handed the path by some router
      pub handed : (w : ℕ) × Hands p v w
      handed =
          elim (cases_Bool (reflects t v)) [
            | inl r ↦
                elim (cases_Bool (reflects t e || eqb (cluster v) (cluster e))) [
                  | inl near ↦ (e, handed_by_exit (grind (arith, nat_tests, r, near)))
                  | inr far ↦ let parts = or_parts (reflects t e) (eqb (cluster v) (cluster e)) far in handed_by_its parts.0 (grind (arith, nat_tests, r, parts.1))
                ]
            | inr c ↦
                elim (cases_Bool (eqb (cluster v) (cluster e))) [
                  | inl one ↦
                      elim (cases_Bool (reflects t e)) [
                        | inl re ↦ (e, handed_by_exit (grind (arith, nat_tests, re, one)))
                        | inr ce ↦ handed_by_its ce (grind (arith, nat_tests, c, one))
                      ]
                  | inr apart ↦ handed_by_own c apart
                ]
          ]
