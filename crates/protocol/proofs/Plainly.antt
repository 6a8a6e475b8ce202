-- Who are peers, what passes and what is learned: the tests tell what the words say. Assumes nothing.
use Rattle.std.proofs.Common.{◌≡◌, ℕ, ◌<◌, true, false, not, ◌&&◌, ◌||◌, eqb, ◌⊎◌, List, map, length, Decides, sym, ap, ◌∙◌, inl, inr, subst, arith}
use Rattle.std.proofs.lemmas.Bool.{both_ways, cases_Bool, and_parts, and_from, or_cases, or_left, or_right, eqb-true, eq-eqb, ne_eqb}
use Rattle.std.proofs.lemmas.Bool.Decides.{nat_tests}
use Rattle.std.proofs.lemmas.List.{get_or_default}
use Rattle.std.proofs.lemmas.List.Elements.{All-get_or}
use Rattle.layout.specs.Checks.{is_client}
use Rattle.layout.specs.Table.{Declared}
use Rattle.layout.specs.WellFormed.{PathFits, Sound, session_ends, client, reflector}
use Rattle.layout.specs.declared.router.Router.{Router}
use Rattle.layout.proofs.Checks.{is_from}
use Rattle.layout.proofs.Pairs.{decides_repeats}
use Rattle.layout.proofs.Whole.{a_reflector}
use Rattle.packets.specs.Best.{exit_of}
use Rattle.sets.specs.Members.{member}
use Rattle.protocol.specs.Network.{router_at, reflects, together, in_session as session_test, peers, between_clusters, to_a_client, learned}
use Rattle.protocol.specs.Plain.{Client, Reflector, Peers, Passes, Learns}
use Rattle.protocol.specs.Plain.Peers.{reflectors, reflector_and_client, client_and_reflector, in_session}
use Rattle.protocol.specs.Plain.Passes.{exit, across, down}
use Rattle.protocol.proofs.Learning.{learned_from, learned_own, learned_peer}
use Rattle.protocol.proofs.Levels.{as_client}

module _ (t : Declared) where
  abbrev cluster_of : ℕ → ℕ
  cluster_of v = (router_at t v).cluster

  reflector_is : (v : ℕ) → v < length t.routers → reflects t v ≡ true → Reflector t v (cluster_of v)
  reflector_is v below e = is_from t.routers v (client 0) (reflector (cluster_of v)) below (a_reflector (cluster_of v) (router_at t v).role e)

  client_is : (v : ℕ) → v < length t.routers → reflects t v ≡ false → Client t v (cluster_of v)
  client_is v below e = is_from t.routers v (client 0) (client (cluster_of v)) below (as_client (cluster_of v) (router_at t v).role e)

  from_reflector : (v c : ℕ) → Reflector t v c → (reflects t v ≡ true) × (cluster_of v ≡ c)
  from_reflector v c h =
      let is : router_at t v ≡ reflector c = get_or_default t.routers v (client 0) (reflector c) h.0 ∙ h.1 in
      (ap (λ (r : Router). not (is_client r.role)) is, ap (λ (r : Router). r.cluster) is)

  from_client : (v c : ℕ) → Client t v c → (reflects t v ≡ false) × (cluster_of v ≡ c)
  from_client v c h =
      let is : router_at t v ≡ client c = get_or_default t.routers v (client 0) (client c) h.0 ∙ h.1 in
      (ap (λ (r : Router). not (is_client r.role)) is, ap (λ (r : Router). r.cluster) is)

  -- a reflector is no client
  differ : (v w c d : ℕ) → Reflector t v c → Client t w d → v ≡ w → ⊥
  differ v w c d r k e = both_ways _ (from_client w d k).0 (ap (reflects t) (sym e) ∙ (from_reflector v c r).0)

  peers_tell : (v w : ℕ) → v < length t.routers → w < length t.routers → peers t v w ≡ true → Peers t v w
  peers_tell v w a b e =
      let parts = and_parts (not (eqb v w)) _ e in
      let apart : v ≡ w → ⊥ = λ same. both_ways _ (grind (arith, nat_tests, parts.0)) (eq-eqb v w same) in
      elim (or_cases (reflects t v && reflects t w) _ parts.1) [
        | inl both ↦
            let r = and_parts (reflects t v) (reflects t w) both in
            reflectors (cluster_of v) (cluster_of w) apart (reflector_is v a r.0) (reflector_is w b r.1)
        | inr rest ↦
            elim (or_cases (together t v w && (reflects t v || reflects t w)) (session_test t v w) rest) [
              | inl one ↦
                  let r = and_parts (together t v w) (reflects t v || reflects t w) one in
                  let same : cluster_of v ≡ cluster_of w = eqb-true (cluster_of v) (cluster_of w) r.0 in
                  of_one v w a b apart same r.1 (cases_Bool (reflects t v)) (cases_Bool (reflects t w))
              | inr joined ↦ in_session apart a b ((decides_repeats (record { a = v; b = w }) (map session_ends t.sessions)).0 joined)
            ]
      ]
    where
      of_one :
          (v w : ℕ) → v < length t.routers → w < length t.routers → (v ≡ w → ⊥) → cluster_of v ≡ cluster_of w → (reflects t v || reflects t w) ≡ true →
          (reflects t v ≡ true) ⊎ (reflects t v ≡ false) → (reflects t w ≡ true) ⊎ (reflects t w ≡ false) → Peers t v w
      of_one v w a b apart same some (inl r) (inl s) = reflectors (cluster_of v) (cluster_of w) apart (reflector_is v a r) (reflector_is w b s)
      of_one v w a b apart same some (inl r) (inr k) = reflector_and_client (cluster_of w) (subst (Reflector t v) same (reflector_is v a r)) (client_is w b k)
      of_one v w a b apart same some (inr k) (inl s) = client_and_reflector (cluster_of w) (subst (Client t v) same (client_is v a k)) (reflector_is w b s)
      of_one v w a b apart same some (inr k) (inr l) = absurd (grind (arith, nat_tests, some, k, l))

  peers_has : (v w : ℕ) → Peers t v w → peers t v w ≡ true
  peers_has v w (reflectors c d apart r s) = grind (arith, nat_tests, ne_eqb v w apart, (from_reflector v c r).0, (from_reflector w d s).0)
  peers_has v w (reflector_and_client c r k) =
      grind (arith, nat_tests, ne_eqb v w (differ v w c c r k), (from_reflector v c r).0, (from_reflector v c r).1, (from_client w c k).1)
  peers_has v w (client_and_reflector c k r) =
      grind (arith, nat_tests, ne_eqb v w (λ e. differ w v c c r k (sym e)), (from_reflector w c r).0, (from_reflector w c r).1, (from_client v c k).1)
  peers_has v w (in_session apart a b again) =
      and_from (not (eqb v w)) _ (ap not (ne_eqb v w apart))
      (or_right (reflects t v && reflects t w) _
      (or_right (together t v w && (reflects t v || reflects t w)) (session_test t v w) ((decides_repeats (record { a = v; b = w }) (map session_ends t.sessions)).1 again)))

  passes_tell :
      (w v e : ℕ) → w < length t.routers → v < length t.routers → e < length t.routers →
      (eqb w e || (between_clusters t w v e || to_a_client t w v e)) ≡ true → Passes t w v e
  passes_tell w v e a b d h =
      elim (or_cases (eqb w e) _ h) [
        | inl here ↦ exit (eqb-true w e here)
        | inr rest ↦
            elim (or_cases (between_clusters t w v e) (to_a_client t w v e) rest) [
              | inl between ↦
                  let one = and_parts (reflects t w) _ between in
                  let two = and_parts (reflects t v) _ one.1 in
                  let three = and_parts (not (together t w v)) _ two.1 in
                  let four = and_parts (not (reflects t e)) (together t e w) three.1 in
                  across (cluster_of w) (cluster_of v) (λ same. both_ways _ (grind (arith, nat_tests, three.0)) (eq-eqb (cluster_of w) (cluster_of v) same))
                  (reflector_is w a one.0) (reflector_is v b two.0)
                  (subst (Client t e) (eqb-true (cluster_of e) (cluster_of w) four.1) (client_is e d (grind (arith, nat_tests, four.0))))
              | inr below ↦
                  let one = and_parts (reflects t w) _ below in
                  let two = and_parts (not (reflects t v)) _ one.1 in
                  let three = and_parts (together t w v) (not (eqb v e)) two.1 in
                  down (cluster_of w) (reflector_is w a one.0)
                  (subst (Client t v) (sym (eqb-true (cluster_of w) (cluster_of v) three.0)) (client_is v b (grind (arith, nat_tests, two.0))))
                  (λ same. both_ways _ (grind (arith, nat_tests, three.1)) (eq-eqb v e same))
            ]
      ]

  passes_has : (w v e : ℕ) → Passes t w v e → (eqb w e || (between_clusters t w v e || to_a_client t w v e)) ≡ true
  passes_has w v e (exit here) = or_left (eqb w e) _ (eq-eqb w e here)
  passes_has w v e (across c d apart r s k) =
      let x = from_reflector w c r in
      let y = from_reflector v d s in
      let z = from_client e c k in
      or_right (eqb w e) _
      (or_left (between_clusters t w v e) (to_a_client t w v e)
      (grind (arith, nat_tests, x.0, x.1, y.0, y.1, z.0, z.1, ne_eqb c d apart)))
  passes_has w v e (down c r k apart) =
      let x = from_reflector w c r in
      let y = from_client v c k in
      or_right (eqb w e) _
      (or_right (between_clusters t w v e) (to_a_client t w v e)
      (grind (arith, nat_tests, x.0, x.1, y.0, y.1, ne_eqb v e apart)))

  -- what is learned, in plain terms
  module _ (sound : Sound t) (injected : ℕ) (advertised : List ℕ) (v : ℕ) (below : v < length t.routers) where
    pub learned_plainly : (p : ℕ) → Decides (member (learned t injected advertised v) p) (Learns t injected advertised v p)
    learned_plainly p = (
      λ m.
          let h = learned_from t injected advertised v p m in
          let exit_below = (All-get_or (PathFits (length t.routers)) t.paths p _ h.0 sound.paths_fit).at_router in (
            h.0,
            elim h.1 [
              | inl own ↦ inl own
              | inr peer ↦
                  inr (
                    peer.0,
                    peers_tell peer.0 v peer.1.0 below peer.1.1,
                    peer.1.2,
                    passes_tell peer.0 v (exit_of t p) peer.1.0 below exit_below peer.1.3,
                  )
            ],
          ),
      λ h.
          elim h.1 [
            | inl own ↦ learned_own t injected advertised v p h.0 own
            | inr peer ↦ learned_peer t injected advertised v p h.0 peer.0 (peer_below peer.0 peer.1, peers_has peer.0 v peer.1, peer.2, passes_has peer.0 v (exit_of t p) peer.3)
          ],
    )
      where
        peer_below : (w : ℕ) → Peers t w v → w < length t.routers
        peer_below w (reflectors c d apart r s) = r.0
        peer_below w (reflector_and_client c r k) = r.0
        peer_below w (client_and_reflector c k r) = k.0
        peer_below w (in_session apart a b again) = a
