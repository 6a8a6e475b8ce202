-- What a router has learned when some of its peers are asked, and when all are. Assumes nothing.
use Rattle.std.proofs.Common.{◌≡◌, ℕ, ◌<◌, Bool, true, false, not, ◌&&◌, ◌||◌, ◌⊎◌, eqb, ltb, List, length, sym, ◌∙◌, subst, inl, inr, arith}
use Rattle.std.proofs.lemmas.Bool.{and_parts, and_from, or_cases, or_left, or_right, lt-ltb, ltb-true, eqb-true, eq-eqb, cases_eq}
use Rattle.std.proofs.lemmas.Bool.Decides.{nat_tests}
use Rattle.layout.specs.Table.{Declared}
use Rattle.packets.specs.Best.{exit_of}
use Rattle.sets.specs.Members.{member}
use Rattle.sets.proofs.Same.{same_set}
use Rattle.protocol.specs.Network.{set_of, peers, passes, own_of, learned}
use Rattle.protocol.proofs.Activation.{same_truth}
use Rattle.protocol.proofs.Learning.{Own, Offers, own_from, own_has, learned_from, learned_own, learned_peer}
use Rattle.peering.specs.Peered.{peer_by, passed_by, exits_by}

module _ (t : Declared) (injected : ℕ) (advertised : List ℕ) (v : ℕ) where
  -- path p is an injected one of v itself, or one of the peers that were asked passes it
  abbrev pub Comes : (ℕ → Bool) → ℕ → Type 0
  Comes asked p = (p < length t.paths) × (Own t injected advertised v p ⊎ ((w : ℕ) × (asked w ≡ true) × Offers t injected advertised v p w))

  pub record Gathered (asked : ℕ → Bool) (known : ℕ) : Type 0 where
    pub from : (p : ℕ) → member known p ≡ true → Comes asked p
    pub all : (p : ℕ) → Comes asked p → member known p ≡ true

  -- the peers but for those that are still to be asked
  abbrev pub asked_but : ℕ → ℕ → Bool
  asked_but rest w = peer_by t v w && not (member rest w)

  -- what a peer offers is passed, and what is passed is offered
  passed_offers : (w p : ℕ) → peer_by t v w ≡ true → (member (set_of advertised w) p && passed_by t w v p) ≡ true → (p < length t.paths) × Offers t injected advertised v p w
  passed_offers w p peer got =
      let one = and_parts (ltb w (length t.routers)) (peers t w v) peer in
      let two = and_parts (member (set_of advertised w) p) (passed_by t w v p) got in
      let three = and_parts (ltb p (length t.paths)) (passes t w v p) two.1 in
      (ltb-true p (length t.paths) three.0, (ltb-true w (length t.routers) one.0, one.1, two.0, three.1))

  offers_passed : (w p : ℕ) → p < length t.paths → Offers t injected advertised v p w → (member (set_of advertised w) p && passed_by t w v p) ≡ true
  offers_passed w p declared h = and_from _ _ h.2 (and_from _ _ (lt-ltb p (length t.paths) declared) h.3)

  -- nobody was asked yet
  pub gathered_begins :
      (known own rest : ℕ) → ((p : ℕ) → member known p ≡ (member injected p && member own p)) → ((p : ℕ) → member own p ≡ exits_by t v p) →
      ((w : ℕ) → member rest w ≡ peer_by t v w) → Gathered (asked_but rest) known
  gathered_begins known own rest both exits all_peers =
      record {
        from = λ p m.
            let one = and_parts (member injected p) (member own p) (sym (both p) ∙ m) in
            let two = and_parts (ltb p (length t.paths)) (eqb (exit_of t p) v) (sym (exits p) ∙ one.1) in
            (ltb-true p (length t.paths) two.0, inl (eqb-true (exit_of t p) v two.1, one.0));
        all = λ p h.
            elim h.1 [
              | inl own_path ↦ both p ∙ and_from _ _ own_path.1 (exits p ∙ and_from _ _ (lt-ltb p (length t.paths) h.0) (eq-eqb (exit_of t p) v own_path.0))
              | inr peer ↦ absurd (grind (arith, nat_tests, peer.1, all_peers peer.0))
            ];
      }

  -- one peer more is asked
  pub gathered_grows :
      (known passed known' rest rest' w : ℕ) → Gathered (asked_but rest) known → member rest w ≡ true → peer_by t v w ≡ true →
      ((u : ℕ) → member rest' u ≡ (member rest u && not (eqb u w))) →
      ((p : ℕ) → member passed p ≡ (member (set_of advertised w) p && passed_by t w v p)) →
      ((p : ℕ) → member known' p ≡ (member known p || member passed p)) → Gathered (asked_but rest') known'
  gathered_grows known passed known' rest rest' w had here peer left gives joins =
      record {
        from = λ p m.
            elim (or_cases (member known p) (member passed p) (sym (joins p) ∙ m)) [
              | inl before ↦
                  let h = had.from p before in (
                    h.0,
                    elim h.1 [
                      | inl own ↦ inl own
                      | inr other ↦ inr (other.0, grind (arith, nat_tests, other.1, left other.0), other.2)
                    ],
                  )
              | inr now ↦
                  let h = passed_offers w p peer (sym (gives p) ∙ now) in
                  (h.0, inr (w, grind (arith, nat_tests, peer, left w), h.1))
            ];
        all = λ p h.
            joins p
            ∙ elim h.1 [
              | inl own ↦ or_left _ _ (had.all p (h.0, inl own))
              | inr other ↦
                  elim (cases_eq other.0 w) [
                    | inl e ↦ or_right _ _ (gives p ∙ offers_passed w p h.0 (subst (Offers t injected advertised v p) e other.2))
                    | inr apart ↦ or_left _ _ (had.all p (h.0, inr (other.0, grind (arith, nat_tests, other.1, left other.0, apart), other.2)))
                  ]
            ];
      }

  -- all were asked
  pub gathered_all : (known rest : ℕ) → Gathered (asked_but rest) known → ((w : ℕ) → member rest w ≡ false) → known ≡ learned t injected advertised v
  gathered_all known rest had none =
      same_set known (learned t injected advertised v)
      (λ p. same_truth _ _
      (λ m.
      let h = had.from p m in
      elim h.1 [
        | inl own ↦ learned_own t injected advertised v p h.0 own
        | inr peer ↦ learned_peer t injected advertised v p h.0 peer.0 peer.2
      ])
      (λ m.
      let h = learned_from t injected advertised v p m in
      had.all p (
        h.0,
        elim h.1 [
          | inl own ↦ inl own
          | inr peer ↦ inr (peer.0, grind (arith, nat_tests, none peer.0, lt-ltb peer.0 (length t.routers) peer.1.0, peer.1.1), peer.1)
        ],
      )))

  -- the router's own paths
  pub own_is : (known own : ℕ) → ((p : ℕ) → member known p ≡ (member injected p && member own p)) → ((p : ℕ) → member own p ≡ exits_by t v p) → known ≡ own_of t injected v
  own_is known own both exits =
      same_set known (own_of t injected v)
      (λ p. same_truth _ _
      (λ m.
      let one = and_parts (member injected p) (member own p) (sym (both p) ∙ m) in
      let two = and_parts (ltb p (length t.paths)) (eqb (exit_of t p) v) (sym (exits p) ∙ one.1) in
      own_has t injected advertised v p (ltb-true p (length t.paths) two.0) (eqb-true (exit_of t p) v two.1, one.0))
      (λ m.
      let h = own_from t injected advertised v p m in
      both p ∙ and_from _ _ h.1.1 (exits p ∙ and_from _ _ (lt-ltb p (length t.paths) h.0) (eq-eqb (exit_of t p) v h.1.0))))
