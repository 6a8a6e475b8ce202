-- Which paths a router learns. Assumes nothing.
use Rattle.std.proofs.Common.{◌≡◌, ℕ, zero, suc, ◌<◌, Bool, true, ◌&&◌, eqb, ◌⊎◌, List, length, sym, ◌∙◌, inl, inr, arith}
use Rattle.std.proofs.lemmas.Bool.{both_ways, and_parts, and_from, or_cases, or_left, or_right, eqb-true, eq-eqb, lt-ltb, ltb-true, true_from_ne_false, false≢true}
use Rattle.layout.specs.Table.{Declared}
use Rattle.packets.specs.Best.{exit_of}
use Rattle.selection.specs.Stages.{those, some}
use Rattle.selection.proofs.Gathered.{member_those, some_none}
use Rattle.sets.specs.Members.{member}
use Rattle.protocol.specs.Network.{set_of, peers, passes, own_of, offered_by_peers, learned}

-- a number among those below n passes, and is below n
those_from : (test : ℕ → Bool) (n k : ℕ) → member (those test n) k ≡ true → (k < n) × (test k ≡ true)
those_from test n k m =
    let parts = and_parts _ (test k) (sym (member_those test n k) ∙ m) in
    (ltb-true k n parts.0, parts.1)

those_has : (test : ℕ → Bool) (n k : ℕ) → k < n → test k ≡ true → member (those test n) k ≡ true
those_has test n k l e = member_those test n k ∙ and_from _ (test k) (lt-ltb k n l) e

some_has : (test : ℕ → Bool) (n q : ℕ) → q < n → test q ≡ true → some test n ≡ true
some_has test n q l e = true_from_ne_false _ (λ none. both_ways _ (some_none test n none q l) e)

some_one : (test : ℕ → Bool) (n : ℕ) → some test n ≡ true → (q : ℕ) × (q < n) × (test q ≡ true)
unfolding some
some_one test zero e = absurd (false≢true e)
some_one test (suc n) e =
    elim (or_cases (test n) (some test n) e) [
      | inl here ↦ (n, omega arith, here)
      | inr below ↦ let found = some_one test n below in (found.0, omega (arith, found.1), found.2)
    ]

module _ (t : Declared) (injected : ℕ) (advertised : List ℕ) (v p : ℕ) where
  -- p is an injected path of v itself
  abbrev pub Own : Type 0
  Own = (exit_of t p ≡ v) × (member injected p ≡ true)

  -- peer w of v advertises p and passes it to v
  abbrev pub Offers : ℕ → Type 0
  Offers w = (w < length t.routers) × (peers t w v ≡ true) × (member (set_of advertised w) p ≡ true) × (passes t w v p ≡ true)

  own_test : Own → (eqb (exit_of t p) v && member injected p) ≡ true
  own_test h = and_from _ _ (eq-eqb _ _ h.0) h.1

  own_tells : (eqb (exit_of t p) v && member injected p) ≡ true → Own
  own_tells e =
      let parts = and_parts (eqb (exit_of t p) v) (member injected p) e in
      (eqb-true (exit_of t p) v parts.0, parts.1)

  -- what a router knows of its own
  pub own_from : member (own_of t injected v) p ≡ true → (p < length t.paths) × Own
  own_from m =
      let found = those_from _ (length t.paths) p m in
      (found.0, own_tells found.1)

  pub own_has : p < length t.paths → Own → member (own_of t injected v) p ≡ true
  own_has l h = those_has _ (length t.paths) p l (own_test h)

  peer_tells : offered_by_peers t advertised v p ≡ true → (w : ℕ) × Offers w
  peer_tells e =
      let found = some_one _ (length t.routers) e in
      let one = and_parts (peers t found.0 v) (member (set_of advertised found.0) p && passes t found.0 v p) found.2 in
      let two = and_parts (member (set_of advertised found.0) p) (passes t found.0 v p) one.1 in
      (found.0, (found.1, one.0, two.0, two.1))

  -- a path that is learned is declared, and an injected one of the router's own, or a peer that advertises it passes it
  pub learned_from : member (learned t injected advertised v) p ≡ true → (p < length t.paths) × (Own ⊎ ((w : ℕ) × Offers w))
  learned_from m =
      let found = those_from _ (length t.paths) p m in (
        found.0,
        elim (or_cases _ (offered_by_peers t advertised v p) found.1) [
          | inl own ↦ inl (own_tells own)
          | inr peer ↦ inr (peer_tells peer)
        ],
      )

  pub learned_own : p < length t.paths → Own → member (learned t injected advertised v) p ≡ true
  learned_own l h = those_has _ (length t.paths) p l (or_left _ (offered_by_peers t advertised v p) (own_test h))

  pub learned_peer : p < length t.paths → (w : ℕ) → Offers w → member (learned t injected advertised v) p ≡ true
  learned_peer l w h =
      those_has _ (length t.paths) p l
      (or_right (eqb (exit_of t p) v && member injected p) (offered_by_peers t advertised v p)
      (some_has _ (length t.routers) w h.0 (and_from _ _ h.1 (and_from _ _ h.2 h.3))))
