-- Three rounds flush what is not injected. Assumes nothing.
use Rattle.std.proofs.Common.{◌≡◌, ℕ, ◌<◌, true, false, List, length, ap, ◌∙◌, subst, inl, inr, arith}
use Rattle.std.proofs.lemmas.Bool.{both_ways, cases_lt, false_from_ne_true, cases_Bool}
use Rattle.layout.specs.Table.{Declared}
use Rattle.packets.specs.Best.{exit_of}
use Rattle.selection.specs.Laws.{Keeping, Laws}
use Rattle.sets.specs.Members.{member, Subset}
use Rattle.protocol.specs.Network.{set_of}
use Rattle.protocol.specs.Moves.{activated}
use Rattle.protocol.specs.Settled.{Rounds}
use Rattle.protocol.specs.Consistent.{Consistent}
use Rattle.protocol.proofs.Levels.{level, upward, at_exit, no_higher}
use Rattle.protocol.proofs.Learning.{learned_from}
use Rattle.protocol.proofs.Activation.{knows_named, knows_other, stays_consistent}
use Rattle.protocol.proofs.Rising.{Below, at, after, rises_by}

module _ {kept : Keeping} (laws : Laws kept) (t : Declared) (i : ℕ) where
  -- a path that is advertised is known
  pub told_known : {k a : List ℕ} → Consistent kept (at t i k a) → (v p : ℕ) → member (set_of a v) p ≡ true → member (set_of k v) p ≡ true
  told_known {k} {a} c v p m = laws.within t.paths (set_of k v) (c.known_declared v) p (subst (λ set. member set p ≡ true) (c.advertises v) m)

  module _ (p : ℕ) (gone : member i p ≡ false) where
    abbrev Ok : List ℕ → List ℕ → Type 0
    Ok k a = Consistent kept (at t i k a)

    -- router v does not know the path
    abbrev Free : List ℕ → ℕ → Type 0
    Free k v = member (set_of k v) p ≡ false

    fresh :
        (k a : List ℕ) (w v : ℕ) → ((u : ℕ) → member w u ≡ true → u < length t.routers) → Ok k a → v < length t.routers → member w v ≡ true →
        ((u : ℕ) → u < length t.routers → level t (exit_of t p) u < level t (exit_of t p) v → Free k u) → Free (activated kept (at t i k a) w).known v
    fresh k a w v few c below m lower =
        ap (λ set. member set p) (knows_named laws c w few v m)
        ∙ false_from_ne_true _
        (λ got.
        elim ((learned_from t i a v p got).1) [
          | inl own ↦ both_ways _ gone own.1
          | inr peer ↦
              both_ways _ (lower peer.0 peer.1.0 (upward t peer.0 v p peer.1.1 peer.1.3)) (told_known c peer.0 p peer.1.2)
        ])

    stays :
        (k a : List ℕ) (w v : ℕ) → ((u : ℕ) → member w u ≡ true → u < length t.routers) → Ok k a → v < length t.routers → member w v ≡ false → Free k v →
        Free (activated kept (at t i k a) w).known v
    stays k a w v few c below m free = ap (λ set. member set p) (knows_other laws c w few v m) ∙ free

    -- the exit point never knows it
    at_its_exit : (k a : List ℕ) → Ok k a → (v : ℕ) → v < length t.routers → level t (exit_of t p) v < 1 → Free k v
    at_its_exit k a c v below low =
        let here : v ≡ exit_of t p = at_exit t (exit_of t p) v (omega (arith, low)) in
        ap (λ u. member (set_of k u) p) here
        ∙ elim (cases_lt p (length t.paths)) [
          | inl declared ↦ c.own p declared ∙ gone
          | inr past ↦ false_from_ne_true _ (λ m. omega (arith, c.known_declared (exit_of t p) p m, past))
        ]

    -- after three rounds no router knows it
    free_after : (ws k a : List ℕ) → Below (length t.routers) ws → Ok k a → Rounds (length t.routers) 3 ws → (v : ℕ) → v < length t.routers → Free (after kept (at t i k a) ws).known v
    free_after ws k a few c rounds v below =
        let risen = rises_by kept t i (length t.routers) (level t (exit_of t p)) Ok Free (λ k' a' w named ok. stays_consistent laws ok w named) fresh stays 3 ws rounds 1 k a few c (at_its_exit k a c) in
        risen.1 v below (omega (arith, no_higher t (exit_of t p) v))

  -- after three rounds every router knows injected paths only
  pub flushed :
      (ws k a : List ℕ) → Below (length t.routers) ws → Consistent kept (at t i k a) → Rounds (length t.routers) 3 ws →
      (v : ℕ) → v < length t.routers → Subset (set_of (after kept (at t i k a) ws).known v) i
  flushed ws k a few c rounds v below p m =
      elim (cases_Bool (member i p)) [
        | inl here ↦ here
        | inr gone ↦ absurd (both_ways _ (free_after p gone ws k a few c rounds v below) m)
      ]
