-- Three rounds more fill in what is kept of the injected paths. Assumes nothing.
use Rattle.std.proofs.Common.{◌≡◌, ℕ, ◌<◌, true, false, List, length, sym, ap, ◌∙◌, subst, inl, inr, arith}
use Rattle.std.proofs.lemmas.Bool.{cases_eq}
use Rattle.std.proofs.lemmas.List.Elements.{All-get_or}
use Rattle.layout.specs.Table.{Declared}
use Rattle.layout.specs.WellFormed.{PathFits}
use Rattle.packets.specs.Best.{exit_of}
use Rattle.selection.specs.Laws.{Keeping, Laws}
use Rattle.sets.specs.Members.{member, Subset}
use Rattle.protocol.specs.Network.{set_of, learned}
use Rattle.protocol.specs.Moves.{activated}
use Rattle.protocol.specs.Settled.{Rounds}
use Rattle.protocol.specs.Consistent.{Consistent}
use Rattle.protocol.proofs.Fitting.{Fits}
use Rattle.protocol.proofs.Levels.{level, upward, at_exit, no_higher, handed}
use Rattle.protocol.proofs.Learning.{learned_from, learned_own, learned_peer}
use Rattle.protocol.proofs.Activation.{knows_named, knows_other, known_by, stays_consistent}
use Rattle.protocol.proofs.Flushing.{told_known}
use Rattle.protocol.proofs.Rising.{Below, at, after, rises_by}

module _ {kept : Keeping} (laws : Laws kept) (t : Declared) (fits : Fits t) (i : ℕ) where
  -- every router knows injected paths only
  pub record Flushed (k a : List ℕ) : Type 0 where
    pub consistent : Consistent kept (at t i k a)
    pub injected_only : (v : ℕ) → Subset (set_of k v) i

  pub goes_on : (k a : List ℕ) (w : ℕ) → ((v : ℕ) → member w v ≡ true → v < length t.routers) → Flushed k a → Flushed (activated kept (at t i k a) w).known (activated kept (at t i k a) w).advertised
  goes_on k a w named f =
      record {
        consistent = stays_consistent laws f.consistent w named;
        injected_only = λ v. known_by laws f.consistent w named (λ set. Subset set i) v
            (λ m p got.
            elim ((learned_from t i a v p got).1) [
              | inl own ↦ own.1
              | inr peer ↦ f.injected_only peer.0 p (told_known laws t i f.consistent peer.0 p peer.1.2)
            ])
            (λ m. f.injected_only v);
      }

  module _ (p : ℕ) (keeps : member (kept t.paths i) p ≡ true) where
    abbrev Has : List ℕ → ℕ → Type 0
    Has k v = member (set_of k v) p ≡ true

    module _ {k a : List ℕ} (f : Flushed k a) where
      injected : member i p ≡ true
      injected = laws.within t.paths i f.consistent.injected_declared p keeps

      declared : p < length t.paths
      declared = f.consistent.injected_declared p injected

      exit_below : exit_of t p < length t.routers
      exit_below = (All-get_or (PathFits (length t.routers)) t.paths p _ declared fits.sound.paths_fit).at_router

      -- a router that knows the path advertises it
      tells_it : (v : ℕ) → Has k v → member (set_of a v) p ≡ true
      tells_it v has =
          subst (λ set. member set p ≡ true) (sym (f.consistent.advertises v))
          (laws.heritage t.paths i (set_of k v) f.consistent.injected_declared (f.injected_only v) p has keeps)

      -- an activated router learns it, where the routers of lower levels know it
      learns : (v : ℕ) → v < length t.routers → ((u : ℕ) → u < length t.routers → level t (exit_of t p) u < level t (exit_of t p) v → Has k u) → member (learned t i a v) p ≡ true
      learns v below lower =
          elim (cases_eq v (exit_of t p)) [
            | inl here ↦ learned_own t i a v p declared (sym here, injected)
            | inr other ↦
                let from = handed t fits.led p v exit_below below other in
                let w = from.0 in
                learned_peer t i a v p declared w
                (from.1.0, from.1.1, tells_it w (lower w from.1.0 (upward t w v p from.1.1 from.1.2)), from.1.2)
          ]

      -- the exit point always knows it
      at_its_exit : (v : ℕ) → v < length t.routers → level t (exit_of t p) v < 1 → Has k v
      at_its_exit v below low =
          let here : v ≡ exit_of t p = at_exit t (exit_of t p) v (omega (arith, low)) in
          ap (λ u. member (set_of k u) p) here ∙ f.consistent.own p declared ∙ injected

    fresh :
        (k a : List ℕ) (w v : ℕ) → ((u : ℕ) → member w u ≡ true → u < length t.routers) → Flushed k a → v < length t.routers → member w v ≡ true →
        ((u : ℕ) → u < length t.routers → level t (exit_of t p) u < level t (exit_of t p) v → Has k u) → Has (activated kept (at t i k a) w).known v
    fresh k a w v few f below m lower = ap (λ set. member set p) (knows_named laws f.consistent w few v m) ∙ learns f v below lower

    stays :
        (k a : List ℕ) (w v : ℕ) → ((u : ℕ) → member w u ≡ true → u < length t.routers) → Flushed k a → v < length t.routers → member w v ≡ false → Has k v →
        Has (activated kept (at t i k a) w).known v
    stays k a w v few f below m has = ap (λ set. member set p) (knows_other laws f.consistent w few v m) ∙ has

    -- after three rounds every router knows it
    has_after : (ws k a : List ℕ) → Below (length t.routers) ws → Flushed k a → Rounds (length t.routers) 3 ws → (v : ℕ) → v < length t.routers → Has (after kept (at t i k a) ws).known v
    has_after ws k a few f rounds v below =
        let risen = rises_by kept t i (length t.routers) (level t (exit_of t p)) Flushed Has goes_on fresh stays 3 ws rounds 1 k a few f (at_its_exit f) in
        risen.1 v below (omega (arith, no_higher t (exit_of t p) v))

  -- after three rounds every router knows what is kept of the injected paths
  pub filled :
      (ws k a : List ℕ) → Below (length t.routers) ws → Flushed k a → Rounds (length t.routers) 3 ws →
      (v : ℕ) → v < length t.routers → Subset (kept t.paths i) (set_of (after kept (at t i k a) ws).known v)
  filled ws k a few f rounds v below p m = has_after p m ws k a few f rounds v below
