-- A settled network stays settled. Assumes nothing.
use Rattle.std.proofs.Common.{◌≡◌, ℕ, ◌<◌, true, List, [], ◌∷◌, length, sym, refl, ap, ◌∙◌, subst, inl, inr}
use Rattle.std.proofs.lemmas.Bool.{cases_eq, cases_Bool}
use Rattle.std.proofs.lemmas.List.Elements.{All-get_or}
use Rattle.layout.specs.Table.{Declared}
use Rattle.layout.specs.WellFormed.{PathFits}
use Rattle.packets.specs.Best.{exit_of}
use Rattle.selection.specs.Laws.{Keeping, Laws}
use Rattle.sets.specs.Members.{member, Subset}
use Rattle.protocol.specs.Network.{set_of, learned}
use Rattle.protocol.specs.Moves.{activated, after_all}
use Rattle.protocol.specs.Settled.{Settled}
use Rattle.protocol.specs.Consistent.{Consistent}
use Rattle.protocol.proofs.Fitting.{Fits}
use Rattle.protocol.proofs.Levels.{handed}
use Rattle.protocol.proofs.Learning.{learned_from, learned_own, learned_peer}
use Rattle.protocol.proofs.Activation.{tells_named, tells_other, stays_consistent}
use Rattle.protocol.proofs.Quiet.{same_sets}
use Rattle.protocol.proofs.Rising.{Below, at, after}

module _ {kept : Keeping} (laws : Laws kept) (t : Declared) (fits : Fits t) (i : ℕ) where
  module _ {k a : List ℕ} (c : Consistent kept (at t i k a)) (settled : Settled kept (at t i k a)) where
    -- a router learns injected paths only
    learns_injected : (v : ℕ) → Subset (learned t i a v) i
    learns_injected v p got =
        elim ((learned_from t i a v p got).1) [
          | inl own ↦ own.1
          | inr peer ↦
              laws.within t.paths i c.injected_declared p (subst (λ set. member set p ≡ true) (settled peer.0 peer.1.0) peer.1.2)
        ]

    -- and all that is kept of them
    learns_kept : (v : ℕ) → v < length t.routers → Subset (kept t.paths i) (learned t i a v)
    learns_kept v below p keeps =
        let injected = laws.within t.paths i c.injected_declared p keeps in
        let declared = c.injected_declared p injected in
        let exit_below = (All-get_or (PathFits (length t.routers)) t.paths p _ declared fits.sound.paths_fit).at_router in
        elim (cases_eq v (exit_of t p)) [
          | inl here ↦ learned_own t i a v p declared (sym here, injected)
          | inr other ↦
              let from = handed t fits.led p v exit_below below other in
              let w = from.0 in
              learned_peer t i a v p declared w (from.1.0, from.1.1, subst (λ set. member set p ≡ true) (sym (settled w from.1.0)) keeps, from.1.2)
        ]

    -- so it would advertise what it does
    would_same : (v : ℕ) → v < length t.routers → kept t.paths (learned t i a v) ≡ set_of a v
    would_same v below = laws.outcast t.paths i (learned t i a v) c.injected_declared (learns_injected v) (learns_kept v below) ∙ sym (settled v below)

    stays_once : (w : ℕ) → ((v : ℕ) → member w v ≡ true → v < length t.routers) → (activated kept (at t i k a) w).advertised ≡ a
    stays_once w named =
        same_sets _ a (stays_consistent laws c w named).all_advertised c.all_advertised
        (λ v.
        elim (cases_Bool (member w v)) [
          | inl m ↦ tells_named laws c w named v m ∙ would_same v (named v m)
          | inr m ↦ tells_other laws c w named v m
        ])

  pub stays_settled : (ws k a : List ℕ) → Below (length t.routers) ws → Consistent kept (at t i k a) → Settled kept (at t i k a) → (after kept (at t i k a) ws).advertised ≡ a
  unfolding after_all
  stays_settled [] k a few c settled = refl
  stays_settled (w ∷ ws) k a few c settled =
      let same = stays_once c settled w few.0 in
      let next : Settled kept (activated kept (at t i k a) w) = λ v below. ap (λ (x : List ℕ). set_of x v) same ∙ settled v below in
      stays_settled ws (activated kept (at t i k a) w).known (activated kept (at t i k a) w).advertised few.1 (stays_consistent laws c w few.0) next ∙ same
