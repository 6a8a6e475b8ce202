-- Six rounds settle a network, and it stays settled. Assumes nothing.
use Rattle.std.proofs.Common.{◌≡◌, ℕ, zero, suc, ◌+◌, ◌<◌, true, List, [], ◌∷◌, ◌++◌, length, sym, refl, ap, ◌∙◌, subst, inl, inr, arith}
use Rattle.std.proofs.lemmas.Bool.{both_ways, cases_lt}
use Rattle.std.proofs.lemmas.List.{append_assoc}
use Rattle.layout.specs.Table.{Declared}
use Rattle.selection.specs.Laws.{Keeping, Laws}
use Rattle.sets.specs.Members.{member, Subset}
use Rattle.sets.proofs.Digits.{member_none}
use Rattle.protocol.specs.Network.{set_of}
use Rattle.protocol.specs.Moves.{activated, after_all}
use Rattle.protocol.specs.Settled.{Settled, Rounds}
use Rattle.protocol.specs.Settled.Rounds.{begins, then}
use Rattle.protocol.specs.Consistent.{Consistent}
use Rattle.protocol.proofs.Fitting.{Fits}
use Rattle.protocol.proofs.Activation.{stays_consistent}
use Rattle.protocol.proofs.Flushing.{flushed}
use Rattle.protocol.proofs.Filling.{Flushed, goes_on, filled}
use Rattle.protocol.proofs.Rising.{Below, below_front, below_back, at, after, after_append, after_is}

-- a stretch with rounds, and more behind it
pub more_after : (n k : ℕ) (ws more : List ℕ) → Rounds n k ws → Rounds n k (ws ++ more)
more_after n zero ws more (begins _) = begins (ws ++ more)
more_after n (suc k) _ more (then round ws _ r rs) = subst (Rounds n (suc k)) (sym (append_assoc round ws more)) (then round (ws ++ more) k r (more_after n k ws more rs))

-- the first rounds, and the others
pub record Parted (n k m : ℕ) (ws : List ℕ) : Type 0 where
  pub front : List ℕ
  pub back : List ℕ
  pub whole : ws ≡ front ++ back
  pub first : Rounds n k front
  pub others : Rounds n m back

pub parted : (n k m all : ℕ) (ws : List ℕ) → all ≡ k + m → Rounds n all ws → Parted n k m ws
parted n zero m all ws e rs =
    let same : all ≡ m = omega (arith, e) in
    record { front = []; back = ws; whole = refl; first = begins []; others = subst (λ j. Rounds n j ws) same rs }
parted n (suc k) m zero ws e rs = absurd (omega (arith, e))
parted n (suc k) m (suc all) _ e (then round ws _ r rs) =
    let rest = parted n k m all ws (omega (arith, e)) rs in
    record {
      front = round ++ rest.front;
      back = rest.back;
      whole = ap (λ vs. round ++ vs) rest.whole ∙ sym (append_assoc round rest.front rest.back);
      first = then round rest.front k r rest.first;
      others = rest.others;
    }

module _ {kept : Keeping} (laws : Laws kept) (t : Declared) (fits : Fits t) (i : ℕ) where
  pub consistent_after : (ws k a : List ℕ) → Below (length t.routers) ws → Consistent kept (at t i k a) → Consistent kept (at t i (after kept (at t i k a) ws).known (after kept (at t i k a) ws).advertised)
  unfolding after_all
  consistent_after [] k a few c = c
  consistent_after (w ∷ ws) k a few c = consistent_after ws (activated kept (at t i k a) w).known (activated kept (at t i k a) w).advertised few.1 (stays_consistent laws c w few.0)

  flushed_after : (ws k a : List ℕ) → Below (length t.routers) ws → Flushed laws t fits i k a → Flushed laws t fits i (after kept (at t i k a) ws).known (after kept (at t i k a) ws).advertised
  unfolding after_all
  flushed_after [] k a few f = f
  flushed_after (w ∷ ws) k a few f = flushed_after ws (activated kept (at t i k a) w).known (activated kept (at t i k a) w).advertised few.1 (goes_on laws t fits i k a w few.0 f)

  -- the first three rounds flush
  flush : (ws k a : List ℕ) → Below (length t.routers) ws → Consistent kept (at t i k a) → Rounds (length t.routers) 3 ws → Flushed laws t fits i (after kept (at t i k a) ws).known (after kept (at t i k a) ws).advertised
  flush ws k a few c rs =
      let then_consistent = consistent_after ws k a few c in
      record {
        consistent = then_consistent;
        injected_only = λ v.
            elim (cases_lt v (length t.routers)) [
              | inl below ↦ flushed laws t i ws k a few c rs v below
              | inr past ↦ λ p m. absurd (both_ways _ (member_none p) (subst (λ set. member set p ≡ true) (then_consistent.no_router v past) m))
            ];
      }

  -- where each router knows all that is kept of the injected paths and no others, the network is settled
  settles_by : (k a : List ℕ) → Flushed laws t fits i k a → ((v : ℕ) → v < length t.routers → Subset (kept t.paths i) (set_of k v)) → Settled kept (at t i k a)
  settles_by k a f full v below =
      f.consistent.advertises v ∙ laws.outcast t.paths i (set_of k v) f.consistent.injected_declared (f.injected_only v) (full v below)

  -- six rounds settle
  pub settles : (ws k a : List ℕ) → Below (length t.routers) ws → Consistent kept (at t i k a) → Rounds (length t.routers) 6 ws → Settled kept (after kept (at t i k a) ws)
  settles ws k a few c rs =
      let parts = parted (length t.routers) 3 3 6 ws refl rs in
      let few_parts : Below (length t.routers) (parts.front ++ parts.back) = subst (Below (length t.routers)) parts.whole few in
      let few_front = below_front (length t.routers) parts.front parts.back few_parts in
      let few_back = below_back (length t.routers) parts.front parts.back few_parts in
      let s = after kept (at t i k a) parts.front in
      let f : Flushed laws t fits i s.known s.advertised = flush parts.front k a few_front c parts.first in
      let s' = after kept (at t i s.known s.advertised) parts.back in
      let g : Flushed laws t fits i s'.known s'.advertised = flushed_after parts.back s.known s.advertised few_back f in
      let done : Settled kept (at t i s'.known s'.advertised) = settles_by s'.known s'.advertised g (filled laws t fits i parts.back s.known s.advertised few_back f parts.others) in
      let same : at t i s'.known s'.advertised ≡ after kept (at t i k a) ws =
      sym (after_is kept t i parts.back s.known s.advertised)
      ∙ ap (λ x. after kept x parts.back) (sym (after_is kept t i parts.front k a))
      ∙ sym (after_append kept (at t i k a) parts.front parts.back)
      ∙ ap (after kept (at t i k a)) (sym parts.whole) in
      subst (Settled kept) same done
