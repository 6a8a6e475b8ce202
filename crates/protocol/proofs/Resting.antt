-- A settled network advertises one thing only. Assumes nothing.
use Rattle.std.proofs.Common.{◌≡◌, ℕ, zero, suc, ◌+◌, ◌^◌, ◌<◌, ◌≤◌, true, List, [], ◌∷◌, ◌++◌, map, length, sym, ap, ◌∙◌, subst, inl, inr, arith}
use Rattle.std.proofs.lemmas.Bool.{cases_lt, or_left, or_right, eq-eqb, eqb-true, cases_eq}
use Rattle.std.specs.List.{range_with_len}
use Rattle.layout.specs.Table.{Declared}
use Rattle.selection.specs.Laws.{Keeping, Laws}
use Rattle.sets.specs.Members.{member}
use Rattle.sets.proofs.Single.{member_one}
use Rattle.protocol.specs.Moves.{one_by_one, all_of}
use Rattle.protocol.specs.Settled.{Settled, Round, Rounds, named}
use Rattle.protocol.specs.Settled.Rounds.{begins, then}
use Rattle.protocol.specs.Consistent.{Consistent}
use Rattle.protocol.proofs.Fitting.{Fits}
use Rattle.protocol.proofs.Rising.{Below, below_front, at, after, after_is}
use Rattle.protocol.proofs.Settling.{more_after, consistent_after, settles}
use Rattle.protocol.proofs.Quiet.{same_sets}

module _ {kept : Keeping} (laws : Laws kept) (t : Declared) (fits : Fits t) (i : ℕ) where
  -- two settled networks of the same injected paths advertise the same
  pub same_settled :
      (k a k' a' : List ℕ) → Consistent kept (at t i k a) → Settled kept (at t i k a) → Consistent kept (at t i k' a') → Settled kept (at t i k' a') → a' ≡ a
  same_settled k a k' a' c settled c' settled' =
      same_sets a' a c'.all_advertised c.all_advertised
      (λ v.
      elim (cases_lt v (length t.routers)) [
        | inl below ↦ settled' v below ∙ sym (settled v below)
        | inr past ↦
            c'.advertises v ∙ ap (kept t.paths) (c'.no_router v past) ∙ ap (kept t.paths) (sym (c.no_router v past)) ∙ sym (c.advertises v)
      ])

  -- after six rounds nothing that comes without a change alters an advertised set
  pub rests :
      (ws more k a : List ℕ) → Below (length t.routers) (ws ++ more) → Consistent kept (at t i k a) → Rounds (length t.routers) 6 ws →
      (after kept (at t i k a) (ws ++ more)).advertised ≡ (after kept (at t i k a) ws).advertised
  rests ws more k a few c rounds =
      let few_front = below_front (length t.routers) ws more few in
      let s = after kept (at t i k a) ws in
      let s' = after kept (at t i k a) (ws ++ more) in
      let settled = settles laws t fits i ws k a few_front c rounds in
      let settled' = settles laws t fits i (ws ++ more) k a few c (more_after (length t.routers) 6 ws more rounds) in
      same_settled s.known s.advertised s'.known s'.advertised
      (consistent_after laws t fits i ws k a few_front c) (subst (Settled kept) (after_is kept t i ws k a) settled)
      (consistent_after laws t fits i (ws ++ more) k a few c) (subst (Settled kept) (after_is kept t i (ws ++ more) k a) settled')

-- one router after another is a round
named_from : (n a v : ℕ) → a ≤ v → v < a + n → named (map (λ u. 2 ^ u) (range_with_len a n)) v ≡ true
named_from zero a v low high = absurd (omega arith)
named_from (suc n) a v low high =
    elim (cases_eq v a) [
      | inl here ↦ or_left (member (2 ^ a) v) _ (member_one a v ∙ eq-eqb v a here)
      | inr other ↦ or_right (member (2 ^ a) v) _ (named_from n (a + 1) v (omega (arith, low, other)) (omega (arith, high)))
    ]

pub one_by_one_round : (n : ℕ) → Round n (one_by_one n)
one_by_one_round n v below = named_from n 0 v (omega arith) (omega (arith, below))

pub all_of_rounds : (n m : ℕ) → Rounds n m (all_of n m)
unfolding all_of
all_of_rounds n zero = begins []
all_of_rounds n (suc m) = then (one_by_one n) (all_of n m) m (one_by_one_round n) (all_of_rounds n m)

range_below : (n a k : ℕ) → a + n ≤ k → Below k (map (λ u. 2 ^ u) (range_with_len a n))
range_below zero a k l = tt
range_below (suc n) a k l = (
  λ v m.
      let here : v ≡ a = eqb-true v a (sym (member_one a v) ∙ m) in
      omega (arith, here, l),
  range_below n (a + 1) k (omega (arith, l)),
)

-- two stretches of declared routers, one behind the other
pub below_join : (n : ℕ) (vs ws : List ℕ) → Below n vs → Below n ws → Below n (vs ++ ws)
below_join n [] ws g h = h
below_join n (v ∷ vs) ws g h = (g.0, below_join n vs ws g.1 h)

pub all_of_below : (n m : ℕ) → Below n (all_of n m)
unfolding all_of
all_of_below n zero = tt
all_of_below n (suc m) = below_join n (one_by_one n) (all_of n m) (range_below n 0 n (omega arith)) (all_of_below n m)
