-- Rounds of one router a step, one step and one round further on.
use Rattle.std.proofs.Common.{◌≡◌, append-nil, ℕ, zero, suc, ◌+◌, ◌^◌, [], ◌∷◌, ◌++◌, sym, refl, ap, ◌∙◌, arith, append_assoc}
use Rattle.std.proofs.lemmas.List.FromFn.{map-range_with_len_more}
use Rattle.selection.specs.Laws.{Keeping}
use Rattle.protocol.specs.Moves.{after_all, activated, one_by_one, all_of}
use Rattle.protocol.specs.Network.{State}
use Rattle.protocol.proofs.Rising.{after, after_append}

one_more : (n : ℕ) → one_by_one (n + 1) ≡ one_by_one n ++ (2 ^ n ∷ [])
one_more n = map-range_with_len_more (λ v. 2 ^ v) 0 n n (omega arith)

-- a round before some is a round behind them
turn_round : (n m : ℕ) → one_by_one n ++ all_of n m ≡ all_of n m ++ one_by_one n
unfolding all_of
turn_round n zero = append-nil (one_by_one n)
turn_round n (suc m) = ap (λ ws. one_by_one n ++ ws) (turn_round n m) ∙ sym (append_assoc (one_by_one n) (all_of n m) (one_by_one n))

round_more : (n m : ℕ) → all_of n (m + 1) ≡ all_of n m ++ one_by_one n
unfolding all_of
round_more n m =
    let here : m + 1 ≡ suc m = omega arith in
    ap (all_of n) here ∙ turn_round n m

module _ (kept : Keeping) (s : State) where
  pub no_step : s ≡ after kept s (one_by_one 0)
  unfolding after_all
  no_step = refl

  -- one step further on
  pub step_more : (n : ℕ) (x y : State) → x ≡ after kept s (one_by_one n) → y ≡ activated kept x (2 ^ n) → y ≡ after kept s (one_by_one (n + 1))
  unfolding after_all
  step_more n x y before next =
      next ∙ ap (λ (z : State). activated kept z (2 ^ n)) before
      ∙ sym (after_append kept s (one_by_one n) (2 ^ n ∷ [])) ∙ ap (after kept s) (sym (one_more n))

  pub no_round : (n : ℕ) → s ≡ after kept s (all_of n 0)
  unfolding after_all all_of
  no_round n = refl

  -- one round further on
  pub rounds_more : (n m : ℕ) (x y : State) → x ≡ after kept s (all_of n m) → y ≡ after kept x (one_by_one n) → y ≡ after kept s (all_of n (m + 1))
  rounds_more n m x y before next =
      next ∙ ap (λ (z : State). after kept z (one_by_one n)) before
      ∙ sym (after_append kept s (all_of n m) (one_by_one n)) ∙ ap (after kept s) (sym (round_more n m))
