-- Stretches of steps, one behind the other, and what they leave. Assumes nothing.
use Rattle.std.proofs.Common.{◌≡◌, ℕ, zero, suc, ◌+◌, ◌<◌, ◌≤◌, List, ◌++◌, length, sym, ap, ◌∙◌, subst, arith}
use Rattle.std.specs.Prelude.{◌↔◌}
use Rattle.std.proofs.lemmas.Bool.{or_left, or_right}
use Rattle.std.proofs.lemmas.List.{append_assoc, map-append}
use Rattle.std.proofs.lemmas.List.Folds.{list_any-append}
use Rattle.layout.specs.Table.{Declared}
use Rattle.selection.specs.Laws.{Keeping, Laws}
use Rattle.sets.specs.Members.{member}
use Rattle.protocol.specs.Moves.Move.{Activated}
use Rattle.protocol.specs.Network.{State, set_of}
use Rattle.protocol.specs.Settled.{Settled, stretch, named, Round, Rounds}
use Rattle.protocol.specs.Settled.Rounds.{begins, then}
use Rattle.protocol.proofs.Rising.{Below, after, after_is}
use Rattle.protocol.proofs.Running.{Sane, same_table, below_comes, all_sane}
use Rattle.protocol.proofs.Staying.{stays_settled}

pub stretch_append : (vs ws : List ℕ) → stretch (vs ++ ws) ≡ stretch vs ++ stretch ws
stretch_append vs ws = map-append Activated vs ws

-- a round with steps in front of it is a round
pub round_behind : (n : ℕ) (before round : List ℕ) → Round n round → Round n (before ++ round)
round_behind n before round r v below = list_any-append (λ w. member w v) before round ∙ or_right (named before v) (named round v) (r v below)

pub round_in_front : (n : ℕ) (round behind : List ℕ) → Round n round → Round n (round ++ behind)
round_in_front n round behind r v below = list_any-append (λ w. member w v) round behind ∙ or_left (named round v) (named behind v) (r v below)

-- a stretch with rounds, and more in front of it
pub more_before : (n k : ℕ) (before ws : List ℕ) → Rounds n k ws → Rounds n k (before ++ ws)
more_before n zero before ws (begins _) = begins (before ++ ws)
more_before n (suc k) before _ (then round ws _ r rs) =
    subst (Rounds n (suc k)) (append_assoc before round ws) (then (before ++ round) ws k (round_behind n before round r) rs)

-- rounds, and more rounds behind them
pub rounds_append : (n k m : ℕ) (vs ws : List ℕ) → Rounds n k vs → Rounds n m ws → Rounds n (k + m) (vs ++ ws)
rounds_append n zero m vs ws (begins _) later = subst (λ j. Rounds n j (vs ++ ws)) (omega arith) (more_before n m vs ws later)
rounds_append n (suc k) m _ ws (then round vs _ r rs) later =
    subst (λ j. Rounds n j ((round ++ vs) ++ ws)) (omega arith)
    (subst (Rounds n (suc (k + m))) (sym (append_assoc round vs ws)) (then round (vs ++ ws) (k + m) r (rounds_append n k m vs ws rs later)))

-- of some rounds, the first ones
pub fewer_rounds : (n k m : ℕ) (ws : List ℕ) → k ≤ m → Rounds n m ws → Rounds n k ws
fewer_rounds n zero m ws few rs = begins ws
fewer_rounds n (suc k) zero ws few rs = absurd (omega (arith, few))
fewer_rounds n (suc k) (suc m) _ few (then round ws _ r rs) = then round ws k r (fewer_rounds n k m ws (omega (arith, few)) rs)

-- a stretch leaves the injected paths
pub same_injected : (kept : Keeping) (ws : List ℕ) (s : State) → (after kept s ws).injected ≡ s.injected
same_injected kept ws s = ap (λ (x : State). x.injected) (after_is kept s.table s.injected ws s.known s.advertised)

-- whether a network is settled turns on its table, its injected paths and the advertised sets alone
pub settled_by : (kept : Keeping) (s x : State) → x.table ≡ s.table → x.injected ≡ s.injected → x.advertised ≡ s.advertised → Settled kept s → Settled kept x
settled_by kept s x table injected advertised settled v below =
    let there : v < length s.table.routers = subst (λ (t : Declared). v < length t.routers) table below in
    ap (λ (a : List ℕ). set_of a v) advertised ∙ settled v there
    ∙ ap (λ (t : Declared). kept t.paths s.injected) (sym table) ∙ ap (kept x.table.paths) (sym injected)

-- so two networks that are alike in these are settled or not together
pub settled_alike :
    (kept : Keeping) (s x : State) → x.table ≡ s.table → x.injected ≡ s.injected → x.advertised ≡ s.advertised → Settled kept s ↔ Settled kept x
settled_alike kept s x table injected advertised = (
  settled_by kept s x table injected advertised,
  settled_by kept x s (sym table) (sym injected) (sym advertised),
)

module _ {kept : Keeping} (laws : Laws kept) where
  pub sane_after : (ws : List ℕ) (s : State) → Below (length s.table.routers) ws → Sane laws s → Sane laws (after kept s ws)
  sane_after ws s few c = all_sane laws (stretch ws) s c (below_comes kept ws s few)

  -- a settled network stays settled
  pub settled_after : (ws : List ℕ) (s : State) → Below (length s.table.routers) ws → Sane laws s → Settled kept s → Settled kept (after kept s ws)
  settled_after ws s few c settled =
      settled_by kept s (after kept s ws) (same_table kept ws s) (same_injected kept ws s)
      (stays_settled laws s.table c.0 s.injected ws s.known s.advertised few c.1 settled) settled
