-- A run of calls, one call at a time and one part after another.
use Rattle.std.proofs.Common.{◌≡◌, ℕ, suc, ◌+◌, true, false, List, [], ◌∷◌, ◌++◌, length, sym, refl, ap, ◌∙◌, inl, inr, arith}
use Rattle.std.proofs.lemmas.Bool.{cases_Bool, cond-true, cond-false}
use Rattle.std.proofs.lemmas.List.{append-nil, append_assoc}
use Rattle.selection.specs.Laws.{Keeping}
use Rattle.protocol.specs.Moves.{Move, after_all}
use Rattle.protocol.specs.Runs.{reached}
use Rattle.protocol.proofs.Running.{all_append}
use Rattle.calls.specs.Turns.{World, beginning, moves_of, offered, Run, next, turned, run}
use Rattle.calls.specs.Promise.{run_of, world_of, network_of, AllMade, GoesOn, Stops}
use Rattle.calls.specs.declared.turn.Turn.{Turn}

-- a run, and another behind it
abbrev pub joined : Run → Run → Run
joined a b = record { turns = a.turns ++ b.turns; moves = a.moves ++ b.moves; made = a.made + b.made; world = b.world }

module _ (kept : Keeping) where
  -- a run goes through one call that is made, and on from there
  abbrev pub goes_through : World → Turn → Run → Run
  goes_through w t rest = record { turns = turned kept w t ∷ rest.turns; moves = moves_of w.network t.call ++ rest.moves; made = suc rest.made; world = rest.world }

  -- or no call is made
  abbrev pub stops_at : World → List Turn → Run
  stops_at w ts = record { turns = ts; moves = []; made = 0; world = w }

  module _ (w : World) (t : Turn) (ts : List Turn) where
    abbrev pub rest_of : Run
    rest_of = run kept (next kept w t.call) ts

    pub run_made : offered w.settled t.call ≡ true → run kept w (t ∷ ts) ≡ goes_through w t rest_of
    unfolding run
    run_made made = cond-true (offered w.settled t.call) _ _ made

    pub run_stops : offered w.settled t.call ≡ false → run kept w (t ∷ ts) ≡ stops_at w (t ∷ ts)
    unfolding run
    run_stops stops = cond-false (offered w.settled t.call) _ _ stops

  pub run_none : (w : World) → run kept w [] ≡ stops_at w []
  unfolding run
  run_none w = refl

  -- the run of the calls behind a run
  abbrev pub run_on : Run → List Turn → Run
  run_on r back = run kept r.world back

  joined_none : (w : World) (r : Run) → r ≡ joined (stops_at w []) r
  joined_none w r =
      let none : r.made ≡ 0 + r.made = omega arith in
      ap (λ (n : ℕ). record { turns = r.turns; moves = r.moves; made = n; world = r.world }) none

  joined_through : (w : World) (t : Turn) (a b : Run) → goes_through w t (joined a b) ≡ joined (goes_through w t a) b
  joined_through w t a b =
      let count : suc (a.made + b.made) ≡ suc a.made + b.made = omega arith in
      ap (λ (n : ℕ). record { turns = turned kept w t ∷ (a.turns ++ b.turns); moves = moves_of w.network t.call ++ (a.moves ++ b.moves); made = n; world = b.world }) count
      ∙ ap (λ (ms : List Move). record { turns = turned kept w t ∷ (a.turns ++ b.turns); moves = ms; made = suc a.made + b.made; world = b.world }) (sym (append_assoc (moves_of w.network t.call) a.moves b.moves))

  -- where the first calls were made, those behind them go on from where these left the run
  pub run_append : (front back : List Turn) (w : World) → (run kept w front).made ≡ length front → run kept w (front ++ back) ≡ joined (run kept w front) (run_on (run kept w front) back)
  run_append [] back w made = joined_none w (run kept w back) ∙ ap (λ (r : Run). joined r (run_on r back)) (sym (run_none w))
  run_append (t ∷ ts) back w made =
      elim (cases_Bool (offered w.settled t.call)) [
        | inl m ↦
            let first = run_made w t ts m in
            let rest = rest_of w t ts in
            let others : rest.made ≡ length ts = omega (arith, ap (λ (r : Run). r.made) first) in
            run_made w t (ts ++ back) m
            ∙ ap (goes_through w t) (run_append ts back (next kept w t.call) others)
            ∙ joined_through w t rest (run_on rest back)
            ∙ ap (λ (r : Run). joined r (run_on r back)) (sym first)
        | inr stops ↦
            let none = ap (λ (r : Run). r.made) (run_stops w t ts stops) in
            absurd (omega (arith, none))
      ]

  -- the network is what happened to it made of it
  pub run_reaches : (ts : List Turn) (w : World) → (run kept w ts).world.network ≡ after_all kept w.network (run kept w ts).moves
  unfolding after_all
  run_reaches [] w = ap (λ (r : Run). r.world.network) (run_none w) ∙ ap (λ (r : Run). after_all kept w.network r.moves) (sym (run_none w))
  run_reaches (t ∷ ts) w =
      elim (cases_Bool (offered w.settled t.call)) [
        | inl m ↦
            let first = run_made w t ts m in
            ap (λ (r : Run). r.world.network) first
            ∙ run_reaches ts (next kept w t.call)
            ∙ sym (all_append kept (moves_of w.network t.call) (rest_of w t ts).moves w.network)
            ∙ ap (λ (r : Run). after_all kept w.network r.moves) (sym first)
        | inr stops ↦
            let none = run_stops w t ts stops in
            ap (λ (r : Run). r.world.network) none ∙ ap (λ (r : Run). after_all kept w.network r.moves) (sym none)
      ]

  -- whether all were made or not, what happens in a run of the first calls happens first in the whole one
  pub moves_first : (front back : List Turn) (w : World) → (later : List Move) × ((run kept w (front ++ back)).moves ≡ (run kept w front).moves ++ later)
  moves_first [] back w = ((run kept w back).moves, ap (λ (r : Run). r.moves ++ (run kept w back).moves) (sym (run_none w)))
  moves_first (t ∷ ts) back w =
      elim (cases_Bool (offered w.settled t.call)) [
        | inl m ↦
            let more = moves_first ts back (next kept w t.call) in
            let rest = rest_of w t ts in (
              more.0,
              ap (λ (r : Run). r.moves) (run_made w t (ts ++ back) m)
                  ∙ ap (λ (ms : List Move). moves_of w.network t.call ++ ms) more.1
                  ∙ sym (append_assoc (moves_of w.network t.call) rest.moves more.0)
                  ∙ ap (λ (r : Run). r.moves ++ more.0) (sym (run_made w t ts m)),
            )
        | inr stops ↦ (
          [],
          ap (λ (r : Run). r.moves) (run_stops w t (ts ++ back) stops) ∙ ap (λ (r : Run). r.moves ++ []) (sym (run_stops w t ts stops)),
        )
      ]

  -- each call has its turn afterwards, made or not
  pub length_turns : (ts : List Turn) (w : World) → length (run kept w ts).turns ≡ length ts
  length_turns [] w = ap (λ (r : Run). length r.turns) (run_none w)
  length_turns (t ∷ ts) w =
      elim (cases_Bool (offered w.settled t.call)) [
        | inl m ↦ ap (λ (r : Run). length r.turns) (run_made w t ts m) ∙ ap suc (length_turns ts (next kept w t.call))
        | inr stops ↦ ap (λ (r : Run). length r.turns) (run_stops w t ts stops)
      ]

  module _ (bytes : List ℕ) (front : List Turn) (t : Turn) where
    -- one call more, where the first ones were made
    abbrev pub one_more : Run
    one_more = joined (run_of kept bytes front) (goes_through (world_of kept bytes front) t (stops_at (next kept (world_of kept bytes front) t.call) []))

    pub run_more : AllMade kept bytes front → offered (world_of kept bytes front).settled t.call ≡ true → run_of kept bytes (front ++ (t ∷ [])) ≡ one_more
    run_more made offers =
        let w = world_of kept bytes front in
        run_append front (t ∷ []) (beginning bytes) made
        ∙ ap (joined (run_of kept bytes front)) (run_made w t [] offers ∙ ap (goes_through w t) (run_none (next kept w t.call)))

    -- a call that is not offered leaves what the first ones left, and the turns as they were
    pub run_no_more : (back : List Turn) → AllMade kept bytes front → offered (world_of kept bytes front).settled t.call ≡ false → run_of kept bytes (front ++ (t ∷ back)) ≡ joined (run_of kept bytes front) (stops_at (world_of kept bytes front) (t ∷ back))
    run_no_more back made stops =
        run_append front (t ∷ back) (beginning bytes) made ∙ ap (joined (run_of kept bytes front)) (run_stops (world_of kept bytes front) t back stops)

pub goes_on : (kept : Keeping) (bytes : List ℕ) (front back : List Turn) → AllMade kept bytes front → GoesOn kept bytes front back
goes_on kept bytes front back made =
    let whole = run_append kept front back (beginning bytes) made in
    record {
      turns = ap (λ (r : Run). r.turns) whole;
      moves = ap (λ (r : Run). r.moves) whole;
      made = ap (λ (r : Run). r.made) whole ∙ ap (λ (n : ℕ). n + (run_on kept (run_of kept bytes front) back).made) made;
      world = ap (λ (r : Run). r.world) whole;
    }

pub stops :
    (kept : Keeping) (bytes : List ℕ) (front back : List Turn) (t : Turn) → AllMade kept bytes front → offered (world_of kept bytes front).settled t.call ≡ false → Stops kept bytes front (t ∷ back)
stops kept bytes front back t made none =
    let whole = run_no_more kept bytes front t back made none in
    record {
      turns = ap (λ (r : Run). r.turns) whole;
      moves = ap (λ (r : Run). r.moves) whole ∙ append-nil (run_of kept bytes front).moves;
      made = omega (arith, ap (λ (r : Run). r.made) whole, made);
      world = ap (λ (r : Run). r.world) whole;
    }

-- the network of a run, by what happened in it
pub reaches : (kept : Keeping) (bytes : List ℕ) (turns : List Turn) → network_of kept bytes turns ≡ reached kept (run_of kept bytes turns).moves
reaches kept bytes turns = run_reaches kept turns (beginning bytes)
