-- Rounds of calls are rounds of the steps that they make.
use Rattle.std.proofs.Common.{◌≡◌, ℕ, suc, ◌⊎◌, true, List, [], ◌∷◌, ◌++◌, length, All, Some, Ok, Err, sym, refl, ap, ◌∙◌, subst, inl, inr, arith}
use Rattle.std.proofs.lemmas.Bool.{cases_Bool}
use Rattle.std.proofs.lemmas.List.{append-nil, append_assoc, length-append}
use Rattle.std.proofs.lemmas.List.Elements.{All-nil, All-cons, All-head, All-tail}
use Rattle.layout.specs.Table.{Declared}
use Rattle.selection.specs.Laws.{Keeping, Laws}
use Rattle.protocol.specs.Moves.{Move, begun, after_all}
use Rattle.protocol.specs.Network.{State}
use Rattle.protocol.specs.Runs.{AllCome, reached, Rests}
use Rattle.protocol.specs.Settled.{Settled, stretch, Round, Rounds}
use Rattle.protocol.proofs.Rising.{after, after_append}
use Rattle.protocol.proofs.Running.{Sane, all_append, come_front, come_back, begun_sane, all_sane, same_table}
use Rattle.protocol.proofs.Stretches.{stretch_append, same_injected, settled_by}
use Rattle.calls.specs.Calls.{Coming, coming, answered, at_rest}
use Rattle.calls.specs.History.{Accepts, Changes}
use Rattle.calls.specs.Promise.{run_of, world_of, network_of, AllMade, Unaltered, Rounded}
use Rattle.calls.specs.Rounds.{step_by, steps_by, steps_in}
use Rattle.calls.specs.Turns.{World, beginning, of_moves, moves_of, answer_to, offered, Run, next, turned, run}
use Rattle.calls.specs.declared.action.Action.{Action}
use Rattle.calls.specs.declared.action.Action.TheVariants.{Load, Inject, Withdraw, Restart, Step}
use Rattle.calls.specs.declared.answer.Answer.{Answer}
use Rattle.calls.specs.declared.answer.Answer.TheVariants.{Done, Refused}
use Rattle.calls.specs.declared.call.Call.{Call}
use Rattle.calls.specs.declared.call.Call.TheVariants.{Act, Settle, Reopen, Ask, Report}
use Rattle.calls.specs.declared.turn.Outcome.{Outcome}
use Rattle.calls.specs.declared.turn.Turn.{Turn}
use Rattle.calls.proofs.Appending.{rest_of, run_none, run_made, run_stops, goes_on, reaches}
use Rattle.calls.proofs.Doing.{move_is}
use Rattle.calls.proofs.Staying.{settle_settles}

-- the outcome that a turn has
abbrev pub outcome_of : Keeping → World → Turn → Outcome
outcome_of kept w t =
    record { answer = answer_to kept w t.call; advertised = (next kept w t.call).network.advertised; settled = at_rest kept (next kept w t.call).network }

module _ (kept : Keeping) where
  -- where all calls were made, the first was offered, and the others were made behind it
  pub first_made : (w : World) (t : Turn) (ts : List Turn) → (run kept w (t ∷ ts)).made ≡ length (t ∷ ts) → (offered w.settled t.call ≡ true) × ((rest_of kept w t ts).made ≡ length ts)
  first_made w t ts made =
      elim (cases_Bool (offered w.settled t.call)) [
        | inl m ↦
            let others : (rest_of kept w t ts).made ≡ length ts = omega (arith, ap (λ (r : Run). r.made) (run_made kept w t ts m), made) in
            (m, others)
        | inr stops ↦
            let none = ap (λ (r : Run). r.made) (run_stops kept w t ts stops) in
            absurd (omega (arith, none, made))
      ]

  module _ (w : World) (t : Turn) where
    -- the turn that the call leaves tells that an action was accepted
    pub accepts : (a : Action) (m : Move) → t.call ≡ Act a → coming w.network a ≡ Ok m → Accepts a (turned kept w t)
    accepts a m asks is = (asks, (_, refl, ap (answer_to kept w) asks ∙ ap (answered (λ (x : Move). Done)) is))

    -- the steps of a call by its turn
    abbrev pub steps_of : List ℕ
    steps_of = steps_by (length w.network.table.routers) t.call (turned kept w t).outcome

    -- where a call is no change, what happens is its steps
    NoChange : Type 0
    NoChange = Changes (turned kept w t) → ⊥

    abbrev Stepped : Call → Type 0
    Stepped call = t.call ≡ call → moves_of w.network call ≡ stretch (steps_by (length w.network.table.routers) call (turned kept w t).outcome)

    acted : (a : Action) (c : Coming) → coming w.network a ≡ c → t.call ≡ Act a → NoChange → of_moves c ≡ stretch (steps_by (length w.network.table.routers) (Act a) (turned kept w t).outcome)
    unfolding NoChange
    acted (Load bytes) (Ok m) is asks none = absurd (none (inl (bytes, accepts (Load bytes) m asks is)))
    acted (Inject p) (Ok m) is asks none = absurd (none (inr (inl (p, accepts (Inject p) m asks is))))
    acted (Withdraw p) (Ok m) is asks none = absurd (none (inr (inr (inl (p, accepts (Withdraw p) m asks is)))))
    acted (Restart v) (Ok m) is asks none = absurd (none (inr (inr (inr (v, accepts (Restart v) m asks is)))))
    acted (Step set) (Ok m) is asks none =
        let told : answer_to kept w t.call ≡ Done = ap (answer_to kept w) asks ∙ ap (answered (λ (x : Move). Done)) is in
        ap (λ (x : Move). x ∷ []) (move_is w.network (Step set) m is) ∙ ap (λ (a : Answer). stretch (step_by set a)) (sym told)
    acted (Load bytes) (Err fault) is asks none = refl
    acted (Inject p) (Err fault) is asks none = refl
    acted (Withdraw p) (Err fault) is asks none = refl
    acted (Restart v) (Err fault) is asks none = refl
    acted (Step set) (Err fault) is asks none =
        let told : answer_to kept w t.call ≡ Refused fault = ap (answer_to kept w) asks ∙ ap (answered (λ (x : Move). Done)) is in
        ap (λ (a : Answer). stretch (step_by set a)) (sym told)

    moved_by : NoChange → (call : Call) → Stepped call
    moved_by none (Act a) asks = acted a (coming w.network a) refl asks none
    moved_by none Settle asks = refl
    moved_by none Reopen asks = refl
    moved_by none (Ask q) asks = refl
    moved_by none (Report r part) asks = refl

    pub call_moves : (Changes (turned kept w t) → ⊥) → moves_of w.network t.call ≡ stretch steps_of
    unfolding NoChange
    call_moves none = moved_by none t.call refl

    -- so the network is what the steps make of it
    pub call_steps : (Changes (turned kept w t) → ⊥) → (next kept w t.call).network ≡ after kept w.network steps_of
    call_steps none = ap (after_all kept w.network) (call_moves none)

    pub call_table : (Changes (turned kept w t) → ⊥) → (next kept w t.call).network.table ≡ w.network.table
    call_table none = ap (λ (x : State). x.table) (call_steps none) ∙ same_table kept steps_of w.network

    pub call_injected : (Changes (turned kept w t) → ⊥) → (next kept w t.call).network.injected ≡ w.network.injected
    call_injected none = ap (λ (x : State). x.injected) (call_steps none) ∙ same_injected kept steps_of w.network

  -- calls of which none is a change, on a network of n routers
  pub record Plain (w : World) (ts : List Turn) : Type 0 where
    pub made : (run kept w ts).made ≡ length ts
    pub none : All (λ t. Changes t → ⊥) (run kept w ts).turns

  -- the first of them, and the others
  pub record Split (w : World) (t : Turn) (ts : List Turn) : Type 0 where
    pub offers : offered w.settled t.call ≡ true
    pub first : Changes (turned kept w t) → ⊥
    pub others : Plain (next kept w t.call) ts
    pub turns : (run kept w (t ∷ ts)).turns ≡ turned kept w t ∷ (rest_of kept w t ts).turns

  split : (w : World) (t : Turn) (ts : List Turn) → Plain w (t ∷ ts) → Split w t ts
  split w t ts plain =
      let made = first_made w t ts plain.made in
      let turns = ap (λ (r : Run). r.turns) (run_made kept w t ts made.0) in
      let all : All (λ (u : Turn). Changes u → ⊥) (turned kept w t ∷ (rest_of kept w t ts).turns) = subst (All (λ (u : Turn). Changes u → ⊥)) turns plain.none in
      record {
        offers = made.0;
        first = All-head (λ (u : Turn). Changes u → ⊥) _ _ all;
        others = record { made = made.1; none = All-tail (λ (u : Turn). Changes u → ⊥) _ _ all };
        turns = turns;
      }

  -- the steps of the calls
  abbrev pub all_steps : World → List Turn → List ℕ
  all_steps w ts = steps_in (length w.network.table.routers) (run kept w ts).turns

  -- the steps of the first call, and those of the others
  steps_split : (w : World) (t : Turn) (ts : List Turn) → (h : Split w t ts) → all_steps w (t ∷ ts) ≡ steps_of w t ++ all_steps (next kept w t.call) ts
  steps_split w t ts h =
      ap (steps_in (length w.network.table.routers)) h.turns
      ∙ ap (λ (d : Declared). steps_of w t ++ steps_in (length d.routers) (rest_of kept w t ts).turns) (sym (call_table w t h.first))

  -- what happens is the steps of the calls
  pub run_moves : (ts : List Turn) (w : World) → Plain w ts → (run kept w ts).moves ≡ stretch (all_steps w ts)
  run_moves [] w plain = ap (λ (r : Run). r.moves) (run_none kept w) ∙ ap (λ (r : Run). stretch (steps_in (length w.network.table.routers) r.turns)) (sym (run_none kept w))
  run_moves (t ∷ ts) w plain =
      let h = split w t ts plain in
      ap (λ (r : Run). r.moves) (run_made kept w t ts h.offers)
      ∙ ap (λ (ms : List Move). ms ++ (rest_of kept w t ts).moves) (call_moves w t h.first)
      ∙ ap (λ (ms : List Move). stretch (steps_of w t) ++ ms) (run_moves ts (next kept w t.call) h.others)
      ∙ sym (stretch_append (steps_of w t) (all_steps (next kept w t.call) ts))
      ∙ ap stretch (sym (steps_split w t ts h))

  -- no step alters an advertised set
  abbrev pub Still : State → List ℕ → List ℕ → Type 0
  Still s advertised ws = (front back : List ℕ) → ws ≡ front ++ back → (after kept s front).advertised ≡ advertised

  -- the turn tells of these advertised sets
  abbrev Alike : List ℕ → Turn → Type 0
  Alike advertised t = (o : Outcome) → t.outcome ≡ Some o → o.advertised ≡ advertised

  told_alike : (advertised : List ℕ) (w : World) (t : Turn) → (next kept w t.call).network.advertised ≡ advertised → Alike advertised (turned kept w t)
  told_alike advertised w t here o is =
      let same : outcome_of kept w t ≡ o = cc in
      sym (ap (λ (x : Outcome). x.advertised) same) ∙ here

  -- then no call does
  pub unaltered : (advertised : List ℕ) (ts : List Turn) (w : World) → Plain w ts → Still w.network advertised (all_steps w ts) → Unaltered advertised (run kept w ts).turns
  unaltered advertised [] w plain still = subst (Unaltered advertised) (ap (λ (r : Run). r.turns) (sym (run_none kept w))) (All-nil (Alike advertised))
  unaltered advertised (t ∷ ts) w plain still =
      let h = split w t ts plain in
      let there = next kept w t.call in
      let parts = steps_split w t ts h in
      let here : there.network.advertised ≡ advertised = ap (λ (x : State). x.advertised) (call_steps w t h.first) ∙ still (steps_of w t) (all_steps there ts) parts in
      let on : Still there.network advertised (all_steps there ts) =
      λ front back e.
      ap (λ (x : State). (after kept x front).advertised) (call_steps w t h.first)
      ∙ ap (λ (x : State). x.advertised) (sym (after_append kept w.network (steps_of w t) front))
      ∙ still (steps_of w t ++ front) back (parts ∙ ap (λ (ws : List ℕ). steps_of w t ++ ws) e ∙ sym (append_assoc (steps_of w t) front back)) in
      subst (Unaltered advertised) (sym h.turns)
      (All-cons (Alike advertised) (turned kept w t) (rest_of kept w t ts).turns (told_alike advertised w t here) (unaltered advertised ts there h.others on))

  unaltered_split : (advertised : List ℕ) (w : World) (t : Turn) (ts : List Turn) → (h : Split w t ts) → Unaltered advertised (run kept w (t ∷ ts)).turns → ((next kept w t.call).network.advertised ≡ advertised) × Unaltered advertised (rest_of kept w t ts).turns
  unaltered_split advertised w t ts h un =
      let all = subst (Unaltered advertised) h.turns un in
      (All-head (Alike advertised) _ _ all (outcome_of kept w t) refl, All-tail (Alike advertised) _ _ all)

  -- a call other than settling makes one step, or none
  abbrev Few : List ℕ → Type 0
  Few ws = (ws ≡ []) ⊎ ((set : ℕ) × (ws ≡ set ∷ []))

  few_by : (set : ℕ) (a : Answer) → Few (step_by set a)
  few_by set Done = inr (set, refl)
  few_by set _ = inl refl

  few_steps_by : (n : ℕ) (call : Call) (o : Outcome) → (call ≡ Settle) ⊎ Few (steps_by n call (Some o))
  few_steps_by n (Act (Step set)) o = inr (few_by set o.answer)
  few_steps_by n (Act (Load bytes)) o = inr (inl refl)
  few_steps_by n (Act (Inject p)) o = inr (inl refl)
  few_steps_by n (Act (Withdraw p)) o = inr (inl refl)
  few_steps_by n (Act (Restart v)) o = inr (inl refl)
  few_steps_by n Settle o = inl refl
  few_steps_by n Reopen o = inr (inl refl)
  few_steps_by n (Ask q) o = inr (inl refl)
  few_steps_by n (Report r part) o = inr (inl refl)

  -- where the front of some steps is looked for behind one or none
  still_behind : (s : State) (advertised vs ws : List ℕ) → Few vs → s.advertised ≡ advertised → Still (after kept s vs) advertised ws → Still s advertised (vs ++ ws)
  unfolding after_all
  still_behind s advertised vs ws (inl none) here still front back e =
      ap (λ (us : List ℕ). (after kept (after kept s us) front).advertised) (sym none)
      ∙ still front back (ap (λ (us : List ℕ). us ++ ws) (sym none) ∙ e)
  still_behind s advertised vs ws (inr one) here still [] back e = here
  still_behind s advertised vs ws (inr one) here still (u ∷ us) back e =
      let whole : (one.0 ∷ ws) ≡ (u ∷ (us ++ back)) = ap (λ (xs : List ℕ). xs ++ ws) (sym one.1) ∙ e in
      let same : one.0 ≡ u = cc in
      let rest : ws ≡ us ++ back = cc in
      let first : vs ≡ u ∷ [] = one.1 ∙ ap (λ (x : ℕ). x ∷ []) same in
      ap (λ (x : State). x.advertised) (after_append kept s (u ∷ []) us)
      ∙ ap (λ (xs : List ℕ). (after kept (after kept s xs) us).advertised) (sym first)
      ∙ still us back rest

  nothing_still : (w : World) (advertised : List ℕ) → w.network.advertised ≡ advertised → (front back : List ℕ) → [] ≡ front ++ back → (after kept w.network front).advertised ≡ advertised
  unfolding after_all
  nothing_still w advertised here [] back e = here
  nothing_still w advertised here (u ∷ us) back e = absurd (let clash : ⊥ = cc in clash)

  module _ (laws : Laws kept) (advertised : List ℕ) where
    -- where no call alters an advertised set, no step does, or the network was settled, as it is after settling
    still_or_settled :
        (ts : List Turn) (w : World) → Plain w ts → Sane laws w.network → AllCome kept w.network (run kept w ts).moves → w.network.advertised ≡ advertised →
        Unaltered advertised (run kept w ts).turns → Still w.network advertised (all_steps w ts) ⊎ Settled kept w.network
    still_or_settled [] w plain sane come here un = inl (λ front back e. nothing_still w advertised here front back (ap (λ (r : Run). steps_in (length w.network.table.routers) r.turns) (sym (run_none kept w)) ∙ e))
    still_or_settled (t ∷ ts) w plain sane come here un =
        let h = split w t ts plain in
        let there = next kept w t.call in
        let parts = unaltered_split advertised w t ts h un in
        let come_all : AllCome kept w.network (moves_of w.network t.call ++ (rest_of kept w t ts).moves) = subst (AllCome kept w.network) (ap (λ (r : Run). r.moves) (run_made kept w t ts h.offers)) come in
        let sane_there = all_sane laws (moves_of w.network t.call) w.network sane (come_front kept (moves_of w.network t.call) (rest_of kept w t ts).moves w.network come_all) in
        let back : Settled kept there.network → Settled kept w.network =
        settled_by kept there.network w.network (sym (call_table w t h.first)) (sym (call_injected w t h.first)) (here ∙ sym parts.0) in
        elim (few_steps_by (length w.network.table.routers) t.call (outcome_of kept w t)) [
          | inl settles ↦ inr (back (subst (λ (c : Call). Settled kept (next kept w c).network) (sym settles) (settle_settles laws w.network sane)))
          | inr few ↦
              elim (still_or_settled ts there h.others sane_there (come_back kept (moves_of w.network t.call) (rest_of kept w t ts).moves w.network come_all) parts.0 parts.1) [
                | inl still ↦
                    inl (subst (Still w.network advertised) (sym (steps_split w t ts h))
                    (still_behind w.network advertised (steps_of w t) (all_steps there ts) few here
                    (subst (λ (x : State). Still x advertised (all_steps there ts)) (call_steps w t h.first) still)))
                | inr settled ↦ inr (back settled)
              ]
        ]

-- where all calls were made, so were the first ones
pub front_made : (kept : Keeping) (front ts : List Turn) (w : World) → (run kept w (front ++ ts)).made ≡ length (front ++ ts) → (run kept w front).made ≡ length front
front_made kept [] ts w made = ap (λ (r : Run). r.made) (run_none kept w)
front_made kept (t ∷ us) ts w made =
    let h = first_made kept w t (us ++ ts) made in
    ap (λ (r : Run). r.made) (run_made kept w t us h.0) ∙ ap suc (front_made kept us ts (next kept w t.call) h.1)

module _ {kept : Keeping} (laws : Laws kept) (bytes : List ℕ) (front ts : List Turn) (all : AllMade kept bytes (front ++ ts)) where
  -- what happened before the calls, and the network then
  abbrev before : List Move
  before = (run_of kept bytes front).moves

  abbrev here : State
  here = network_of kept bytes front

  abbrev n : ℕ
  n = length here.table.routers

  made_before : AllMade kept bytes front
  made_before = front_made kept front ts (beginning bytes) all

  here_is : here ≡ reached kept before
  here_is = reaches kept bytes front

  plainly : All (λ t. Changes t → ⊥) (run kept (world_of kept bytes front) ts).turns → Plain kept (world_of kept bytes front) ts
  plainly none =
      let on = goes_on kept bytes front ts made_before in
      let count : (run kept (world_of kept bytes front) ts).made ≡ length ts = omega (arith, on.made, all, length-append front ts) in
      record { made = count; none = none }

  pub rounded :
      AllCome kept begun (run_of kept bytes (front ++ ts)).moves → Rests kept (run_of kept bytes (front ++ ts)).moves →
      All (λ t. Changes t → ⊥) (run kept (world_of kept bytes front) ts).turns →
      Rounded kept here (network_of kept bytes (front ++ ts)) (run kept (world_of kept bytes front) ts).turns
  rounded come rests none =
      let w = world_of kept bytes front in
      let plain = plainly none in
      let ws = all_steps kept w ts in
      let moves : (run_of kept bytes (front ++ ts)).moves ≡ before ++ stretch ws =
      (goes_on kept bytes front ts made_before).moves ∙ ap (λ (ms : List Move). before ++ ms) (run_moves kept ts w plain) in
      let whole : (run_of kept bytes (front ++ ts)).moves ≡ before ++ (stretch ws ++ []) = moves ∙ ap (λ (ms : List Move). before ++ ms) (sym (append-nil (stretch ws))) in
      let parted : (f b : List ℕ) → ws ≡ f ++ b → (run_of kept bytes (front ++ ts)).moves ≡ before ++ (stretch f ++ stretch b) =
      λ f b e. moves ∙ ap (λ (us : List ℕ). before ++ stretch us) e ∙ ap (λ (ms : List Move). before ++ ms) (stretch_append f b) in
      let there : network_of kept bytes (front ++ ts) ≡ reached kept (before ++ stretch ws) = reaches kept bytes (front ++ ts) ∙ ap (reached kept) moves in
      let on : (f : List ℕ) → reached kept (before ++ stretch f) ≡ after kept (reached kept before) f = λ f. all_append kept before (stretch f) begun in
      let come_parts : AllCome kept begun (before ++ (stretch ws ++ [])) = subst (AllCome kept begun) whole come in
      let sane : Sane laws here = subst (Sane laws) (sym here_is) (all_sane laws before begun (begun_sane laws) (come_front kept before (stretch ws ++ []) begun come_parts)) in
      let come_on : AllCome kept here (run kept w ts).moves =
      subst (λ (x : State). AllCome kept x (run kept w ts).moves) (sym here_is)
      (come_back kept before (run kept w ts).moves begun (subst (AllCome kept begun) (goes_on kept bytes front ts made_before).moves come)) in
      record {
        settles = λ rounds.
            subst (Settled kept) (sym there)
            (rests.settles before ws [] whole (subst (λ (x : State). Rounds (length x.table.routers) 6 ws) here_is rounds));
        quiet = λ round un.
            elim (still_or_settled kept laws here.advertised ts w plain sane come_on refl un) [
              | inl still ↦
                  subst (Settled kept) (sym here_is)
                  (rests.quiet before ws [] whole (subst (λ (x : State). Round (length x.table.routers) ws) here_is round)
                  (λ f b e.
                  ap (λ (x : State). x.advertised) (on f)
                  ∙ ap (λ (x : State). (after kept x f).advertised) (sym here_is)
                  ∙ still f b e
                  ∙ ap (λ (x : State). x.advertised) here_is))
              | inr settled ↦ settled
            ];
        stays = λ settled.
            unaltered kept here.advertised ts w plain
            (λ f b e.
            ap (λ (x : State). (after kept x f).advertised) here_is
            ∙ ap (λ (x : State). x.advertised) (sym (on f))
            ∙ (rests.stays before f (stretch b) (parted f b e) (subst (Settled kept) here_is settled)).0
            ∙ ap (λ (x : State). x.advertised) (sym here_is));
      }
