-- What follows from the promise of a run, of what a turn tells and of networks at rest.
use Rattle.std.proofs.Common.{◌≡◌, ℕ, ◌≤◌, ◌⊎◌, true, All, List, Result, [], ◌∷◌, ◌++◌, length, take, drop, get_or, Some, None, Ok, Err, Option, sym, refl, ap, ◌∙◌, subst, inl, inr, arith}
use Rattle.std.proofs.lemmas.Bool.{both_ways}
use Rattle.std.proofs.lemmas.List.Concat.{flat_map-append}
use Rattle.std.specs.List.{flat_map}
use Rattle.std.proofs.lemmas.List.{append-nil, get_or_at, length-take-le, length-take, length-drop}
use Rattle.std.proofs.lemmas.List.Elements.{All-head, All-tail, All-weaker}
use Rattle.costs.specs.Cost.{plain}
use Rattle.faults.specs.declared.call.CallFault.{CallFault}
use Rattle.faults.specs.declared.call.CallFault.TheVariants.{Load as load_fault, NoRouterNamed}
use Rattle.faults.specs.declared.load.LoadFault.{LoadFault}
use Rattle.forwarding.specs.declared.packet.Way.{Way}
use Rattle.layout.specs.Encoding.{encoded}
use Rattle.layout.specs.Reading.{table_in}
use Rattle.layout.specs.Table.{Declared}
use Rattle.layout.specs.WellFormed.{WellFormed}
use Rattle.packets.specs.BestPlain.{BestIs}
use Rattle.packets.specs.WaysPlain.{Leaves}
use Rattle.selection.specs.Laws.{Keeping}
use Rattle.sets.specs.Members.{Empty}
use Rattle.sets.proofs.Digits.{member_none}
use Rattle.protocol.specs.Network.{State, set_of}
use Rattle.protocol.specs.Packets.{best_of}
use Rattle.protocol.specs.Alters.{Becomes}
use Rattle.protocol.specs.Moves.{Move, all_of}
use Rattle.protocol.specs.Settled.{Round, Rounds}
use Rattle.protocol.specs.Settled.Rounds.{begins, then}
use Rattle.calls.specs.Calls.{Coming, coming, loading_by, answered}
use Rattle.calls.specs.Follows.{LeavesNetwork, AnswersDone, WritesNothing, ChangesNone, NoChange, Makes, Place, turn_then, world_then, network_then, Midst, FollowsOfTurns, FollowsOfRest, Follows}
use Rattle.calls.specs.History.{Told, Accepts, Changes, IsMove}
use Rattle.calls.specs.Promise.{world_of, network_of, behind, Refuses, NotRefused, Does, Shown, Rounded, Plays}
use Rattle.calls.specs.Rounds.{step_by, steps_by, steps_in}
use Rattle.calls.specs.Turns.{World, part_of, with_part, offered, bytes_after, answer_to}
use Rattle.calls.specs.declared.action.Action.{Action}
use Rattle.calls.specs.declared.action.Action.TheVariants.{Load, Inject, Withdraw, Restart, Step}
use Rattle.calls.specs.declared.answer.Answer.{Answer}
use Rattle.calls.specs.declared.answer.Answer.TheVariants.{Done, Best as best_answer, Metric as metric_answer, Paths, Settled as settled_answer, Way as way_answer, Written, Refused}
use Rattle.calls.specs.declared.call.Call.{Call}
use Rattle.calls.specs.declared.call.Call.TheVariants.{Act, Settle, Reopen, Ask, Report}
use Rattle.calls.specs.declared.question.Question.TheVariants.{Best, Metric, Known, Advertised, Injected, Settled}
use Rattle.calls.specs.declared.report.Part.{Part}
use Rattle.calls.specs.declared.report.Report.TheVariants.{Trace, List as list_report}
use Rattle.calls.specs.declared.turn.Outcome.{Outcome}
use Rattle.calls.specs.declared.turn.Turn.{Turn}
use Rattle.calls.proofs.Following.{all_at, all_rounds, follows_of_calls, follows_of_moves}
use Rattle.calls.proofs.Tracing.{not_refused}

-- a turn tells one answer
told_one : (a b : Answer) (t : Turn) → Told a t → Told b t → a ≡ b
told_one a b t one other =
    let same : one.0 ≡ other.0 = (let e = one.1 in let f = other.1 in cc) in
    sym one.2 ∙ ap (λ (o : Outcome). o.answer) same ∙ other.2

is_fault : (a : Answer) → ((fault : CallFault) × (a ≡ Refused fault)) ⊎ ((fault : CallFault) → a ≡ Refused fault → ⊥)
is_fault (Refused fault) = inl (fault, refl)
is_fault Done = inr (λ fault e. cc)
is_fault (best_answer path) = inr (λ fault e. cc)
is_fault (metric_answer metric) = inr (λ fault e. cc)
is_fault (Paths set) = inr (λ fault e. cc)
is_fault (settled_answer is) = inr (λ fault e. cc)
is_fault (way_answer way) = inr (λ fault e. cc)
is_fault (Written count) = inr (λ fault e. cc)

writes_nothing : (w : World) (call : Call) → WritesNothing call → bytes_after w call ≡ w.bytes
writes_nothing w (Act a) h = refl
writes_nothing w Settle h = refl
writes_nothing w Reopen h = refl
writes_nothing w (Ask q) h = refl
writes_nothing w (Report r part) h = absurd h

-- what is not refused is done
coming_done : (c : Coming) → ((fault : CallFault) → answered (λ m. Done) c ≡ Refused fault → ⊥) → answered (λ m. Done) c ≡ Done
coming_done (Ok m) none = refl
coming_done (Err fault) none = absurd (none fault refl)

acts_done : (kept : Keeping) (w : World) (call : Call) → AnswersDone call → ((fault : CallFault) → answer_to kept w call ≡ Refused fault → ⊥) → answer_to kept w call ≡ Done
acts_done kept w (Act a) h none = coming_done (coming w.network a) none
acts_done kept w Settle h none = refl
acts_done kept w Reopen h none = refl
acts_done kept w (Ask q) h none = absurd h
acts_done kept w (Report r part) h none = absurd h

leaves_it : (kept : Keeping) (s x : State) (call : Call) → LeavesNetwork call → Does kept s call x → x ≡ s
leaves_it kept s x (Act a) h does = absurd h
leaves_it kept s x Settle h does = absurd h
leaves_it kept s x Reopen h does = does
leaves_it kept s x (Ask q) h does = does
leaves_it kept s x (Report r part) h does = does

-- what is refused for naming no router
names_none : (w : World) (call : Call) → Refuses w call NoRouterNamed → (set : ℕ) × (call ≡ Act (Step set)) × Empty set
names_none w (Act (Load bytes)) h = absurd (let e = h.2 in let clash : ⊥ = cc in clash)
names_none w (Act (Inject p)) (inl h) = absurd (let e = h.1 in let clash : ⊥ = cc in clash)
names_none w (Act (Inject p)) (inr h) = absurd (let e = h.2 in let clash : ⊥ = cc in clash)
names_none w (Act (Withdraw p)) (inl h) = absurd (let e = h.1 in let clash : ⊥ = cc in clash)
names_none w (Act (Withdraw p)) (inr h) = absurd (let e = h.2 in let clash : ⊥ = cc in clash)
names_none w (Act (Restart v)) h = absurd (let e = h.1 in let clash : ⊥ = cc in clash)
names_none w (Act (Step set)) (inl h) = absurd (let e = h.2 in let clash : ⊥ = cc in clash)
names_none w (Act (Step set)) (inr h) = (set, refl, h.0)
names_none w Settle h = absurd h
names_none w Reopen h = absurd h
names_none w (Ask (Best v)) h = absurd (let e = h.1 in let clash : ⊥ = cc in clash)
names_none w (Ask (Metric v)) h = absurd (let e = h.1 in let clash : ⊥ = cc in clash)
names_none w (Ask (Known v)) h = absurd (let e = h.1 in let clash : ⊥ = cc in clash)
names_none w (Ask (Advertised v)) h = absurd (let e = h.1 in let clash : ⊥ = cc in clash)
names_none w (Ask Injected) h = absurd h
names_none w (Ask Settled) h = absurd h
names_none w (Report (Trace v) part) (inl h) = absurd (let e = h.1 in let clash : ⊥ = cc in clash)
names_none w (Report (Trace v) part) (inr h) = absurd (let e = h.2 in let clash : ⊥ = cc in clash)
names_none w (Report list_report part) h = absurd (let e = h.1 in let clash : ⊥ = cc in clash)

-- the steps of a turn that tells of an accepted one
step_is : (n w : ℕ) (t : Turn) → Accepts (Step w) t → steps_by n t.call t.outcome ≡ w ∷ []
step_is n w t h =
    ap (λ (c : Call). steps_by n c t.outcome) h.0
    ∙ ap (λ (o : Option Outcome). steps_by n (Act (Step w)) o) h.1.1
    ∙ ap (step_by w) h.1.2

-- what changes nothing, or is refused, tells of no change
no_change : (t : Turn) → NoChange t → Changes t → ⊥
no_change t (inl none) (inl loads) = subst ChangesNone loads.1.0 none
no_change t (inl none) (inr (inl injects)) = subst ChangesNone injects.1.0 none
no_change t (inl none) (inr (inr (inl withdraws))) = subst ChangesNone withdraws.1.0 none
no_change t (inl none) (inr (inr (inr restarts))) = subst ChangesNone restarts.1.0 none
no_change t (inr refused) (inl loads) = let e = told_one _ _ t loads.1.1 refused.1 in let clash : ⊥ = cc in clash
no_change t (inr refused) (inr (inl injects)) = let e = told_one _ _ t injects.1.1 refused.1 in let clash : ⊥ = cc in clash
no_change t (inr refused) (inr (inr (inl withdraws))) = let e = told_one _ _ t withdraws.1.1 refused.1 in let clash : ⊥ = cc in clash
no_change t (inr refused) (inr (inr (inr restarts))) = let e = told_one _ _ t restarts.1.1 refused.1 in let clash : ⊥ = cc in clash

-- an accepted action makes what its move makes
makes : (kept : Keeping) (s x : State) (a : Action) (m : Move) → IsMove a m → Becomes kept s x m → Makes kept s x a
makes kept s x (Load read) m is becomes =
    (is.0, is.1, subst (Becomes kept s x) is.2 becomes)
makes kept s x (Inject p) m is becomes = subst (Becomes kept s x) is becomes
makes kept s x (Withdraw p) m is becomes = subst (Becomes kept s x) is becomes
makes kept s x (Restart v) m is becomes = subst (Becomes kept s x) is becomes
makes kept s x (Step w) m is becomes = subst (Becomes kept s x) is becomes

-- a settle makes the steps of seven rounds, and what only looks makes none
settle_is : (n : ℕ) (t : Turn) (o : Outcome) → t.call ≡ Settle → t.outcome ≡ Some o → steps_by n t.call t.outcome ≡ all_of n 7
settle_is n t o asks made = ap (λ (c : Call). steps_by n c t.outcome) asks ∙ ap (λ (x : Option Outcome). steps_by n Settle x) made

looks_none : (n : ℕ) (call : Call) (o : Option Outcome) → LeavesNetwork call → steps_by n call o ≡ []
looks_none n (Act a) o h = absurd h
looks_none n Settle o h = absurd h
looks_none n Reopen o h = refl
looks_none n (Ask q) o h = refl
looks_none n (Report r part) o h = refl

-- nor does a refused action
refused_none : (n : ℕ) (a : Action) (o : Outcome) (fault : CallFault) → o.answer ≡ Refused fault → steps_by n (Act a) (Some o) ≡ []
refused_none n (Load read) o fault told = refl
refused_none n (Inject p) o fault told = refl
refused_none n (Withdraw p) o fault told = refl
refused_none n (Restart v) o fault told = refl
refused_none n (Step w) o fault told = ap (step_by w) told

refused_is : (n : ℕ) (t : Turn) (a : Action) (fault : CallFault) → t.call ≡ Act a → Told (Refused fault) t → steps_by n t.call t.outcome ≡ []
refused_is n t a fault asks told =
    ap (λ (c : Call). steps_by n c t.outcome) asks ∙ ap (λ (x : Option Outcome). steps_by n (Act a) x) told.1 ∙ refused_none n a told.0 fault told.2

-- the steps of one turn
steps_alone : (n : ℕ) (t : Turn) {ws : List ℕ} → steps_by n t.call t.outcome ≡ ws → steps_in n (t ∷ []) ≡ ws
steps_alone n t {ws} is = ap (λ (us : List ℕ). us ++ []) is ∙ append-nil ws

-- rounds, one behind the other
rounds_of : (n : ℕ) (rounds : List (List ℕ)) → All (Round n) rounds → Rounds n (length rounds) (flat_map (λ ws. ws) rounds)
rounds_of n [] each = begins []
rounds_of n (ws ∷ more) each =
    then ws (flat_map (λ us. us) more) (length more) (All-head (Round n) ws more each) (rounds_of n more (All-tail (Round n) ws more each))

-- the byte where a part begins that has some bytes
first_byte : (bytes : List ℕ) (part : Part) (v d : ℕ) (new : List ℕ) → 32 ≤ length (part_of bytes part) → get_or (with_part bytes part (v ∷ new)) part.start d ≡ v
first_byte bytes part v d new room =
    let fits : part.start ≤ length bytes = omega (arith, room, length-take part.len (drop part.start bytes), length-drop part.start bytes) in
    get_or_at (take part.start bytes) v (new ++ drop part.len (drop part.start bytes)) d part.start (length-take-le part.start bytes fits)

module _ {kept : Keeping} {bytes : List ℕ} {turns : List Turn} (plays : Plays kept bytes turns) where
  -- what the turn of a call shows that was made
  abbrev ShownAt : List Turn → Turn → Type 0
  ShownAt front t = Shown kept (world_of kept bytes front) (world_then kept bytes turns front t) t (turn_then kept bytes turns front t)

  shown_at : (front : List Turn) (t : Turn) → Place kept bytes turns front t → ShownAt front t
  shown_at front t p = plays.shown front p.back t p.whole p.made p.offers

  -- what is told is the answer
  answer_is : (front : List Turn) (t : Turn) (shown : ShownAt front t) (a : Answer) → Told a (turn_then kept bytes turns front t) → shown.outcome.answer ≡ a
  answer_is front t shown a told = told_one shown.outcome.answer a (turn_then kept bytes turns front t) (shown.outcome, shown.made, refl) told

  answers : (front : List Turn) (t : Turn) → ShownAt front t → (call : Call) → t.call ≡ call → Told (answer_to kept (world_of kept bytes front) call) (turn_then kept bytes turns front t)
  answers front t shown call asks = (shown.outcome, shown.made, shown.answered ∙ ap (answer_to kept (world_of kept bytes front)) asks)

  pub follows_of_turns : FollowsOfTurns kept bytes turns
  follows_of_turns =
      record {
        same_call = λ front t p. (shown_at front t p).call;
        sets_told = λ front t p.
            let shown = shown_at front t p in
            (shown.outcome, shown.made, λ v. ap (λ (sets : List ℕ). set_of sets v) shown.advertised, shown.settled);
        asked = λ front t q p asks. answers front t (shown_at front t p) (Ask q) asks;
        settled_told = λ front t p asks.
            let tells = plays.told front (t ∷ p.back) p.whole in
            let told_so = answers front t (shown_at front t p) (Ask Settled) asks in (
              λ told.
                  let same = told_one _ (settled_answer true) (turn_then kept bytes turns front t) told_so told in
                  tells.0 (cc),
              λ settled. (told_so.0, told_so.1, told_so.2 ∙ ap (λ b. settled_answer b) (tells.1 settled)),
            );
        tested = λ front back whole. plays.told front back whole;
        reported = λ front t r part p asks.
            let shown = shown_at front t p in
            (answers front t shown (Report r part) asks, shown.bytes ∙ ap (bytes_after (world_of kept bytes front)) asks);
        bytes_stay = λ front t p writes. (shown_at front t p).bytes ∙ writes_nothing (world_of kept bytes front) t.call writes;
        done = λ front t p acts taken_so.
            let shown = shown_at front t p in
            let w = world_of kept bytes front in (
              shown.outcome,
              shown.made,
              shown.answered ∙ acts_done kept w t.call acts (λ fault e. taken_so fault ((shown.refuses fault).0 (shown.answered ∙ e))),
            );
        refused = λ front t fault p.
            let shown = shown_at front t p in (
              λ told. (shown.refuses fault).0 (answer_is front t shown (Refused fault) told),
              λ refuses. (shown.outcome, shown.made, (shown.refuses fault).1 refuses),
            );
        none_named = λ front t p asks.
            let shown = shown_at front t p in (
              shown.outcome,
              shown.made,
              (shown.refuses NoRouterNamed).1 (subst (λ (c : Call). Refuses (world_of kept bytes front) c NoRouterNamed) (sym asks) (inr (member_none, refl))),
            );
        named_none = λ front t p told.
            let shown = shown_at front t p in
            names_none (world_of kept bytes front) t.call ((shown.refuses NoRouterNamed).0 (answer_is front t shown (Refused NoRouterNamed) told));
        refused_nothing = λ front t fault p told.
            let shown = shown_at front t p in
            shown.refused fault (answer_is front t shown (Refused fault) told);
        looked = λ front t p looks.
            let shown = shown_at front t p in
            elim (is_fault shown.outcome.answer) [
              | inl refused ↦ (shown.refused refused.0 refused.1).0
              | inr none ↦ leaves_it kept _ _ t.call looks (shown.does none)
            ];
        acted = λ front t a p accepted.
            let shown = shown_at front t p in
            let asks : t.call ≡ Act a = sym shown.call ∙ accepted.0 in
            let is_done = answer_is front t shown Done accepted.1 in
            let did = subst (λ (c : Call). Does kept (network_of kept bytes front) c (network_then kept bytes turns front t)) asks (shown.does (λ fault e. let clash : ⊥ = cc in clash)) in
            makes kept (network_of kept bytes front) (network_then kept bytes turns front t) a did.0 did.1 did.2;
        loaded = λ front t read p accepted.
            let shown = shown_at front t p in
            let asks : t.call ≡ Act (Load read) = sym shown.call ∙ accepted.0 in
            let is_done = answer_is front t shown Done accepted.1 in
            let did = subst (λ (c : Call). Does kept (network_of kept bytes front) c (network_then kept bytes turns front t)) asks (shown.does (λ fault e. let clash : ⊥ = cc in clash)) in
            let becomes = subst (Becomes kept (network_of kept bytes front) (network_then kept bytes turns front t)) did.1.2 did.2 in
            let accepts = (plays.reads front p.back t read p.whole p.made p.offers asks).accepted did.1.0 did.1.1 in
            subst (λ (d : Declared). WellFormed d × (read.now ≡ encoded d)) (sym becomes.table) accepts;
        loads = λ front t read d p asks well is.
            let shown = shown_at front t p in
            let w = world_of kept bytes front in
            let in_it = (plays.reads front p.back t read p.whole p.made p.offers asks).accepts d well is in
            (shown.outcome, shown.made, shown.answered ∙ ap (answer_to kept w) asks ∙ ap (λ (r : Result Declared LoadFault). answered (λ m. Done) (loading_by r)) in_it);
        load_refused = λ front t read why p asks told.
            let shown = shown_at front t p in
            let because = subst (λ (c : Call). Refuses (world_of kept bytes front) c (load_fault why)) asks ((shown.refuses (load_fault why)).0 (answer_is front t shown (Refused (load_fault why)) told)) in
            let same : because.0 ≡ why = (let e = because.2 in cc) in
            let broken : table_in read.now ≡ Err why = because.1 ∙ ap (λ (f : LoadFault). Err f) same in
            let reads = plays.reads front p.back t read p.whole p.made p.offers asks in
            (reads.refused why broken, reads.near why broken);
        settles = λ front t p asks.
            let shown = shown_at front t p in
            let did = subst (λ (c : Call). Does kept (network_of kept bytes front) c (network_then kept bytes turns front t)) asks
            (shown.does (λ fault e. subst (λ (c : Call). Refuses (world_of kept bytes front) c fault) asks ((shown.refuses fault).0 e))) in
            (did.2, did.0, did.1);
        settled_sets = λ front back v whole flag. plays.settled front back whole flag v;
      }

  rounded : (front ts : List Turn) → Midst kept bytes turns front ts → Rounded kept (network_of kept bytes front) (network_of kept bytes (front ++ ts)) (behind kept bytes front ts).turns
  rounded front ts p = plays.rounds front ts p.back p.whole p.made (All-weaker NoChange (λ (t : Turn). Changes t → ⊥) no_change (behind kept bytes front ts).turns p.none)

  -- a trace that tells of a way, or of none, was not refused
  taken : (front : List Turn) (t : Turn) (shown : ShownAt front t) → ((fault : CallFault) → Told (Refused fault) (turn_then kept bytes turns front t) → ⊥) → NotRefused kept bytes front t
  taken front t shown none fault refuses = none fault (shown.outcome, shown.made, (shown.refuses fault).1 refuses)

  flag_is : (front : List Turn) (t : Turn) (v : ℕ) (part : Part) → Place kept bytes turns front t → t.call ≡ Report (Trace v) part → (world_of kept bytes front).settled ≡ true
  flag_is front t v part p asks = sym (ap (offered (world_of kept bytes front).settled) asks) ∙ p.offers

  pub follows_of_rest : FollowsOfRest kept bytes turns
  follows_of_rest =
      record {
        counted_apart = λ n ts us. flat_map-append (λ (t : Turn). steps_by n t.call t.outcome) ts us;
        step_counted = λ n w t accepted. steps_alone n t (step_is n w t accepted);
        settle_counted = λ n t o asks made. steps_alone n t (settle_is n t o asks made);
        refused_uncounted = λ n t a fault asks told. steps_alone n t (refused_is n t a fault asks told);
        looks_uncounted = λ n t looks. steps_alone n t (looks_none n t.call t.outcome looks);
        six_called = λ front ts rounds p steps six each.
            let n = length (network_of kept bytes front).table.routers in
            (rounded front ts p).settles (subst (Rounds n 6) (sym steps) (subst (λ (k : ℕ). Rounds n k (flat_map (λ ws. ws) rounds)) six (rounds_of n rounds each)));
        six_steps = λ front ts w p steps all.
            let n = length (network_of kept bytes front).table.routers in
            (rounded front ts p).settles (subst (Rounds n 6) (sym steps) (all_rounds n w 6 all));
        quiet_called = λ front ts ws p steps round same.
            let n = length (network_of kept bytes front).table.routers in
            (rounded front ts p).quiet (subst (Round n) (sym steps) round) same;
        none_altered = λ front ts before later t o p settled is made.
            let alike = λ (u : Turn). (x : Outcome) → u.outcome ≡ Some x → x.advertised ≡ (network_of kept bytes front).advertised in
            all_at alike before t later (subst (All alike) is ((rounded front ts p).stays settled)) o made;
        best_told = λ front t v best p asks below.
            let s = network_of kept bytes front in
            let picked = plays.picked front p.back t v p.whole p.made asks below in (
              λ told.
                  let same = told_one _ (best_answer (Some best)) (turn_then kept bytes turns front t) picked.told told in
                  let is : picked.path ≡ Some best = cc in
                  subst (BestIs plain s.table (set_of s.advertised v) v) is picked.is,
              λ is. subst (λ (o : Option ℕ). Told (best_answer o) (turn_then kept bytes turns front t)) (picked.only best is) picked.told,
            );
        no_best = λ front t v q p asks below told.
            let s = network_of kept bytes front in
            let picked = plays.picked front p.back t v p.whole p.made asks below in
            let same = told_one _ (best_answer None) (turn_then kept bytes turns front t) picked.told told in
            let is : picked.path ≡ None = cc in
            subst (BestIs plain s.table (set_of s.advertised v) v) is picked.is q;
        best_none = λ front t v p asks below flag empty. (plays.picked_none front p.back t v p.whole p.made asks below flag).1 empty;
        best_some = λ front t v q p asks below flag has told.
            both_ways _ ((plays.picked_none front p.back t v p.whole p.made asks below flag).0 told q) has;
        way_written = λ front t v q d part way p asks has told.
            let w = world_of kept bytes front in
            let there = turn_then kept bytes turns front t in
            let shown = shown_at front t p in
            let not = taken front t shown (λ fault refused. let e = told_one _ _ there told refused in let clash : ⊥ = cc in clash) in
            let traced = plays.traced front p.back t v q part p.whole p.made asks not (flag_is front t v part p asks) has in
            let same = told_one _ (way_answer (Some way)) there traced.told told in
            let traces = traced.traces in
            let told_there : traced.way ≡ Some way = cc in
            let is : record { count = length (v ∷ traces.met); path = traces.path } ≡ way = (let e = traces.told in cc) in
            let count : length (v ∷ traces.met) ≡ way.count = ap (λ (x : Way). x.count) is in
            let before = part_of w.bytes part in
            let bytes_are : (world_then kept bytes turns front t).bytes ≡ with_part w.bytes part ((v ∷ traces.met) ++ drop (length (v ∷ traces.met)) before) =
            traced.written ∙ ap (with_part w.bytes part) traces.written in
            let fits = not_refused w.network v (length (part_of w.bytes part)) (λ fault refused. not fault (subst (λ (c : Call). Refuses w c fault) (sym asks) refused)) in (
              traces.met,
              count,
              traces.leaves.once,
              subst (λ (x : Way). Leaves plain w.network.table (best_of w.network) v traces.met x.path) is traces.leaves,
              traces.leaves.cheap,
              bytes_are ∙ ap (λ (n : ℕ). with_part w.bytes part ((v ∷ traces.met) ++ drop n before)) count,
              ap (λ (b : List ℕ). get_or b part.start d) bytes_are ∙ first_byte w.bytes part v d (traces.met ++ drop (length (v ∷ traces.met)) before) fits.1,
            );
        way_none = λ front t v part p asks empty none.
            (plays.traced_none front p.back t v part p.whole p.made asks (taken front t (shown_at front t p) none) (flag_is front t v part p asks)).1 empty;
        way_some = λ front t v q part p asks has told.
            let there = turn_then kept bytes turns front t in
            let not = taken front t (shown_at front t p) (λ fault refused. let e = told_one _ _ there told refused in let clash : ⊥ = cc in clash) in
            both_ways _ ((plays.traced_none front p.back t v part p.whole p.made asks not (flag_is front t v part p asks)).0 told q) has;
      }

  pub follows : Follows kept bytes turns
  follows = record {
    of_calls = follows_of_calls plays;
    of_moves = follows_of_moves plays;
    of_turns = follows_of_turns;
    of_rest = follows_of_rest;
  }
