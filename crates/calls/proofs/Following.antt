-- What follows from the promise of a run, of its calls and of what happened to the network.
use Rattle.std.proofs.Common.{◌≡◌, ℕ, zero, suc, ◌<◌, Bool, true, false, not, All, List, [], ◌∷◌, ◌++◌, append_assoc, append-nil, length, replicate, Ok, sym, refl, ap, ◌∙◌, subst, inl, inr, arith}
use Rattle.std.specs.Prelude.{IsTrue}
use Rattle.std.specs.Borrow.{Bor}
use Rattle.std.proofs.lemmas.Bool.{both_ways, or_left}
use Rattle.std.proofs.lemmas.List.{length-append}
use Rattle.std.proofs.lemmas.List.Elements.{All-nil, All-head, All-tail}
use Rattle.layout.specs.Reading.{table_in}
use Rattle.layout.specs.Table.{Declared}
use Rattle.selection.specs.Laws.{Keeping}
use Rattle.sets.specs.Members.{member}
use Rattle.protocol.specs.Alters.{Becomes}
use Rattle.protocol.specs.Moves.{Move, begun, after_all, one_by_one, all_of}
use Rattle.protocol.specs.Moves.Move.{Loaded, Injected, Withdrawn, Restarted, Activated}
use Rattle.protocol.specs.Network.{State}
use Rattle.protocol.specs.Runs.{Comes, AllCome, reached}
use Rattle.protocol.specs.Settled.{stretch, named, Round, Rounds}
use Rattle.protocol.specs.Settled.Rounds.{begins, then}
use Rattle.protocol.proofs.Resting.{one_by_one_round, all_of_rounds}
use Rattle.protocol.proofs.Running.{come_back}
use Rattle.calls.specs.Follows.{OfRunning, OfSettled, Sees, Parts, StopsBehind, FollowsOfCalls, FollowsOfMoves}
use Rattle.calls.specs.History.{Accepts, Loads, Ends, Stands, LastLoaded}
use Rattle.calls.specs.History.Stands.{last, later}
use Rattle.calls.specs.History.LastLoaded.{last as last_load, later as later_load}
use Rattle.calls.specs.Promise.{run_of, world_of, network_of, behind, GoesOn, Plays}
use Rattle.calls.specs.Turns.{World, moves_of, offered, Run, next, turned, run}
use Rattle.calls.specs.declared.action.Action.TheVariants.{Load, Inject, Withdraw}
use Rattle.calls.specs.declared.call.Call.{Call}
use Rattle.calls.specs.declared.call.Call.TheVariants.{Act, Settle, Reopen, Ask, Report}
use Rattle.calls.specs.declared.turn.Turn.{Turn}
use Rattle.calls.proofs.Appending.{run_none, run_made, goes_through, stops_at}

-- what holds of every turn holds of this one
pub all_at : (P : Turn → Type 0) (before : List Turn) (t : Turn) (behind : List Turn) → All P (before ++ (t ∷ behind)) → P t
all_at P [] t behind all = All-head P t behind all
all_at P (u ∷ us) t behind all = all_at P us t behind (All-tail P u (us ++ (t ∷ behind)) all)

-- where no turn tells of a load, none is the last
no_load : {d : Declared} {ts : List Turn} → LastLoaded d ts → All (λ t. Loads t → ⊥) ts → ⊥
no_load (last_load {t} {behind} read accepted is none) all = All-head (λ (u : Turn). Loads u → ⊥) t behind all (read, accepted)
no_load (later_load {t} {behind} before) all = no_load before (All-tail (λ (u : Turn). Loads u → ⊥) t behind all)

-- where the last turn tells of one, it is that
load_is : (before : List Turn) (t : Turn) (read : Bor (List ℕ)) (d : Declared) → Accepts (Load read) t → LastLoaded d (before ++ (t ∷ [])) → table_in read.now ≡ Ok d
load_is [] t read d accepted (last_load other told is none) =
    let same : other ≡ read = (let e = told.0 in let f = accepted.0 in cc) in
    ap (λ (b : Bor (List ℕ)). table_in b.now) (sym same) ∙ is
load_is [] t read d accepted (later_load before) = elim before [ ]
load_is (u ∷ us) t read d accepted (last_load other told is none) = absurd (all_at (λ (x : Turn). Loads x → ⊥) us t [] none (read, accepted))
load_is (u ∷ us) t read d accepted (later_load before) = load_is us t read d accepted before

-- the same of injected paths
no_inject : {q : ℕ} {ts : List Turn} → Stands q ts → All (λ t. Accepts (Inject q) t → ⊥) ts → ⊥
no_inject {q} (last {t} {behind} accepted none) all = All-head (λ (u : Turn). Accepts (Inject q) u → ⊥) t behind all accepted
no_inject {q} (later {t} {behind} before) all = no_inject before (All-tail (λ (u : Turn). Accepts (Inject q) u → ⊥) t behind all)

inject_stands : (before : List Turn) (t : Turn) (q : ℕ) → Accepts (Inject q) t → Stands q (before ++ (t ∷ []))
inject_stands [] t q accepted = last accepted (All-nil _)
inject_stands (u ∷ us) t q accepted = later (inject_stands us t q accepted)

withdraw_ends : (before : List Turn) (t : Turn) (q : ℕ) → Accepts (Withdraw q) t → Stands q (before ++ (t ∷ [])) → ⊥
withdraw_ends [] t q accepted (last told none) = let e = told.0 in let f = accepted.0 in cc
withdraw_ends [] t q accepted (later before) = elim before [ ]
withdraw_ends (u ∷ us) t q accepted (last told none) = all_at (λ (x : Turn). Ends q x → ⊥) us t [] none (inl accepted)
withdraw_ends (u ∷ us) t q accepted (later before) = withdraw_ends us t q accepted before

-- what happened is seen
pub sees : (kept : Keeping) (s x : State) (m : Move) → Becomes kept s x m → Sees s x m
sees kept s x (Loaded t) h = (h.table, h.injected)
sees kept s x (Injected p) h = ((h.injected p).1 (inl refl), (h.known _ p refl).1 (inl refl))
sees kept s x (Withdrawn p) h = (λ has. ((h.injected p).0 has).0 refl, λ knows. ((h.known _ p refl).0 knows).0 refl)
sees kept s x (Restarted u) h = λ q knows. ((h.known u q refl).0 knows).1
sees kept s x (Activated w) h = λ v q names knows. (h.known v q names).0 knows

-- what came in the midst might come
comes_at : (kept : Keeping) (before : List Move) (m : Move) (behind : List Move) (s : State) → AllCome kept s (before ++ (m ∷ behind)) → Comes (after_all kept s before) m
unfolding AllCome
comes_at kept before m behind s come = (come_back kept before (m ∷ behind) s come).0

-- a step of all routers is a round, and so many of them so many rounds
pub all_named : (n w : ℕ) (ws : List ℕ) → ((v : ℕ) → v < n → IsTrue (member w v)) → Round n (w ∷ ws)
all_named n w ws all v below = or_left (member w v) (named ws v) (all v below)

pub all_rounds : (n w k : ℕ) → ((v : ℕ) → v < n → IsTrue (member w v)) → Rounds n k (replicate k w)
all_rounds n w zero all = begins []
all_rounds n w (suc k) all = then (w ∷ []) (replicate k w) k (all_named n w [] all) (all_rounds n w k all)

-- a running network does not offer what a settled one alone does, nor the other way round
none_running : (settled : Bool) (call : Call) → settled ≡ false → OfSettled call → offered settled call ≡ false
none_running settled (Act a) flag h = absurd h
none_running settled Settle flag h = absurd h
none_running settled Reopen flag h = flag
none_running settled (Ask q) flag h = absurd h
none_running settled (Report r part) flag h = flag

none_settled : (settled : Bool) (call : Call) → settled ≡ true → OfRunning call → offered settled call ≡ false
none_settled settled (Act a) flag h = ap not flag
none_settled settled Settle flag h = ap not flag
none_settled settled Reopen flag h = absurd h
none_settled settled (Ask q) flag h = absurd h
none_settled settled (Report r part) flag h = absurd h

module _ {kept : Keeping} {bytes : List ℕ} {turns : List Turn} (plays : Plays kept bytes turns) where
  on : {front back : List Turn} → Parts kept bytes turns front back → GoesOn kept bytes front back
  on {front} {back} p = plays.goes_on front back p.whole p.made

  asked : (w : World) (t : Turn) → offered w.settled t.call ≡ true → run kept w (t ∷ []) ≡ goes_through kept w t (stops_at kept (next kept w t.call) [])
  asked w t offers = run_made kept w t [] offers ∙ ap (goes_through kept w t) (run_none kept (next kept w t.call))

  of_whole : {X : Type 0} (f : Run → X) {ts : List Turn} → turns ≡ ts → f (run_of kept bytes turns) ≡ f (run_of kept bytes ts)
  of_whole f whole = ap (λ (us : List Turn). f (run_of kept bytes us)) whole

  no_more : {front back : List Turn} {t : Turn} → Parts kept bytes turns front (t ∷ back) → offered (world_of kept bytes front).settled t.call ≡ false → StopsBehind kept bytes turns front (t ∷ back)
  no_more {front} {back} {t} p none =
      let stops = plays.stops front back t p.whole p.made none in (
        of_whole (λ (x : Run). x.turns) p.whole ∙ stops.turns,
        of_whole (λ (x : Run). x.moves) p.whole ∙ stops.moves,
        of_whole (λ (x : Run). x.made) p.whole ∙ stops.made,
        of_whole (λ (x : Run). x.world) p.whole ∙ stops.world,
      )

  pub follows_of_calls : FollowsOfCalls kept bytes turns
  unfolding after_all
  follows_of_calls =
      record {
        first_told = λ front back p. of_whole (λ (r : Run). r.turns) p.whole ∙ (on p).turns;
        first_happened = λ front back p. of_whole (λ (r : Run). r.moves) p.whole ∙ (on p).moves;
        first_made = λ front back p. of_whole (λ (r : Run). r.made) p.whole ∙ (on p).made;
        first_left = λ front back p. of_whole (λ (r : Run). r.world) p.whole ∙ (on p).world;
        asked_last = λ front t q p asks.
            let w = world_of kept bytes front in
            let one = asked w t (ap (offered w.settled) asks) in
            let nothing : moves_of w.network t.call ≡ [] = ap (moves_of w.network) asks in
            let count : (run kept w (t ∷ [])).made ≡ 1 = ap (λ (r : Run). r.made) one in (
              (
                turned kept w t,
                of_whole (λ (r : Run). r.turns) p.whole ∙ (on p).turns ∙ ap (λ (r : Run). (run_of kept bytes front).turns ++ r.turns) one,
              ),
              of_whole (λ (r : Run). r.moves) p.whole
                  ∙ (on p).moves
                  ∙ ap (λ (r : Run). (run_of kept bytes front).moves ++ r.moves) one
                  ∙ ap (λ (ms : List Move). (run_of kept bytes front).moves ++ (ms ++ [])) nothing
                  ∙ append-nil (run_of kept bytes front).moves,
              omega (arith, of_whole (λ (r : Run). r.made) p.whole, (on p).made, count, ap (λ (ts : List Turn). length ts) p.whole, length-append front (t ∷ [])),
              of_whole (λ (r : Run). r.world) p.whole ∙ (on p).world ∙ ap (λ (r : Run). r.world) one ∙ ap (next kept w) asks,
            );
        stops_running = λ front back t p flag only. no_more p (none_running (world_of kept bytes front).settled t.call flag only);
        stops_settled = λ front back t p flag only. no_more p (none_settled (world_of kept bytes front).settled t.call flag only);
        none_loaded = λ front back p none.
            elim (plays.declares front back p.whole p.made) [
              | inl begins_so ↦ begins_so.1
              | inr loaded ↦ absurd (no_load loaded none)
            ];
        just_loaded = λ front back before t read p is accepted.
            elim (plays.declares front back p.whole p.made) [
              | inl begins_so ↦ absurd (all_at (λ (u : Turn). Loads u → ⊥) before t [] (subst (All (λ (u : Turn). Loads u → ⊥)) is begins_so.0) (read, accepted))
              | inr loaded ↦ load_is before t read (network_of kept bytes front).table accepted (subst (LastLoaded (network_of kept bytes front).table) is loaded)
            ];
        none_injected = λ front back q p none has. no_inject ((plays.injects front back q p.whole p.made).0 has) none;
        just_injected = λ front back before t q p is accepted.
            (plays.injects front back q p.whole p.made).1 (subst (Stands q) (sym is) (inject_stands before t q accepted));
        just_withdrawn = λ front back before t q p is accepted has.
            withdraw_ends before t q accepted (subst (Stands q) is ((plays.injects front back q p.whole p.made).0 has));
      }

  -- where a stretch of one step is parted
  parted : (advertised : List ℕ) (before : List Move) (w : ℕ) (front back : List ℕ) → (w ∷ []) ≡ front ++ back →
      (reached kept before).advertised ≡ advertised → (reached kept (before ++ (Activated w ∷ []))).advertised ≡ advertised →
      (reached kept (before ++ stretch front)).advertised ≡ advertised
  parted advertised before w [] back e here there = ap (λ (ms : List Move). (reached kept ms).advertised) (append-nil before) ∙ here
  parted advertised before w (u ∷ []) back e here there =
      let same : w ≡ u = cc in
      ap (λ (x : ℕ). (reached kept (before ++ (Activated x ∷ []))).advertised) (sym same) ∙ there
  parted advertised before w (u ∷ (x ∷ us)) back e here there = absurd (let clash : ⊥ = cc in clash)

  pub follows_of_moves : FollowsOfMoves kept bytes turns
  unfolding after_all
  follows_of_moves =
      record {
        may_come = λ before later m whole. comes_at kept before m later begun (subst (AllCome kept begun) whole plays.comes);
        well_formed = λ before later d whole. comes_at kept before (Loaded d) later begun (subst (AllCome kept begun) whole plays.comes);
        injected_before = λ before later p whole. comes_at kept before (Withdrawn p) later begun (subst (AllCome kept begun) whole plays.comes);
        declared_restart = λ before later v whole. comes_at kept before (Restarted v) later begun (subst (AllCome kept begun) whole plays.comes);
        injected_anew = λ before later p whole.
            let came = comes_at kept before (Injected p) later begun (subst (AllCome kept begun) whole plays.comes) in
            (came.0, both_ways _ came.1);
        declared_step = λ before later w v whole names. comes_at kept before (Activated w) later begun (subst (AllCome kept begun) whole plays.comes) v names;
        seen = λ before later m whole. sees kept _ _ m (plays.becomes before m later whole).becomes;
        no_other = λ before later m x y whole all_of_x all_of_y to_x to_y.
            let only = (plays.becomes before m later whole).only in
            only x all_of_x.0 all_of_x.1 to_x ∙ sym (only y all_of_y.0 all_of_y.1 to_y);
        as_begun = λ front back whole none. plays.reaches front back whole ∙ ap (reached kept) none;
        last_seen = λ front back before m p is.
            let later = (behind kept bytes front back).moves in
            let whole : (run_of kept bytes turns).moves ≡ before ++ (m ∷ later) =
            of_whole (λ (r : Run). r.moves) p.whole ∙ (on p).moves ∙ ap (λ (ms : List Move). ms ++ later) is ∙ append_assoc before (m ∷ []) later in
            subst (λ (x : State). Sees (reached kept before) x m) (sym (plays.reaches front back p.whole ∙ ap (reached kept) is))
            (sees kept _ _ m (plays.becomes before m later whole).becomes);
        six_rounds = λ before later whole. plays.rests.settles before (all_of (length (reached kept before).table.routers) 6) later whole (all_of_rounds (length (reached kept before).table.routers) 6);
        six_settle = λ before later w whole all. plays.rests.settles before (replicate 6 w) later whole (all_rounds _ w 6 all);
        quiet_round = λ before later whole same.
            plays.rests.quiet before (one_by_one (length (reached kept before).table.routers)) later whole (one_by_one_round (length (reached kept before).table.routers)) same;
        quiet_step = λ before later w whole all same.
            plays.rests.quiet before (w ∷ []) later whole (all_named _ w [] all)
            (λ front back e. parted (reached kept before).advertised before w front back e refl same);
        settled_stays = λ before later w v whole settled.
            let stays = plays.rests.stays before (w ∷ []) later whole settled in
            (stays.0, stays.1 v);
        all_leave = λ before later q v whole settled has below.
            let way = plays.rests.leaves before later whole settled q has v below in
            (way.0, way.1, way.2, way.3.goes, way.3.once, way.3.cheap);
      }
