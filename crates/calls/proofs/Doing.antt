-- What a call does, and that a refused one does nothing.
use Rattle.std.proofs.Common.{◌≡◌, ℕ, Bool, true, false, cond, eqb, List, [], ◌++◌, length, take, drop, Some, None, Ok, Err, Option, Result, refl, ap, ◌∙◌, inl, inr}
use Rattle.std.proofs.lemmas.Bool.{cases_Bool, cond-true, cond-false, and_parts}
use Rattle.std.proofs.lemmas.List.{take-append-drop}
use Rattle.std.specs.Prelude.{nat_lt, nat_le, ◌&&◌}
use Rattle.faults.specs.declared.call.CallFault.{CallFault}
use Rattle.faults.specs.declared.call.CallFault.TheVariants.{UndeclaredPath, UndeclaredRouter, NoRouterNamed, AlreadyInjected, NotInjected}
use Rattle.faults.specs.declared.load.LoadFault.{LoadFault}
use Rattle.forwarding.specs.Answers.{told, over_written}
use Rattle.layout.specs.Reading.{table_in}
use Rattle.layout.specs.Table.{Declared}
use Rattle.listing.specs.Listing.{listing, list_at, list_bytes}
use Rattle.selection.specs.Laws.{Keeping, Laws}
use Rattle.sets.specs.Members.{member, least_from}
use Rattle.protocol.specs.Alters.{Becomes}
use Rattle.protocol.specs.Moves.{Move, after_all, all_of}
use Rattle.protocol.specs.Moves.Move.{Loaded, Injected, Withdrawn, Restarted, Activated}
use Rattle.protocol.specs.Network.{State}
use Rattle.protocol.specs.Packets.{way_of}
use Rattle.protocol.specs.Runs.{AllCome}
use Rattle.protocol.proofs.Altering.{moved_becomes}
use Rattle.protocol.proofs.Running.{Sane, same_table}
use Rattle.protocol.proofs.Stretches.{same_injected}
use Rattle.calls.specs.Calls.{Coming, coming, loading_by, stepping_by, answered, trace_at, trace_bytes_at, report_answer, report_bytes}
use Rattle.calls.specs.History.{IsMove}
use Rattle.calls.specs.Promise.{Does}
use Rattle.calls.specs.Turns.{World, part_of, with_part, of_moves, moves_of, bytes_after, answer_to, next}
use Rattle.calls.specs.declared.action.Action.{Action}
use Rattle.calls.specs.declared.action.Action.TheVariants.{Load, Inject, Withdraw, Restart, Step}
use Rattle.calls.specs.declared.answer.Answer.TheVariants.{Done, Way as way_answer, Written, Refused}
use Rattle.calls.specs.declared.call.Call.{Call}
use Rattle.calls.specs.declared.call.Call.TheVariants.{Act, Settle, Reopen, Ask, Report}
use Rattle.calls.specs.declared.report.Part.{Part}
use Rattle.calls.specs.declared.report.Report.{Report as Reported}
use Rattle.calls.specs.declared.report.Report.TheVariants.{Trace, List as list_report}
use Rattle.calls.proofs.Staying.{settle_settles}

-- where what an action comes to is refused, nothing happens
none_moves : (c : Coming) (fault : CallFault) → answered (λ m. Done) c ≡ Refused fault → of_moves c ≡ []
none_moves (Ok m) fault e = cc
none_moves (Err other) fault e = refl

-- a part in its own place
part_back : (bytes : List ℕ) (part : Part) → with_part bytes part (part_of bytes part) ≡ bytes
part_back bytes part =
    ap (λ (xs : List ℕ). take part.start bytes ++ xs) (take-append-drop part.len (drop part.start bytes)) ∙ take-append-drop part.start bytes

module _ (s : State) (fault : CallFault) where
  trace_refused : (v : ℕ) (before : List ℕ) → report_answer s (Trace v) (length before) ≡ Refused fault → trace_bytes_at s v before ≡ before
  trace_refused v before e =
      elim (cases_Bool (nat_lt v (length s.table.routers) && nat_le 32 (length before))) [
        | inl room ↦
            let parts = and_parts (nat_lt v (length s.table.routers)) (nat_le 32 (length before)) room in
            let told_there : trace_at s v (length before) ≡ Ok (told (way_of s v)) =
            cond-true (nat_lt v (length s.table.routers)) _ _ parts.0 ∙ cond-true (nat_le 32 (length before)) _ _ parts.1 in
            let tells : report_answer s (Trace v) (length before) ≡ way_answer (told (way_of s v)) = ap (answered way_answer) told_there in
            cc
        | inr none ↦ cond-false (nat_lt v (length s.table.routers) && nat_le 32 (length before)) (over_written (way_of s v) before) before none
      ]

  list_refused : (before : List ℕ) → report_answer s list_report (length before) ≡ Refused fault → list_bytes s.table s.advertised before ≡ before
  list_refused before e =
      elim (cases_Bool (nat_le 512 (length before))) [
        | inl room ↦
            let there : list_at s.table s.advertised (length before) ≡ Ok (length (listing s.table s.advertised)) = cond-true (nat_le 512 (length before)) _ _ room in
            let tells : report_answer s list_report (length before) ≡ Written (length (listing s.table s.advertised)) = ap (answered Written) there in
            cc
        | inr short ↦ cond-false (nat_le 512 (length before)) _ _ short
      ]

  report_refused_bytes : (r : Reported) (before : List ℕ) → report_answer s r (length before) ≡ Refused fault → report_bytes s r before ≡ before
  report_refused_bytes (Trace v) before e = trace_refused v before e
  report_refused_bytes list_report before e = list_refused before e

module _ (kept : Keeping) (w : World) where
  -- a refused call leaves all as it was
  pub refused_moves : (fault : CallFault) (call : Call) → answer_to kept w call ≡ Refused fault → moves_of w.network call ≡ []
  refused_moves fault (Act a) e = none_moves (coming w.network a) fault e
  refused_moves fault Settle e = cc
  refused_moves fault Reopen e = refl
  refused_moves fault (Ask q) e = refl
  refused_moves fault (Report r part) e = refl

  pub refused_bytes : (fault : CallFault) (call : Call) → answer_to kept w call ≡ Refused fault → bytes_after w call ≡ w.bytes
  refused_bytes fault (Act a) e = refl
  refused_bytes fault Settle e = refl
  refused_bytes fault Reopen e = refl
  refused_bytes fault (Ask q) e = refl
  refused_bytes fault (Report r part) e = ap (with_part w.bytes part) (report_refused_bytes w.network fault r (part_of w.bytes part) e) ∙ part_back w.bytes part

loaded_is : (r : Result Declared LoadFault) (m : Move) → loading_by r ≡ Ok m → (d : Declared) × (r ≡ Ok d) × (m ≡ Loaded d)
loaded_is (Ok d) m e = (d, refl, cc)
loaded_is (Err fault) m e = absurd (let none : ⊥ = cc in none)

-- what a move is that comes where some tests say so
only_here : (b : Bool) (x m : Move) (f : CallFault) → cond b (Ok x) (Err f) ≡ Ok m → m ≡ x
only_here true x m f e = cc
only_here false x m f e = absurd (let none : ⊥ = cc in none)

only_there : (b : Bool) (x m : Move) (f : CallFault) → cond b (Err f) (Ok x) ≡ Ok m → m ≡ x
only_there true x m f e = absurd (let none : ⊥ = cc in none)
only_there false x m f e = cc

only_both : (b : Bool) (r : Coming) (x m : Move) (f : CallFault) → ((r ≡ Ok m) → m ≡ x) → cond b r (Err f) ≡ Ok m → m ≡ x
only_both true r x m f there e = there e
only_both false r x m f there e = absurd (let none : ⊥ = cc in none)

activated_is : (w : ℕ) (o : Option ℕ) (m : Move) → stepping_by w o ≡ Ok m → m ≡ Activated w
activated_is w (Some v) m e = absurd (let none : ⊥ = cc in none)
activated_is w None m e = only_there (eqb w 0) (Activated w) m NoRouterNamed e

-- an accepted action is one move
pub move_is : (s : State) (a : Action) (m : Move) → coming s a ≡ Ok m → IsMove a m
move_is s (Load bytes) m e = loaded_is (table_in bytes.now) m e
move_is s (Inject p) m e = only_both (nat_lt p (length s.table.paths)) _ (Injected p) m (UndeclaredPath p) (only_there (member s.injected p) (Injected p) m (AlreadyInjected p)) e
move_is s (Withdraw p) m e = only_both (nat_lt p (length s.table.paths)) _ (Withdrawn p) m (UndeclaredPath p) (only_here (member s.injected p) (Withdrawn p) m (NotInjected p)) e
move_is s (Restart v) m e = only_here (nat_lt v (length s.table.routers)) (Restarted v) m (UndeclaredRouter v) e
move_is s (Step w) m e = activated_is w (least_from 32 w (length s.table.routers)) m e

module _ {kept : Keeping} (laws : Laws kept) where
  pub acts : (s : State) → Sane laws s → (a : Action) (c : Coming) → coming s a ≡ c → AllCome kept s (of_moves c) → ((fault : CallFault) → answered (λ m. Done) c ≡ Refused fault → ⊥) → (m : Move) × IsMove a m × Becomes kept s (after_all kept s (of_moves c)) m
  unfolding AllCome after_all
  acts s sane a (Ok m) is come taken = (m, move_is s a m is, moved_becomes laws s m sane come.0)
  acts s sane a (Err fault) is come taken = absurd (taken fault refl)

  -- a call that is not refused does what it is for
  pub call_does : (w : World) → Sane laws w.network → (call : Call) → AllCome kept w.network (moves_of w.network call) → ((fault : CallFault) → answer_to kept w call ≡ Refused fault → ⊥) → Does kept w.network call (next kept w call).network
  unfolding after_all
  call_does w sane (Act a) come taken = acts w.network sane a (coming w.network a) refl come taken
  call_does w sane Settle come taken =
      let ws = all_of (length w.network.table.routers) 7 in
      (same_table kept ws w.network, same_injected kept ws w.network, settle_settles laws w.network sane)
  call_does w sane Reopen come taken = refl
  call_does w sane (Ask q) come taken = refl
  call_does w sane (Report r part) come taken = refl
