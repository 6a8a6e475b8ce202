-- What is promised of a run of calls.
use Rattle.std.proofs.Common.{◌≡◌, ℕ, suc, ◌+◌, ◌<◌, true, List, [], ◌∷◌, ◌++◌, append_assoc, append-nil, length, get_or, None, Decides, sym, refl, ap, ◌∙◌, subst, inl, inr, arith}
use Rattle.std.proofs.lemmas.Bool.{false≢true}
use Rattle.std.proofs.lemmas.List.{get_or_at}
use Rattle.std.specs.Prelude.{◌↔◌, IsTrue}
use Rattle.selection.specs.Laws.{Keeping, Laws}
use Rattle.sets.specs.Members.{member, Empty}
use Rattle.sets.proofs.Digits.{member_none}
use Rattle.protocol.specs.Moves.{begun}
use Rattle.protocol.specs.Network.{State}
use Rattle.protocol.specs.Packets.{AllLeave}
use Rattle.protocol.specs.Runs.{AllCome}
use Rattle.protocol.specs.Settled.{Settled}
use Rattle.protocol.proofs.Altering.{all_become}
use Rattle.protocol.proofs.Running.{Sane, begun_sane, all_sane, come_front, come_back, rests}
use Rattle.calls.specs.Calls.{at_rest}
use Rattle.calls.specs.History.{Told, Stands}
use Rattle.calls.specs.Promise.{run_of, world_of, network_of, AllMade, Refuses, turn_of, NotRefused, Shown, Picked, Traced, Plays}
use Rattle.calls.specs.Turns.{World, beginning, part_of, moves_of, offered, answer_to, Run, turned}
use Rattle.calls.specs.declared.answer.Answer.TheVariants.{Best as best_answer, Way as way_answer}
use Rattle.calls.specs.declared.call.Call.{Call}
use Rattle.calls.specs.declared.call.Call.TheVariants.{Ask, Report}
use Rattle.calls.specs.declared.question.Question.TheVariants.{Best}
use Rattle.calls.specs.declared.report.Part.{Part}
use Rattle.calls.specs.declared.report.Report.TheVariants.{Trace}
use Rattle.calls.specs.declared.turn.Turn.{Turn}
use Rattle.calls.proofs.Appending.{rest_of, run_made, moves_first, goes_on, stops, reaches, run_more}
use Rattle.calls.proofs.AtRest.{tells}
use Rattle.calls.specs.Typed.{Typed}
use Rattle.calls.proofs.Rounding.{rounded}
use Rattle.calls.proofs.Showing.{world_next, turn_at, shown_turn}
use Rattle.calls.proofs.Staying.{run_keeps}
use Rattle.calls.proofs.Telling.{told_is, says_injected, says_declared}
use Rattle.calls.proofs.Tracing.{not_refused, picked_turn, traced_turn, best_none, trace_none}

module _ {kept : Keeping} (laws : Laws kept) (bytes : List ℕ) where
  -- of calls from the beginning, where what happened may come
  module _ (front : List Turn) (come : AllCome kept begun (run_of kept bytes front).moves) where
    pub network_sane : Sane laws (network_of kept bytes front)
    network_sane = subst (Sane laws) (sym (reaches kept bytes front)) (all_sane laws (run_of kept bytes front).moves begun (begun_sane laws) come)

    pub network_settled : (world_of kept bytes front).settled ≡ true → Settled kept (network_of kept bytes front)
    network_settled = run_keeps laws front (beginning bytes) (begun_sane laws) (λ is. absurd (false≢true is)) come

    network_told : Decides (at_rest kept (network_of kept bytes front)) (Settled kept (network_of kept bytes front))
    network_told = tells kept network_sane.1

    -- at first no path is injected
    injects : (q : ℕ) → AllMade kept bytes front → IsTrue (member (network_of kept bytes front).injected q) ↔ Stands q (run_of kept bytes front).turns
    injects q made =
        let says = says_injected laws q front (beginning bytes) made (begun_sane laws) come in (
          λ m.
              elim (says.0 m) [
                | inl stands ↦ stands
                | inr was ↦ absurd (false≢true (sym (member_none q) ∙ was.0))
              ],
          λ stands. says.1 (inl stands),
        )

    traced_next :
        (back : List Turn) (t : Turn) (v q : ℕ) (part : Part) → AllMade kept bytes front → (world_of kept bytes front).settled ≡ true → t.call ≡ Report (Trace v) part →
        NotRefused kept bytes front t → member (network_of kept bytes front).injected q ≡ true →
        Traced (network_of kept bytes front) v part (world_of kept bytes front).bytes (world_of kept bytes (front ++ (t ∷ []))).bytes (get_or (run_of kept bytes (front ++ (t ∷ back))).turns (length front) t)
    traced_next back t v q part made flag asks taken in_it =
        let w = world_of kept bytes front in
        let leave = subst AllLeave (sym (reaches kept bytes front)) ((rests laws (run_of kept bytes front).moves come).leaves (run_of kept bytes front).moves [] (sym (append-nil (run_of kept bytes front).moves)) (subst (Settled kept) (reaches kept bytes front) (network_settled flag))) in
        let offers : offered w.settled t.call ≡ true = ap (offered w.settled) asks ∙ flag in
        let here = traced_turn kept w t v q part leave asks (λ fault refused. taken fault (subst (λ (c : Call). Refuses w c fault) (sym asks) refused)) in_it in
        let there = subst (λ (x : World). Traced w.network v part w.bytes x.bytes (turned kept w t)) (sym (world_next kept bytes front t made offers)) here in
        subst (Traced w.network v part w.bytes (world_of kept bytes (front ++ (t ∷ []))).bytes) (sym (turn_at kept bytes front t made offers back t)) there

    picked_next :
        (back : List Turn) (t : Turn) (v : ℕ) → AllMade kept bytes front → t.call ≡ Ask (Best v) → v < length (network_of kept bytes front).table.routers →
        Picked (network_of kept bytes front) v (get_or (run_of kept bytes (front ++ (t ∷ back))).turns (length front) t)
    picked_next back t v made asks below =
        let w = world_of kept bytes front in
        let offers : offered w.settled t.call ≡ true = ap (offered w.settled) asks in
        subst (Picked (network_of kept bytes front) v) (sym (turn_at kept bytes front t made offers back t)) (picked_turn kept w t v below asks)

    picked_none_next :
        (back : List Turn) (t : Turn) (v : ℕ) → AllMade kept bytes front → t.call ≡ Ask (Best v) → v < length (network_of kept bytes front).table.routers →
        Settled kept (network_of kept bytes front) → Told (best_answer None) (turn_of kept bytes (front ++ (t ∷ back)) front t) ↔ Empty (network_of kept bytes front).injected
    picked_none_next back t v made asks below settled =
        let w = world_of kept bytes front in
        let offers : offered w.settled t.call ≡ true = ap (offered w.settled) asks in
        let none = best_none laws w.network network_sane settled v below kept in
        let said : answer_to kept w t.call ≡ answer_to kept w (Ask (Best v)) = ap (answer_to kept w) asks in
        subst (λ (u : Turn). Told (best_answer None) u ↔ Empty w.network.injected) (sym (turn_at kept bytes front t made offers back t))
        (λ h. none.0 (sym said ∙ told_is laws w t (answer_to kept w t.call) (best_answer None) refl h), λ empty. (_, refl, said ∙ none.1 empty))

    traced_none_next :
        (back : List Turn) (t : Turn) (v : ℕ) (part : Part) → AllMade kept bytes front → t.call ≡ Report (Trace v) part → NotRefused kept bytes front t →
        (world_of kept bytes front).settled ≡ true → Told (way_answer None) (turn_of kept bytes (front ++ (t ∷ back)) front t) ↔ Empty (network_of kept bytes front).injected
    traced_none_next back t v part made asks taken flag =
        let w = world_of kept bytes front in
        let offers : offered w.settled t.call ≡ true = ap (offered w.settled) asks ∙ flag in
        let room = length (part_of w.bytes part) in
        let fits = not_refused w.network v room (λ fault refused. taken fault (subst (λ (c : Call). Refuses w c fault) (sym asks) refused)) in
        let none = trace_none laws w.network network_sane (network_settled flag) v fits.0 room fits.1 in
        let said : answer_to kept w t.call ≡ answer_to kept w (Report (Trace v) part) = ap (answer_to kept w) asks in
        subst (λ (u : Turn). Told (way_answer None) u ↔ Empty w.network.injected) (sym (turn_at kept bytes front t made offers back t))
        (λ h. none.0 (sym said ∙ told_is laws w t (answer_to kept w t.call) (way_answer None) refl h), λ empty. (_, refl, said ∙ none.1 empty))

  module _ (turns : List Turn) (come : AllCome kept begun (run_of kept bytes turns).moves) (typed : (k : ℕ) (d : Turn) → k < (run_of kept bytes turns).made → Typed (get_or turns k d).call) where
    come_so_far : (front back : List Turn) → turns ≡ front ++ back → AllCome kept begun (run_of kept bytes front).moves
    come_so_far front back whole =
        let first = moves_first kept front back (beginning bytes) in
        come_front kept (run_of kept bytes front).moves first.0 begun (subst (AllCome kept begun) (ap (λ (ts : List Turn). (run_of kept bytes ts).moves) whole ∙ first.1) come)

    -- a call that is offered where all before it were made is one of those that were made
    typed_next : (front back : List Turn) (t : Turn) → turns ≡ front ++ (t ∷ back) → AllMade kept bytes front → offered (world_of kept bytes front).settled t.call ≡ true → Typed t.call
    typed_next front back t whole made offers =
        let count = (goes_on kept bytes front (t ∷ back) made).made ∙ ap (λ (r : Run). length front + r.made) (run_made kept (world_of kept bytes front) t back offers) in
        let all : (run_of kept bytes turns).made ≡ length front + suc (rest_of kept (world_of kept bytes front) t back).made = ap (λ (ts : List Turn). (run_of kept bytes ts).made) whole ∙ count in
        let here : get_or turns (length front) t ≡ t = ap (λ (ts : List Turn). get_or ts (length front) t) whole ∙ get_or_at front t back t (length front) refl in
        subst (λ (u : Turn). Typed u.call) here (typed (length front) t (omega (arith, all)))

    shown_next :
        (front back : List Turn) (t : Turn) → turns ≡ front ++ (t ∷ back) → AllMade kept bytes front → offered (world_of kept bytes front).settled t.call ≡ true →
        Shown kept (world_of kept bytes front) (world_of kept bytes (front ++ (t ∷ []))) t (get_or (run_of kept bytes turns).turns (length front) t)
    shown_next front back t whole made offers =
        let w = world_of kept bytes front in
        let come_front_of = come_so_far front (t ∷ back) whole in
        let come_next = come_so_far (front ++ (t ∷ [])) back (whole ∙ sym (append_assoc front (t ∷ []) back)) in
        let more = run_more kept bytes front t made offers in
        let here : AllCome kept w.network (moves_of w.network t.call) =
        subst (λ (x : State). AllCome kept x (moves_of w.network t.call)) (sym (reaches kept bytes front))
        (subst (AllCome kept _) (append-nil (moves_of w.network t.call))
        (come_back kept (run_of kept bytes front).moves (moves_of w.network t.call ++ []) begun (subst (λ r. AllCome kept begun r.moves) more come_next))) in
        let tells_next = network_told (front ++ (t ∷ [])) come_next in
        let next_is = world_next kept bytes front t made offers in
        let shown = shown_turn laws w (network_sane front come_front_of) t (typed_next front back t whole made offers) here (subst (λ (x : World). Decides (at_rest kept x.network) (Settled kept x.network)) next_is tells_next) in
        subst (λ (u : Turn). Shown kept w (world_of kept bytes (front ++ (t ∷ []))) t u)
        (sym (turn_at kept bytes front t made offers back t) ∙ ap (λ (ts : List Turn). get_or (run_of kept bytes ts).turns (length front) t) (sym whole))
        (subst (λ (x : World). Shown kept w x t (turned kept w t)) (sym next_is) shown)

    pub plays : Plays kept bytes turns
    plays =
        record {
          goes_on = λ front back whole made. goes_on kept bytes front back made;
          comes = come;
          becomes = all_become laws (run_of kept bytes turns).moves come;
          reaches = λ front back whole. reaches kept bytes front;
          rests = rests laws (run_of kept bytes turns).moves come;
          settled = λ front back whole flag. network_settled front (come_so_far front back whole) flag;
          told = λ front back whole. network_told front (come_so_far front back whole);
          declares = λ front back whole made. says_declared laws front (beginning bytes) made (begun_sane laws) (come_so_far front back whole);
          injects = λ front back q whole made. injects front (come_so_far front back whole) q made;
          shown = shown_next;
          reads = λ front back t read whole made offers asks. subst Typed asks (typed_next front back t whole made offers);
          stops = λ front back t whole made none. stops kept bytes front back t made none;
          rounds = λ front ts back whole made none.
              let come_there = come_so_far (front ++ ts) back (whole ∙ sym (append_assoc front ts back)) in
              rounded laws bytes front ts made come_there (rests laws (run_of kept bytes (front ++ ts)).moves come_there) none;
          picked = λ front back t v whole made asks below.
              subst (λ (ts : List Turn). Picked (network_of kept bytes front) v (get_or (run_of kept bytes ts).turns (length front) t)) (sym whole)
              (picked_next front (come_so_far front (t ∷ back) whole) back t v made asks below);
          picked_none = λ front back t v whole made asks below settled.
              subst (λ (ts : List Turn). Told (best_answer None) (turn_of kept bytes ts front t) ↔ Empty (network_of kept bytes front).injected) (sym whole)
              (picked_none_next front (come_so_far front (t ∷ back) whole) back t v made asks below settled);
          traced = λ front back t v q part whole made asks taken flag in_it.
              subst (λ (ts : List Turn). Traced (network_of kept bytes front) v part (world_of kept bytes front).bytes (world_of kept bytes (front ++ (t ∷ []))).bytes (turn_of kept bytes ts front t)) (sym whole)
              (traced_next front (come_so_far front (t ∷ back) whole) back t v q part made flag asks taken in_it);
          traced_none = λ front back t v part whole made asks taken flag.
              subst (λ (ts : List Turn). Told (way_answer None) (turn_of kept bytes ts front t) ↔ Empty (network_of kept bytes front).injected) (sym whole)
              (traced_none_next front (come_so_far front (t ∷ back) whole) back t v part made asks taken flag);
        }
