-- A trace of a settled network tells how a packet leaves, and a best path is told in plain terms.
use Rattle.std.proofs.Common.{◌≡◌, ℕ, zero, suc, ◌<◌, ◌≤◌, true, false, List, ◌∷◌, length, ◌⊎◌, Some, None, Ok, IfOk, Option, Result, sym, refl, ap, ◌∙◌, subst, inl, inr}
use Rattle.std.proofs.lemmas.Bool.{both_ways, cases_Bool, cases_lt, cond-true, cond-false, lt-ltb, le-ltb, lt-leb, le-leb, and_from, ltb-true, false_from_ne_true}
use Rattle.std.specs.Prelude.{◌↔◌, nat_lt, nat_le, ◌&&◌}
use Rattle.costs.specs.Cost.{plain}
use Rattle.costs.proofs.Plain.{plain_laws}
use Rattle.faults.specs.declared.call.CallFault.{CallFault}
use Rattle.faults.specs.declared.call.CallFault.TheVariants.{UndeclaredRouter, ShortBuffer}
use Rattle.forwarding.specs.Answers.{told, over_written}
use Rattle.forwarding.specs.declared.packet.Way.{Way}
use Rattle.packets.specs.BestPlain.{BestIs}
use Rattle.packets.specs.Ways.{Course, sent, course}
use Rattle.packets.proofs.BestPaths.{best_is, best_from}
use Rattle.selection.specs.Laws.{Keeping, Laws}
use Rattle.sets.specs.Members.{member, Empty}
use Rattle.protocol.specs.Network.{State, set_of}
use Rattle.protocol.specs.Packets.{best_of, way_of, AllLeave}
use Rattle.protocol.specs.Settled.{Settled}
use Rattle.protocol.proofs.Leaving.{all_leave}
use Rattle.protocol.proofs.Running.{Sane}
use Rattle.calls.specs.Calls.{best_at, trace_at, trace_bytes_at, answered, reply, report_answer}
use Rattle.calls.specs.Promise.{Picked, Traces, Traced}
use Rattle.calls.specs.Refusals.{RefusesReport}
use Rattle.calls.specs.Turns.{World, part_of, with_part, bytes_after, answer_to, turned}
use Rattle.calls.specs.declared.answer.Answer.TheVariants.{Best as best_answer, Way as way_answer}
use Rattle.calls.specs.declared.call.Call.TheVariants.{Ask, Report}
use Rattle.calls.specs.declared.question.Question.TheVariants.{Best}
use Rattle.calls.specs.declared.report.Part.{Part}
use Rattle.calls.specs.declared.report.Report.TheVariants.{Trace}
use Rattle.calls.specs.declared.turn.Turn.{Turn}

-- of a declared router, the best path is told
best_told : (s : State) (v : ℕ) → v < length s.table.routers → best_at s v ≡ Ok (best_of s v)
best_told s v below = cond-true (nat_lt v (length s.table.routers)) _ _ (lt-ltb _ _ below)

pub picked_turn : (kept : Keeping) (w : World) (t : Turn) (v : ℕ) → v < length w.network.table.routers → t.call ≡ Ask (Best v) → Picked w.network v (turned kept w t)
picked_turn kept w t v below asks =
    let s = w.network in
    record {
      path = best_of s v;
      told = (_, refl, ap (answer_to kept w) asks ∙ ap (answered best_answer) (best_told s v below));
      is = best_is plain plain_laws s.table (set_of s.advertised v) v;
      only = best_from plain plain_laws s.table (set_of s.advertised v) v;
    }

-- a report is not refused: the router is declared, and the buffer has room
pub not_refused : (s : State) (v room : ℕ) → ((fault : CallFault) → RefusesReport s (Trace v) room fault → ⊥) → (v < length s.table.routers) × (32 ≤ room)
not_refused s v room taken =
    elim (cases_lt v (length s.table.routers)) [
      | inl below ↦
          elim (cases_lt room 32) [
            | inl short ↦ absurd (taken (ShortBuffer 32) (inr (below, short, refl)))
            | inr long ↦ (below, long)
          ]
      | inr past ↦ absurd (taken (UndeclaredRouter v) (inl (past, refl)))
    ]

module _ (s : State) (v : ℕ) (below : v < length s.table.routers) where
  -- then the way is told, and written
  way_told : (room : ℕ) → 32 ≤ room → trace_at s v room ≡ Ok (told (way_of s v))
  way_told room enough = cond-true (nat_lt v (length s.table.routers)) _ _ (lt-ltb _ _ below) ∙ cond-true (nat_le 32 room) _ _ (le-leb _ _ enough)

  way_written : (before : List ℕ) → 32 ≤ length before → trace_bytes_at s v before ≡ over_written (way_of s v) before
  way_written before enough = cond-true (nat_lt v (length s.table.routers) && nat_le 32 (length before)) _ _ (and_from _ _ (lt-ltb _ _ below) (le-leb _ _ enough))

-- where a path is injected, a trace that is answered tells the way of a packet and writes it
pub traces_there :
    (s : State) (v q : ℕ) → AllLeave s → member s.injected q ≡ true → v < length s.table.routers → (before : List ℕ) → 32 ≤ length before →
    Traces s v before (over_written (way_of s v) before) (told (way_of s v))
traces_there s v q leave in_it below before enough =
    let way = leave q in_it v below in
    record {
      met = way.0;
      path = way.1;
      leaves = way.3;
      told = ap (λ (c : Course). told c) way.2;
      written = ap (λ (c : Course). over_written c before) way.2;
    }

pub traced_way :
    (s : State) (v q : ℕ) → AllLeave s → member s.injected q ≡ true → (before : List ℕ) {after : List ℕ} {r : Result (Option Way) CallFault} →
    r ≡ trace_at s v (length before) → after ≡ trace_bytes_at s v before → IfOk r (Traces s v before after)
traced_way s v q leave in_it before {after} {r} is bytes_are =
    elim (cases_lt v (length s.table.routers)) [
      | inl below ↦
          elim (cases_lt (length before) 32) [
            | inl short ↦ subst (λ x. IfOk x (Traces s v before after)) (sym (is ∙ cond-true _ _ _ (lt-ltb _ _ below) ∙ cond-false _ _ _ (lt-leb _ _ short))) tt
            | inr enough ↦
                subst (λ x. IfOk x (Traces s v before after)) (sym (is ∙ way_told s v below (length before) enough))
                (subst (λ bytes. Traces s v before bytes (told (way_of s v))) (sym (bytes_are ∙ way_written s v below before enough)) (traces_there s v q leave in_it below before enough))
          ]
      | inr past ↦ subst (λ x. IfOk x (Traces s v before after)) (sym (is ∙ cond-false _ _ _ (le-ltb _ _ past))) tt
    ]

pub traced_turn :
    (kept : Keeping) (w : World) (t : Turn) (v q : ℕ) (part : Part) → AllLeave w.network → t.call ≡ Report (Trace v) part →
    ((fault : CallFault) → RefusesReport w.network (Trace v) (length (part_of w.bytes part)) fault → ⊥) → member w.network.injected q ≡ true →
    Traced w.network v part w.bytes (bytes_after w t.call) (turned kept w t)
traced_turn kept w t v q part leave asks taken in_it =
    let s = w.network in
    let before = part_of w.bytes part in
    let fits = not_refused s v (length before) taken in
    record {
      way = told (way_of s v);
      into = over_written (way_of s v) before;
      traces = traces_there s v q leave in_it fits.0 before fits.1;
      told = (_, refl, ap (answer_to kept w) asks ∙ ap (answered way_answer) (way_told s v fits.0 (length before) fits.1));
      written = ap (bytes_after w) asks ∙ ap (with_part w.bytes part) (way_written s v fits.0 before fits.1);
    }

-- a router without a path sends nothing on, whichever way that is
goes_nowhere : (s : State) (room v : ℕ) → best_of s v ≡ None → course plain s.table (best_of s) room v ≡ None
unfolding course
goes_nowhere s zero v none = refl
goes_nowhere s (suc room) v none = ap (sent plain s.table (course plain s.table (best_of s) room) v) none

-- in a settled network, nothing leaves just where nothing is injected
module _ {kept : Keeping} (laws : Laws kept) (s : State) (sane : Sane laws s) (settled : Settled kept s) (v : ℕ) (below : v < length s.table.routers) where
  has_way : (q : ℕ) → member s.injected q ≡ true → (r : List ℕ × ℕ) × (way_of s v ≡ Some r)
  has_way q in_it =
      let way = all_leave laws sane.0 sane.1 settled q in_it v below in
      ((v ∷ way.0, way.1), way.2)

  -- where a way is followed, its first router has a best path
  no_best_no_way : best_of s v ≡ None → way_of s v ≡ None
  no_best_no_way none = goes_nowhere s (length s.table.routers) v none

  nothing_from : ((q : ℕ) → member s.injected q ≡ true → ⊥) → Empty s.injected
  nothing_from none q = false_from_ne_true _ (none q)

  empty_best : Empty s.injected → (o : Option ℕ) → BestIs plain s.table (set_of s.advertised v) v o → o ≡ None
  empty_best none None h = refl
  empty_best none (Some p) h =
      let kept_p : member (kept s.table.paths s.injected) p ≡ true = subst (λ (set : ℕ). member set p ≡ true) (settled v below) h.0.0.1 in
      absurd (both_ways _ (none p) (laws.within s.table.paths s.injected sane.1.injected_declared p kept_p))

  pub best_nowhere : (best_of s v ≡ None) ↔ Empty s.injected
  best_nowhere = (
    λ none. nothing_from (λ q in_it. let way = has_way q in_it in absurd (let clash : ⊥ = (let e = no_best_no_way none in let f = way.1 in cc) in clash)),
    λ none. empty_best none (best_of s v) (best_is plain plain_laws s.table (set_of s.advertised v) v),
  )

  pub way_nowhere : (way_of s v ≡ None) ↔ Empty s.injected
  way_nowhere = (
    λ none. nothing_from (λ q in_it. let way = has_way q in_it in absurd (let clash : ⊥ = (let f = way.1 in cc) in clash)),
    λ none. no_best_no_way (best_nowhere.1 none),
  )

  -- so it is told
  pub best_none : (kept : Keeping) → (reply kept s (Best v) ≡ best_answer None) ↔ Empty s.injected
  best_none k =
      let tells : reply k s (Best v) ≡ best_answer (best_of s v) = ap (answered best_answer) (best_told s v below) in (
        λ e. best_nowhere.0 (let f : best_answer (best_of s v) ≡ best_answer None = sym tells ∙ e in cc),
        λ none. tells ∙ ap (λ (o : Option ℕ). best_answer o) (best_nowhere.1 none),
      )

  told_none : (c : Course) → told c ≡ None → c ≡ None
  told_none None e = refl
  told_none (Some r) e = absurd (let clash : ⊥ = cc in clash)

  pub told_nowhere : (told (way_of s v) ≡ None) ↔ Empty s.injected
  told_nowhere = (λ e. way_nowhere.0 (told_none (way_of s v) e), λ none. ap (λ (c : Course). told c) (way_nowhere.1 none))

  pub trace_none : (room : ℕ) → 32 ≤ room → (report_answer s (Trace v) room ≡ way_answer None) ↔ Empty s.injected
  trace_none room enough =
      let tells : report_answer s (Trace v) room ≡ way_answer (told (way_of s v)) = ap (answered way_answer) (way_told s v below room enough) in (
        λ e. way_nowhere.0 (told_none (way_of s v) (let f : way_answer (told (way_of s v)) ≡ way_answer None = sym tells ∙ e in cc)),
        λ none. tells ∙ ap (λ (c : Course). way_answer (told c)) (way_nowhere.1 none),
      )

-- a trace that is answered tells of no way just where nothing is injected
pub trace_nowhere :
    {kept : Keeping} (laws : Laws kept) (s : State) → Sane laws s → Settled kept s → (v room : ℕ) {r : Result (Option Way) CallFault} → r ≡ trace_at s v room →
    IfOk r (λ way. (way ≡ None) ↔ Empty s.injected)
trace_nowhere laws s sane settled v room is = subst (λ r. IfOk r (λ way. (way ≡ None) ↔ Empty s.injected)) (sym is) (by_router (cases_Bool (nat_lt v (length s.table.routers))) (cases_Bool (nat_le 32 room)))
  where
    by_router : ((nat_lt v (length s.table.routers) ≡ true) ⊎ (nat_lt v (length s.table.routers) ≡ false)) → ((nat_le 32 room ≡ true) ⊎ (nat_le 32 room ≡ false)) → IfOk (trace_at s v room) (λ way. (way ≡ None) ↔ Empty s.injected)
    by_router (inl below) (inl enough) =
        subst (λ r. IfOk r (λ way. (way ≡ None) ↔ Empty s.injected)) (sym (cond-true _ _ _ below ∙ cond-true _ _ _ enough))
        (told_nowhere laws s sane settled v (ltb-true _ _ below))
    by_router (inl below) (inr short) = subst (λ r. IfOk r (λ way. (way ≡ None) ↔ Empty s.injected)) (sym (cond-true _ _ _ below ∙ cond-false _ _ _ short)) tt
    by_router (inr past) _ = subst (λ r. IfOk r (λ way. (way ≡ None) ↔ Empty s.injected)) (sym (cond-false _ _ _ past)) tt
