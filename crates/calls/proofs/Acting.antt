-- What is answered to an action, and what it makes of the network, in plain terms.
use Rattle.std.proofs.Common.{◌≡◌, Ok, Err, OnOk, Result, sym, refl, ap, ◌∙◌, subst}
use Rattle.std.specs.Prelude.{⊤, ◌↔◌}
use Rattle.faults.specs.declared.call.CallFault.{CallFault}
use Rattle.selection.specs.Laws.{Keeping, Laws}
use Rattle.protocol.specs.Alters.{Becomes}
use Rattle.protocol.specs.Moves.{Move, after_all}
use Rattle.protocol.specs.Network.{State}
use Rattle.protocol.specs.Runs.{AllCome}
use Rattle.protocol.proofs.Running.{Sane}
use Rattle.calls.specs.Calls.{Coming, coming, done}
use Rattle.calls.specs.History.{IsMove}
use Rattle.calls.specs.Refusals.{RefusesAction}
use Rattle.calls.specs.Turns.{of_moves}
use Rattle.calls.specs.declared.action.Action.{Action}
use Rattle.calls.specs.Typed.{TypedAction}
use Rattle.calls.proofs.Coming.{action_comes}
use Rattle.calls.proofs.Doing.{acts}
use Rattle.calls.proofs.Refusing.{both, action_refused}

module _ {kept : Keeping} (laws : Laws kept) (s : State) (sane : Sane laws s) (a : Action) (typed : TypedAction a) where
  -- where it was accepted, one move happened
  abbrev OnDone : Result ⊤ CallFault × State → Type 0
  OnDone r = OnOk r.0 ((m : Move) × IsMove a m × Becomes kept s r.1 m)

  by_coming : (c : Coming) → coming s a ≡ c → AllCome kept s (of_moves c) → OnDone (done kept s c)
  unfolding after_all
  by_coming (Ok m) is come = acts laws s sane a (Ok m) is come (λ fault e. cc)
  by_coming (Err fault) is come = tt

  pub acted : {r : Result ⊤ CallFault} {x : State} → (r, x) ≡ done kept s (coming s a) → OnOk r ((m : Move) × IsMove a m × Becomes kept s x m)
  acted is = subst OnDone (sym is) (by_coming (coming s a) refl (action_comes kept s a typed))

  -- where every move of the action is this one
  sure : (x : State) (r : Result ⊤ CallFault) (m : Move) → ((n : Move) → IsMove a n → n ≡ m) → OnOk r ((n : Move) × IsMove a n × Becomes kept s x n) → OnOk r (Becomes kept s x m)
  sure x (Ok u) m only h = subst (Becomes kept s x) (only h.0 h.1) h.2
  sure x (Err fault) m only h = tt

  pub acted_as : {r : Result ⊤ CallFault} {x : State} (m : Move) → ((n : Move) → IsMove a n → n ≡ m) → (r, x) ≡ done kept s (coming s a) → OnOk r (Becomes kept s x m)
  acted_as {r} {x} m only is = sure x r m only (acted is)

  -- it was refused just where it is to be
  done_refused : (fault : CallFault) (c : Coming) → ((done kept s c).0 ≡ Err fault) ↔ (c ≡ Err fault)
  done_refused fault (Ok m) = (λ e. absurd (let clash : ⊥ = cc in clash), λ e. absurd (let clash : ⊥ = cc in clash))
  done_refused fault (Err f) = (λ e. cc, λ e. cc)

  pub acted_refuses : {r : Result ⊤ CallFault} {x : State} → (r, x) ≡ done kept s (coming s a) → (fault : CallFault) → (r ≡ Err fault) ↔ RefusesAction s a fault
  acted_refuses {r} is fault =
      let answer : r ≡ (done kept s (coming s a)).0 = ap (λ (y : Result ⊤ CallFault × State). y.0) is in
      both (λ e. sym answer ∙ e, λ e. answer ∙ e) (both (done_refused fault (coming s a)) (action_refused s fault a typed))
