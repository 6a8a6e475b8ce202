-- What one call of a run leaves.
use Rattle.std.proofs.Common.{◌≡◌, ℕ, Bool, List, [], Some, Ok, Err, Result, sym, ap, ◌∙◌}
use Rattle.std.specs.Prelude.{⊤}
use Rattle.faults.specs.declared.call.CallFault.{CallFault}
use Rattle.selection.specs.Laws.{Keeping}
use Rattle.protocol.specs.Network.{State}
use Rattle.protocol.specs.Moves.{after_all}
use Rattle.calls.specs.Calls.{Coming, coming, done, answered, at_rest}
use Rattle.calls.specs.Turns.{World, of_moves, moves_of, answer_to, bytes_after, settled_after, next, turned}
use Rattle.calls.specs.declared.action.Action.{Action}
use Rattle.calls.specs.declared.answer.Answer.{Answer}
use Rattle.calls.specs.declared.answer.Answer.TheVariants.{Done}
use Rattle.calls.specs.declared.call.Call.{Call}
use Rattle.calls.specs.declared.call.Call.TheVariants.{Act}
use Rattle.calls.specs.declared.turn.Outcome.{Outcome}
use Rattle.calls.specs.declared.turn.Turn.{Turn}

-- what was answered to a call, and the rule and the network afterwards
pub record Took (kept : Keeping) (w : World) (call : Call) (kept' : Keeping) (x : State) (answer : Answer) : Type 0 where
  pub answers : answer ≡ answer_to kept w call
  pub leaves : x ≡ (next kept w call).network
  pub rule : kept' ≡ kept

module _ (kept : Keeping) (w : World) where
  -- the answer of an action, and the network afterwards
  changed : (c : Coming) (r : Result ⊤ CallFault) (x : State) → (r, x) ≡ done kept w.network c → (answered (λ d. Done) r ≡ answered (λ m. Done) c) × (x ≡ after_all kept w.network (of_moves c))
  unfolding after_all
  changed (Ok m) r x is = (ap (λ (y : Result ⊤ CallFault × State). answered (λ d. Done) y.0) is, ap (λ (y : Result ⊤ CallFault × State). y.1) is)
  changed (Err fault) r x is = (ap (λ (y : Result ⊤ CallFault × State). answered (λ d. Done) y.0) is, ap (λ (y : Result ⊤ CallFault × State). y.1) is)

  module _ {call : Call} {kept' : Keeping} {x : State} {answer : Answer} (rule : kept' ≡ kept) where
    pub took_action : (a : Action) {r : Result ⊤ CallFault} → call ≡ Act a → answer ≡ answered (λ d. Done) r → (r, x) ≡ done kept w.network (coming w.network a) → Took kept w call kept' x answer
    took_action a {r} asks said is =
        let both = changed (coming w.network a) r x is in
        record {
          answers = said ∙ both.0 ∙ ap (answer_to kept w) (sym asks);
          leaves = both.1 ∙ ap (λ (c : Call). (next kept w c).network) (sym asks);
          rule = rule;
        }

    -- a call that leaves the network as it is
    pub took_none : (same : Call) → call ≡ same → moves_of w.network same ≡ [] → answer ≡ answer_to kept w same → x ≡ w.network → Took kept w call kept' x answer
    unfolding after_all
    took_none same asks moves said is =
        record {
          answers = said ∙ ap (answer_to kept w) (sym asks);
          leaves = is ∙ sym (ap (after_all kept w.network) moves) ∙ ap (λ (c : Call). (next kept w c).network) (sym asks);
          rule = rule;
        }

  -- what the turn is then
  pub turned_is :
      (t : Turn) {kept' : Keeping} {x : State} {answer : Answer} {o : Outcome} → Took kept w t.call kept' x answer →
      o ≡ record { answer = answer; advertised = x.advertised; settled = at_rest kept' x } → record { call = t.call; outcome = Some o } ≡ turned kept w t
  turned_is t {kept'} {x} {answer} {o} took is =
      ap (λ (y : Outcome). record { call = t.call; outcome = Some y }) is
      ∙ ap (λ (k : Keeping). record { call = t.call; outcome = Some (record { answer = answer; advertised = x.advertised; settled = at_rest k x }) }) took.rule
      ∙ ap (λ (y : State). record { call = t.call; outcome = Some (record { answer = answer; advertised = y.advertised; settled = at_rest kept y }) }) took.leaves
      ∙ ap (λ (a : Answer). record { call = t.call; outcome = Some (record { answer = a; advertised = (next kept w t.call).network.advertised; settled = at_rest kept (next kept w t.call).network }) }) took.answers

  -- and where the run stands
  pub world_is :
      {call : Call} {kept' : Keeping} {x : State} {answer : Answer} {settled : Bool} {bytes : List ℕ} → Took kept w call kept' x answer →
      settled ≡ settled_after w.settled call → bytes ≡ bytes_after w call → record { network = x; settled = settled; bytes = bytes } ≡ next kept w call
  world_is {call} {kept'} {x} {answer} {settled} {bytes} took flag left =
      ap (λ (y : State). record { network = y; settled = settled; bytes = bytes }) took.leaves
      ∙ ap (λ (b : Bool). record { network = (next kept w call).network; settled = b; bytes = bytes }) flag
      ∙ ap (λ (bs : List ℕ). record { network = (next kept w call).network; settled = settled_after w.settled call; bytes = bs }) left
