use Rattle.std.proofs.Common.{◌≡◌, true, refl, ap, sym, ◌∙◌}
use Rattle.calls.specs.Turns.{bytes_after, settled_after}
use Rattle.calls.specs.declared.answer.Answer.TheVariants.{Done}
use Rattle.calls.specs.declared.call.Call.TheVariants.{Reopen, Ask, Report}
use Rattle.network.specs.Settled.{rule_of, state_of}
use Rattle.network.specs.Running.{rule_of as running_rule, state_of as running_state}
use Rattle.reflectors.specs.Reached.{settled_world}
use Rattle.reflectors.proofs.Turns.{Took, took_none, turned_is, world_is}
use Rattle.reflectors.proofs.playing.settled_turn.Given.{Over}
use Rattle.reflectors.proofs.playing.settled_turn.Goals as goal
use Rattle.reflectors.proofs.playing.settled_turn.Goals.{in-Ask, in-Report}

module _ (g : Over) (c : goal.After-turn-2-1 g) where
  -- a question is answered, and a report written into its part; the network stays as it is
  record Whole : Type 0 where
    took :
        Took (g.R.Rule.kept (rule_of c.args.settled)) (settled_world c.args.settled c.args.bytes.now) c.args.turn.now.call (g.R.Rule.kept (rule_of c.args.settled)) (state_of c.args.settled)
        c.match-turn.answer
    stays : true ≡ settled_after true c.args.turn.now.call
    left : c.match-turn.bytes ≡ bytes_after (settled_world c.args.settled c.args.bytes.now) c.args.turn.now.call

  whole : Whole
  whole =
      let kept = g.R.Rule.kept (rule_of c.args.settled) in
      let w = settled_world c.args.settled c.args.bytes.now in
      elim c.match-turn.branch [
        | in-Ask b ↦
            record {
              took = took_none kept w refl (Ask b.in-Ask.question) b.in-Ask.is refl (b.answer-is ∙ b.ask-answer.ensures.value) refl;
              stays = ap (settled_after true) (sym b.in-Ask.is);
              left = b.bytes-is ∙ ap (bytes_after w) (sym b.in-Ask.is);
            }
        | in-Report b ↦
            record {
              took = took_none kept w refl (Report b.in-Report.report b.in-Report.part) b.in-Report.is refl (b.answer-is ∙ b.reported-answer.ensures.value) refl;
              stays = ap (settled_after true) (sym b.in-Report.is);
              left = b.bytes-is ∙ b.reported-answer.ensures.bytes ∙ ap (bytes_after w) (sym b.in-Report.is);
            }
      ]

pub returns-clause-turn : goal.returns-clause-turn
returns-clause-turn g c =
    turned_is (g.R.Rule.kept (rule_of c.args.settled)) (settled_world c.args.settled c.args.bytes.now) c.args.turn.now (whole g c).took c.outcome-2.ensures

pub returns-clause-world : goal.returns-clause-world
returns-clause-world g c =
    let all = whole g c in
    world_is (g.R.Rule.kept (rule_of c.args.settled)) (settled_world c.args.settled c.args.bytes.now) all.took all.stays all.left

module _ (g : Over) (c : goal.After-turn-1 g) where
  reopened :
      Took (g.R.Rule.kept (rule_of c.args.settled)) (settled_world c.args.settled c.args.bytes.now) c.args.turn.now.call (g.R.Rule.kept (running_rule c.reopen-running.result))
      (running_state c.reopen-running.result) Done
  reopened =
      took_none (g.R.Rule.kept (rule_of c.args.settled)) (settled_world c.args.settled c.args.bytes.now) (ap g.R.Rule.kept c.reopen-running.ensures.rule) Reopen c.in-Reopen.is refl refl
      c.reopen-running.ensures.state

pub returns-in-Reopen-clause-turn : goal.returns-in-Reopen-clause-turn
returns-in-Reopen-clause-turn g c =
    turned_is (g.R.Rule.kept (rule_of c.args.settled)) (settled_world c.args.settled c.args.bytes.now) c.args.turn.now (reopened g c) c.outcome.ensures

pub returns-in-Reopen-clause-world : goal.returns-in-Reopen-clause-world
returns-in-Reopen-clause-world g c =
    let w = settled_world c.args.settled c.args.bytes.now in
    world_is (g.R.Rule.kept (rule_of c.args.settled)) w (reopened g c) (ap (settled_after true) (sym c.in-Reopen.is)) (ap (bytes_after w) (sym c.in-Reopen.is))
