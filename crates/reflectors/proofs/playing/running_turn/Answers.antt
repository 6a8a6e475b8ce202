use Rattle.std.proofs.Common.{◌≡◌, ℕ, false, List, refl, ap, sym, ◌∙◌, subst}
use Rattle.calls.specs.Turns.{bytes_after, settled_after}
use Rattle.calls.specs.declared.call.Call.TheVariants.{Ask}
use Rattle.network.specs.Running.{rule_of, state_of}
use Rattle.network.specs.declared.running.Running.{Running}
use Rattle.reflectors.specs.Reached.{running_world}
use Rattle.reflectors.proofs.Turns.{Took, took_action, took_none, turned_is, world_is}
use Rattle.reflectors.proofs.playing.running_turn.Given.{Over}
use Rattle.reflectors.proofs.playing.running_turn.Goals as goal
use Rattle.reflectors.proofs.playing.running_turn.Goals.{in-Act, in-Ask}

module _ (g : Over) (c : goal.After-turn-2-1 g) (bytes : List ℕ) where
  -- an action is taken, and a question; the network runs on, and the bytes stay
  record Whole : Type 0 where
    took :
        Took (g.R.Rule.kept (rule_of c.args.running)) (running_world c.args.running bytes) c.args.turn.now.call (g.R.Rule.kept (rule_of c.match-turn.running)) (state_of c.match-turn.running)
        c.match-turn.answer
    runs : false ≡ settled_after false c.args.turn.now.call
    left : bytes ≡ bytes_after (running_world c.args.running bytes) c.args.turn.now.call

  whole : Whole
  whole =
      let kept = g.R.Rule.kept (rule_of c.args.running) in
      let w = running_world c.args.running bytes in
      let call = c.args.turn.now.call in
      let Taken : Running g.row.R.Denot g.R.Rule → Type 0 = λ n. Took kept w call (g.R.Rule.kept (rule_of n)) (state_of n) c.match-turn.answer in
      elim c.match-turn.branch [
        | in-Act b ↦
            record {
              took =
                  subst Taken (sym b.running-is)
                  (took_action kept w (ap g.R.Rule.kept b.act.ensures.rule) b.in-Act.action b.in-Act.is (b.answer-is ∙ b.acted-answer.ensures) b.act.ensures.value);
              runs = ap (settled_after false) (sym b.in-Act.is);
              left = ap (bytes_after w) (sym b.in-Act.is);
            }
        | in-Ask b ↦
            record {
              took = subst Taken (sym b.running-is) (took_none kept w refl (Ask b.in-Ask.question) b.in-Ask.is refl (b.answer-is ∙ b.ask-answer.ensures.value) refl);
              runs = ap (settled_after false) (sym b.in-Ask.is);
              left = ap (bytes_after w) (sym b.in-Ask.is);
            }
      ]

pub returns-clause-turn : goal.returns-clause-turn
returns-clause-turn g c bytes =
    turned_is (g.R.Rule.kept (rule_of c.args.running)) (running_world c.args.running bytes) c.args.turn.now (whole g c bytes).took c.outcome-2.ensures

pub returns-clause-world : goal.returns-clause-world
returns-clause-world g c bytes =
    let all = whole g c bytes in
    world_is (g.R.Rule.kept (rule_of c.args.running)) (running_world c.args.running bytes) all.took all.runs all.left
