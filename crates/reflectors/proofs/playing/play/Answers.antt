use Rattle.std.proofs.Common.{◌≡◌, true, false, cond, get_or, subst, refl, ap, sym, ◌∙◌, arith}
use Rattle.protocol.specs.Network.{State}
use Rattle.protocol.proofs.SixRounds.{six_rounds}
use Rattle.calls.specs.Turns.{offered, next, turned}
use Rattle.calls.proofs.Coming.{call_comes}
use Rattle.calls.proofs.Resulting.{follows}
use Rattle.calls.proofs.Stepping.{SoFar, so_far_begins, one_made, none_made, ran_out}
use Rattle.reflectors.specs.Reached.{rule_in, was_settled, world_in}
use Rattle.reflectors.proofs.playing.play.Goals as goal

pub loop-turn-init : goal.loop-turn-init
loop-turn-init g c =
    let kept = g.R.Rule.kept c.args.rule in
    record {
      so =
          subst (λ (s : State). SoFar kept c.args.bytes.now c.args.turns.now 0 c.args.turns.now (record { network = s; settled = false; bytes = c.args.bytes.now })) (sym c.new.ensures.state)
          (so_far_begins kept c.args.bytes.now c.args.turns.now);
      rule = c.new.ensures.rule;
      count = refl;
    }

-- the call was made
pub loop-turn-preserved : goal.loop-turn-preserved
loop-turn-preserved g c =
    let kept = g.R.Rule.kept in
    let k = kept c.args.rule in
    let h = c.loop-turn.invariant in
    let said = c.take_turn-reached.ensures in
    let d = c.turn-item.result in
    let t = get_or c.loop-turn.turns c.loop-turn.turn-index d in
    let made = c.if-not-made.false in
    let n = c.loop-turn.network in
    let w = world_in n c.loop-turn.bytes in
    let offers : offered (was_settled n) t.call ≡ true = sym said.made ∙ made in
    record {
      so =
          one_made k c.args.bytes.now c.args.turns.now h.so d c.loop-turn-test.true offers (said.typed made) (call_comes k w.network t.call (said.typed made))
          (said.turn ∙ ap (λ b. cond b (turned (kept (rule_in n)) w t) t) made ∙ ap (λ r. turned (kept r) w t) h.rule)
          (said.world ∙ ap (λ b. cond b (next (kept (rule_in n)) w t.call) w) made ∙ ap (λ r. next (kept r) w t.call) h.rule);
      rule = said.rule ∙ h.rule;
      count = omega (arith, h.count);
    }

-- it was not offered
pub returns-then-not-made : goal.returns-then-not-made
returns-then-not-made g c =
    let k = g.R.Rule.kept c.args.rule in
    let h = c.loop-turn.invariant in
    let said = c.take_turn-reached.ensures in
    let d = c.turn-item.result in
    let t = get_or c.loop-turn.turns c.loop-turn.turn-index d in
    let n = c.loop-turn.network in
    let w = world_in n c.loop-turn.bytes in
    let made = c.if-not-made.true in
    let end =
    none_made k c.args.bytes.now c.args.turns.now h.so (g.R.Rule.laws c.args.rule) d c.loop-turn-test.true (sym said.made ∙ made)
    (said.turn ∙ ap (λ b. cond b (turned (g.R.Rule.kept (rule_in n)) w t) t) made)
    (said.world ∙ ap (λ b. cond b (next (g.R.Rule.kept (rule_in n)) w t.call) w) made) in
    record { turns = end.turns_are; played = h.count ∙ end.made; world = end.world; rule = said.rule ∙ h.rule; plays = end.plays; follows = follows end.plays; six = six_rounds }

-- all were made
pub returns : goal.returns
returns g c =
    let h = c.loop-turn.invariant in
    let end = ran_out (g.R.Rule.kept c.args.rule) c.args.bytes.now c.args.turns.now h.so (g.R.Rule.laws c.args.rule) c.loop-turn-test.false in
    record { turns = end.turns_are; played = h.count ∙ end.made; world = end.world; rule = h.rule; plays = end.plays; follows = follows end.plays; six = six_rounds }
