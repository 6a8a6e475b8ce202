use Rattle.std.proofs.Common.{cond, ap, sym, ◌∙◌}
use Rattle.calls.specs.Turns.{turned}
use Rattle.reflectors.specs.Reached.{rule_in, world_in}
use Rattle.reflectors.proofs.playing.take_turn.Goals as goal

pub returns-in-Running-clause-turn : goal.returns-in-Running-clause-turn
returns-in-Running-clause-turn g c =
    let bytes = c.args.bytes.now in
    let t = c.args.turn.now in
    c.running_turn.ensures.turn bytes
    ∙ ap (λ n. cond c.running_turn.result.1 (turned (g.R.Rule.kept (rule_in n)) (world_in n bytes) t) t) (sym c.in-Running.is)
