use Rattle.std.proofs.Common.{◌≡◌}
use Rattle.calls.proofs.Stepping.{SoFar}
use Rattle.reflectors.specs.Reached.{rule_in, world_in}
use Rattle.reflectors.proofs.playing.play.Given as goal

-- the calls before this one were made
abbrev pub invariant-loop-turn : goal.invariant-loop-turn
invariant-loop-turn g l = record {
  so : SoFar (g.R.Rule.kept l.fn.rule) l.fn.bytes l.fn.turns l.turn-index l.turns (world_in l.network l.bytes);
  rule : rule_in l.network ≡ l.fn.rule;
  count : l.played ≡ l.turn-index;
}
