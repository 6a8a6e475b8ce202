use Rattle.selection.proofs.PlainTerms.{five_stage_plain}
use Rattle.rules.proofs.five_stage.FiveStageRule.keep.Goals as goal

pub returns-clause-plain : goal.returns-clause-plain
returns-clause-plain c = rw (c.keep_shortest.ensures, c.new.ensures, c.new-med.ensures) (five_stage_plain c.args.paths.now c.args.set)
