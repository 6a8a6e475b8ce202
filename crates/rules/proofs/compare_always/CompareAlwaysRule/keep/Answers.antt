use Rattle.selection.proofs.PlainTerms.{compare_always_plain}
use Rattle.rules.proofs.compare_always.CompareAlwaysRule.keep.Goals as goal

pub returns-clause-plain : goal.returns-clause-plain
returns-clause-plain c = rw (c.keep_shortest.ensures, c.new.ensures) (compare_always_plain c.args.paths.now c.args.set)
