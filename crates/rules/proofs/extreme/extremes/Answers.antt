use Rattle.std.proofs.Common.{arith}
use Rattle.selection.proofs.Picking.{picking_worse, picking_ends}
use Rattle.rules.proofs.extreme.extremes.Goals as goal

pub loop-p-preserved : goal.loop-p-preserved
loop-p-preserved c =
    let step = c.in-Some.ensures.steps in
    picking_worse c.args.criterion c.args.paths.now
    c.args.set c.loop-p.p-iterator c.loop-p.picked c.loop-p.lowest c.in-Some.p c.rank-rank.result c.next.new.self
    c.loop-p.invariant c.rank-rank.ensures.narrow c.rank-rank.ensures.value step.0.0 step.2 (omega arith)

pub returns : goal.returns
returns c =
    picking_ends c.args.criterion c.args.paths.now c.args.set c.loop-p.p-iterator c.loop-p.picked c.loop-p.lowest c.requires c.loop-p.invariant c.in-None.ensures.steps.0
