use Rattle.selection.proofs.Parting.{found_ends}
use Rattle.rules.proofs.per_neighbour.through.Goals as goal

pub returns : goal.returns
returns c = found_ends c.args.paths.now c.args.neighbour_as c.args.set c.loop-p.p-iterator c.loop-p.found c.requires c.loop-p.invariant c.in-None.ensures.steps.0
