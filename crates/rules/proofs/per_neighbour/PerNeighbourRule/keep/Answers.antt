use Rattle.selection.proofs.Parting.{parted_more, parted_fewer, parted_ends}
use Rattle.rules.proofs.per_neighbour.PerNeighbourRule.keep.Goals as goal

pub loop-p-smaller : goal.loop-p-smaller
loop-p-smaller g c =
    parted_fewer (g.R.Rule.laws c.args.self.now.below) c.args.paths.now c.declared_of-rest.result c.declared_of-rest.ensures.declared
    c.loop-p.rest c.loop-p.kept c.loop-p.invariant c.in-Some.p c.through-part.result c.keep.result c.difference-rest.result c.union-kept.result
    c.in-Some.ensures.0.0 c.through-part.ensures c.keep.ensures c.difference-rest.ensures.members c.union-kept.ensures.members

pub loop-p-preserved : goal.loop-p-preserved
loop-p-preserved g c =
    parted_more (g.R.Rule.laws c.args.self.now.below) c.args.paths.now c.declared_of-rest.result c.declared_of-rest.ensures.declared
    c.loop-p.rest c.loop-p.kept c.loop-p.invariant c.in-Some.p c.through-part.result c.keep.result c.difference-rest.result c.union-kept.result
    c.in-Some.ensures.0.0 c.through-part.ensures c.keep.ensures c.difference-rest.ensures.members c.union-kept.ensures.members

pub returns : goal.returns
returns g c =
    rw (← c.declared_of-rest.ensures.value)
    (parted_ends (g.R.Rule.laws c.args.self.now.below) c.args.paths.now c.declared_of-rest.result c.declared_of-rest.ensures.declared c.loop-p.rest c.loop-p.kept c.loop-p.invariant c.in_default.ensures)
