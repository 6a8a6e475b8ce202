use Rattle.std.proofs.Common.{[]}
use Rattle.distances.specs.Answered.{declared_by}
use Rattle.protocol.specs.Network.{own_of}
use Rattle.peering.proofs.Answered.{of_declared}
use Rattle.peering.proofs.Learned.{own_is}
use Rattle.peering.proofs.peering.Peering.own.Goals as goal

-- its exit paths among the injected ones
pub returns : goal.returns
returns c =
    let t = declared_by c.args.self.now.distances in
    let v = c.in_ok-v.v in
    of_declared t v c.args.router c.intersection.result (own_of t c.args.injected) c.in_ok-v.ensures.below
    (own_is t c.args.injected [] v c.intersection.result c.exits_of.result c.intersection.ensures.members c.exits_of.ensures)
