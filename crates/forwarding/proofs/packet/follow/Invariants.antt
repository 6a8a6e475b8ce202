use Rattle.distances.specs.Answered.{declared_by}
use Rattle.forwarding.proofs.Traced.{Traced}
use Rattle.forwarding.proofs.packet.follow.Given as goal

-- the routers that the packet met stand in the buffer
abbrev pub invariant-loop-before : goal.invariant-loop-before
invariant-loop-before l = Traced (declared_by l.distances) l.set l.router l.initial.met l.at l.before l.met
