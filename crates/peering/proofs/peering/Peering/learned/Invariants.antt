use Rattle.std.proofs.Common.{◌≡◌, ℕ, true}
use Rattle.distances.specs.Answered.{declared_by}
use Rattle.sets.specs.Members.{member}
use Rattle.peering.specs.Peered.{peer_by}
use Rattle.peering.proofs.Learned.{Gathered, asked_but}
use Rattle.peering.proofs.peering.Peering.learned.Given as goal

-- the router's own paths, and those that the peers before this one pass to it
abbrev pub invariant-loop-w : goal.invariant-loop-w
invariant-loop-w l =
    let t = declared_by l.self.distances in
    (goal.iterator-loop-w).can_next l.w-iterator × (goal.iterator-loop-w).is_finite l.w-iterator
    × ((w : ℕ) → member l.w-iterator w ≡ true → peer_by t l.v w ≡ true)
    × Gathered t l.fn.injected l.advertised l.v (asked_but t l.fn.injected l.advertised l.v l.w-iterator) l.known
