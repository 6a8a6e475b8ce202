use Rattle.std.proofs.Common.{◌≡◌, take, map, length}
use Rattle.std.specs.Option.{unwrap_or}
use Rattle.std.specs.List.{range_with_len}
use Rattle.costs.specs.Cost.{plain}
use Rattle.distances.specs.Answered.{declared_by}
use Rattle.packets.specs.Best.{best}
use Rattle.direct.proofs.sending.write.Given as goal

-- the routers before this one have their bytes
abbrev pub invariant-loop-router : goal.invariant-loop-router
invariant-loop-router l = (length l.routers ≡ length l.initial.routers) × (take l.router l.routers ≡ map (λ v. unwrap_or (best plain (declared_by l.distances) l.set v) 255) (range_with_len 0 l.router))
