use Rattle.std.proofs.Common.{◌≡◌, ℕ, true, length}
use Rattle.distances.specs.Answered.{declared_by}
use Rattle.sets.specs.Members.{member}
use Rattle.protocol.specs.Network.{learned}
use Rattle.network.proofs.Activating.{Partly}
use Rattle.network.proofs.held.Sets.learn.Given as goal

-- the routers that came know what they learned, the others what they knew
abbrev pub invariant-loop-v : goal.invariant-loop-v
invariant-loop-v l =
    (l.self.injected ≡ l.fn.self.injected) × (l.self.advertised ≡ l.fn.self.advertised) × (length l.self.known ≡ 32)
    × ((u : ℕ) → member l.v-iterator u ≡ true → member l.fn.named u ≡ true)
    × Partly (learned (declared_by l.peering.distances) l.fn.self.injected l.fn.self.advertised) l.fn.named l.fn.self.known l.v-iterator l.self.known
