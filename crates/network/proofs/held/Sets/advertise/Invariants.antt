use Rattle.std.proofs.Common.{◌≡◌, ℕ, true, length}
use Rattle.selection.specs.Laws.{declared_of}
use Rattle.sets.specs.Members.{member}
use Rattle.protocol.specs.Network.{set_of}
use Rattle.network.proofs.Activating.{Partly}
use Rattle.network.proofs.held.Sets.advertise.Given as goal

-- the routers that came advertise what the rule keeps of what they know, the others what they did
abbrev pub invariant-loop-v : goal.invariant-loop-v
invariant-loop-v g l =
    (l.self.injected ≡ l.fn.self.injected) × (l.self.known ≡ l.fn.self.known) × (length l.self.advertised ≡ 32)
    × ((u : ℕ) → member l.v-iterator u ≡ true → member l.fn.named u ≡ true)
    × Partly (λ u. g.R.Rule.kept l.rule l.paths (declared_of l.paths (set_of l.fn.self.known u))) l.fn.named l.fn.self.advertised l.v-iterator l.self.advertised
