use Rattle.std.proofs.Common.{◌≡◌}
use Rattle.listing.specs.Listing.{named_by}
use Rattle.listing.proofs.lines.named.Given as goal

-- the paths of the routers before this one
abbrev pub invariant-loop-router : goal.invariant-loop-router
invariant-loop-router l = l.named ≡ named_by l.advertised l.router
