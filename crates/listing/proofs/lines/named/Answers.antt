use Rattle.std.proofs.Common.{arith, add-one}
use Rattle.std.proofs.lemmas.Grind.{common_steps}
use Rattle.listing.specs.Listing.{named_by}
use Rattle.listing.proofs.lines.named.Goals as goal

pub loop-router-init : goal.loop-router-init
unfolding named_by
loop-router-init c = grind (arith, common_steps)

pub loop-router-preserved : goal.loop-router-preserved
unfolding named_by
loop-router-preserved c = rw add-one (grind (arith, common_steps))
