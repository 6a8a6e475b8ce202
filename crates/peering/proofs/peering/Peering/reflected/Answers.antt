use Rattle.std.proofs.Common.{rules, ◌≡◌, true, false, arith}
use Rattle.std.proofs.lemmas.Bool.Decides.{nat_tests}
use Rattle.distances.specs.Answered.{declared_by}
use Rattle.protocol.specs.Network.{reflects, together}
use Rattle.peering.proofs.peering.Peering.reflected.Goals as goal

-- to a client of its own cluster
pub returns-then-together : goal.returns-then-together
returns-then-together c p =
    let t = declared_by c.args.self.now.distances in
    let one : reflects t c.args.w ≡ true = search rules in
    let other : reflects t c.args.v ≡ false = search rules in
    let same : together t c.args.w c.args.v ≡ true = search rules in
    grind (arith, nat_tests, c.exits_elsewhere.ensures p, one, other, same)
