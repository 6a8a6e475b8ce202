use Rattle.std.proofs.Common.{◌<◌, length, arith}
use Rattle.std.proofs.lemmas.Bool.Decides.{nat_tests}
use Rattle.distances.specs.Answered.{declared_by}
use Rattle.distances.proofs.HeldCosts.{held_is, held_near}
use Rattle.distances.proofs.distances.Distances.between.Goals as goal

pub returns : goal.returns
returns c =
    let d = c.args.self.now in
    let a = c.args.from in
    let b = c.args.to in
    let lower = c.in_ok-index_of.ensures in
    let higher = c.in_ok-index_of-2.ensures in
    let la : a < length (declared_by d).routers = grind (arith, nat_tests) in
    let lb : b < length (declared_by d).routers = grind (arith, nat_tests) in
    let is = held_is d a b la lb in record { value = grind (arith, nat_tests); near = held_near d a b la lb }
