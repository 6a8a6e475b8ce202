use Rattle.std.proofs.Common.{◌≡◌, ◌<◌, length, ap, arith}
use Rattle.std.proofs.lemmas.Bool.Decides.{nat_tests}
use Rattle.distances.specs.Answered.{declared_by, distances_from}
use Rattle.distances.proofs.HeldCosts.{row_is, row_near}
use Rattle.distances.proofs.distances.Distances.row.Goals as goal

pub returns : goal.returns
returns c =
    let d = c.args.self.now in
    let t = declared_by d in
    let v = c.in_ok-v.v in
    let told = c.in_ok-v.ensures in
    let index : v ≡ c.args.router = grind (arith, nat_tests) in
    let lv : v < length t.routers = grind (arith, nat_tests) in
    let all = ap length c.routers.ensures.value in
    let front = c.front.ensures in
    let row = row_is d v _ lv _ front.value front.whole all in
    let same = ap (distances_from t) index in record {
      value = grind (arith, nat_tests);
      near = row_near d v _ lv _ front.value front.whole all;
    }
