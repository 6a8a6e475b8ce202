-- How long the numbers of a line are. Assumes nothing.
use Rattle.std.proofs.Common.{ℕ, ◌*◌, ◌<◌, ◌≤◌, length, arith}
use Rattle.std.proofs.lemmas.Fmt.{length-decimal-le}
use Rattle.std.specs.Fmt.{decimal}
use Rattle.distances.specs.Answered.{declared_by}
use Rattle.distances.specs.declared.distances.Distances.{Distances}
use Rattle.layout.specs.WellFormed.{WellFormed}
use Rattle.layout.proofs.Certain.{known_well_formed}

module _ (d : Distances) where
  well_formed : WellFormed (declared_by d)
  well_formed = known_well_formed (declared_by d) d.table.sound

  pub router_digits : (v : ℕ) → v < length (declared_by d).routers → length (decimal v) ≤ 2
  router_digits v lt =
      let few = well_formed.sound.few_routers in length-decimal-le 2 v (omega arith) (omega (arith, lt, few)) (omega (arith, lt, few))

  pub path_digits : (p : ℕ) → p < length (declared_by d).paths → length (decimal p) ≤ 2
  path_digits p lt =
      let few = well_formed.sound.few_paths in length-decimal-le 2 p (omega arith) (omega (arith, lt, few)) (omega (arith, lt, few))

pub metric_digits : (m : ℕ) → m ≤ 32 * 65535 → length (decimal m) ≤ 7
metric_digits m le = length-decimal-le 7 m (omega arith) (omega (arith, le)) (omega (arith, le))
