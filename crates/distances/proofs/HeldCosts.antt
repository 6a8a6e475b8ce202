-- The costs that are held are the distances of the table. Assumes nothing.
use Rattle.std.proofs.Common.{◌≡◌, ℕ, ◌*◌, ◌<◌, ◌≤◌, List, [], length, get_or, take, All, sym, ap, ◌∙◌, subst, arith}
use mathlib.Core.HLevel.{hedberg}
use mathlib.Core.Logic.{∥∥₁_elim}
use native.Mathlib.Decide.{ℕ_discrete}
use Rattle.std.proofs.lemmas.List.{get_or-take}
use Rattle.std.proofs.lemmas.List.FromFn.{fill_by_all}
use Rattle.std.proofs.lemmas.List.Elements.{All-from_get_or}
use Rattle.layout.specs.Table.{Declared}
use Rattle.layout.specs.WellFormed.{WellFormed}
use Rattle.layout.proofs.Certain.{known_well_formed}
use Rattle.costs.specs.Cost.{plain}
use Rattle.costs.specs.Least.{distance}
use Rattle.costs.specs.Walks.{Distance}
use Rattle.costs.proofs.Distances.{distance_unique}
use Rattle.costs.proofs.Near.{plain_distance, plain_near}
use Rattle.costs.proofs.Plain.{plain_laws}
use Rattle.distances.specs.Held.{cost_at, Costs, Held}
use Rattle.distances.specs.Answered.{declared_by, distances_from}
use Rattle.distances.specs.declared.distances.Distances.{Distances}

-- costs that are the distances by their definition are held
pub held_from : (t : Declared) (costs : List (List ℕ)) → ∥ WellFormed t ∥₁ → Costs (length t.routers) (distance plain t) costs → Held t costs
held_from t costs sound is a b la lb = subst (Distance plain t.links a b) (sym (is a b la lb)) (plain_distance t (known_well_formed t sound) a b la lb)

module _ (d : Distances) where
  abbrev t : Declared
  t = declared_by d

  abbrev n : ℕ
  n = length t.routers

  w : WellFormed t
  w = known_well_formed t d.table.sound

  -- a distance, and it is near
  pub held_is : (a b : ℕ) → a < n → b < n → cost_at d.costs a b ≡ distance plain t a b
  held_is a b la lb =
      ∥∥₁_elim d.least (hedberg ℕ_discrete _ _) (λ held. distance_unique plain_laws (held a b la lb) (plain_distance t w a b la lb))

  pub held_near : (a b : ℕ) → a < n → b < n → cost_at d.costs a b ≤ 31 * 65535
  held_near a b la lb = omega (arith, held_is a b la lb, plain_near t w a b la lb)

  -- a row of distances, and they are near
  module _ (v m : ℕ) (lv : v < n) (row : List ℕ) (is : row ≡ take m (get_or d.costs v [])) (long : length row ≡ m) (all : m ≡ n) where
    row_long : length row ≡ n
    row_long = long ∙ all

    row_at : (b : ℕ) → b < n → get_or row b 0 ≡ cost_at d.costs v b
    row_at b lb = ap (λ xs. get_or xs b 0) is ∙ get_or-take m (get_or d.costs v []) b 0 (omega (arith, all))

    pub row_is : row ≡ distances_from t v
    row_is = fill_by_all (distance plain t v) row n 0 row_long (λ b lb. row_at b lb ∙ held_is v b lv lb)

    pub row_near : All (λ e. e ≤ 31 * 65535) row
    row_near =
        All-from_get_or (λ e. e ≤ 31 * 65535) row 0
        (λ b lb. let lt : b < n = omega (arith, row_long) in omega (arith, row_at b lt, held_near v b lv lt))
