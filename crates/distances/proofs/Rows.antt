-- The costs in the rows of an array as a link lowers them. Assumes nothing.
use Rattle.std.proofs.Common.{◌≡◌, ℕ, cond, ◌&&◌, eqb, List, [], get_or, min, set, arith}
use Rattle.std.proofs.lemmas.Grind.{common_steps}
use Rattle.std.proofs.lemmas.Bool.Decides.{nat_tests}
use Rattle.layout.specs.declared.link.Link.{Link}
use Rattle.costs.specs.Cost.{plain, lesser}
use Rattle.costs.specs.Least.{joins}
use Rattle.distances.specs.Held.{cost_at}

-- the cost from p to q written as x
abbrev pub written : List (List ℕ) → ℕ → ℕ → ℕ → List (List ℕ)
written costs p q x = set costs p (set (get_or costs p []) q x)

-- the cost from p to q lowered to m
pub lowered : (costs : List (List ℕ)) (p q m x : ℕ) → x ≡ min (cost_at costs p q) m → (a b : ℕ) → cost_at (written costs p q x) a b ≡ cond (eqb p a && eqb q b) (lesser plain (cost_at costs a b) m) (cost_at costs a b)
lowered costs p q m x is a b = grind (arith, common_steps, nat_tests)

-- both costs between the ends of a link lowered to its metric
pub lowered_both : (costs : List (List ℕ)) (l : Link) (x y : ℕ) → x ≡ min (cost_at costs l.ends.a l.ends.b) l.metric → y ≡ min (cost_at (written costs l.ends.a l.ends.b x) l.ends.b l.ends.a) l.metric → (a b : ℕ) → cost_at (written (written costs l.ends.a l.ends.b x) l.ends.b l.ends.a y) a b ≡ cond (joins l a b) (lesser plain (cost_at costs a b) l.metric) (cost_at costs a b)
lowered_both costs l x y x_is y_is a b =
    let once = lowered costs l.ends.a l.ends.b l.metric x x_is a b in
    let twice = lowered (written costs l.ends.a l.ends.b x) l.ends.b l.ends.a l.metric y y_is a b in grind (arith, nat_tests)
