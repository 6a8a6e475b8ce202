use Rattle.std.proofs.Common.{◌≡◌, ℕ, ◌<◌, false, Option, MatchOption, subst, arith}
use Rattle.std.proofs.lemmas.Bool.Decides.{nat_tests}
use Rattle.sets.specs.Members.{member, width_of, Empty, Least}
use Rattle.sets.proofs.LeastFrom.{least_is}
use Rattle.sets.proofs.bit_set.BitSet.least_from.Goals as goal

pub returns-clause-value : goal.returns-clause-value
returns-clause-value g c =
    least_is (width_of g.row.WIDTH) c.args.self c.args.n c.difference.result
    (λ k lt. grind (arith, nat_tests, c.difference.ensures.members k, c.first.ensures.members k, lt)) c.least.result c.least.ensures

pub returns-clause-below : goal.returns-clause-below
returns-clause-below g c none k m =
    let gone : member c.difference.result k ≡ false = subst (λ (o : Option ℕ). MatchOption o (Empty c.difference.result) (λ n. Least c.difference.result n × (n < width_of g.row.WIDTH))) none c.least.ensures k in
    grind (arith, nat_tests, m, gone, c.difference.ensures.members k, c.first.ensures.members k)
