-- The plain metric keeps the laws of a cost. Assumes nothing.
use Rattle.std.proofs.Common.{arith}
use Rattle.std.proofs.lemmas.Bool.Decides.{nat_tests}
use Rattle.costs.specs.Cost.{CostLaws, plain}

pub plain_laws : CostLaws plain
plain_laws = record {
  total = λ a b. grind (arith, nat_tests);
  no_tie = λ a b h g. grind (arith, nat_tests);
  transitive = λ a b c h g. grind (arith, nat_tests);
  zero_fits = grind (arith, nat_tests);
  unreached_fits = grind (arith, nat_tests);
  link_fits = λ l h. grind (arith, nat_tests);
  exit_fits = λ x h. grind (arith, nat_tests);
  join_fits = λ a b h g. grind (arith, nat_tests);
  join_assoc = λ a b c f g h. grind (arith, nat_tests);
  zero_join = λ a f. grind (arith, nat_tests);
  join_zero = λ a f. grind (arith, nat_tests);
  join_first = λ a b f g. grind (arith, nat_tests);
  join_last = λ a b f g. grind (arith, nat_tests);
  join_before = λ a b c f g h l. grind (arith, nat_tests);
  join_behind = λ a b c f g h l. grind (arith, nat_tests);
  largest = λ a f. grind (arith, nat_tests);
  unreached_join = λ a f. grind (arith, nat_tests);
  join_unreached = λ a f. grind (arith, nat_tests);
  farther = λ l a m s f h. grind (arith, nat_tests);
}
