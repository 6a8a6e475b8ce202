use Rattle.std.proofs.Common.{◌≡◌, ◌&&◌, ltb, ◌∙◌, arith, pow_mono, pow_pos}
use Rattle.std.proofs.lemmas.Nat.{one_shl}
use Rattle.std.proofs.lemmas.Bool.Decides.{nat_tests}
use Rattle.sets.specs.Members.{width_of}
use Rattle.sets.proofs.Operations.{member_first}
use Rattle.sets.proofs.Shifted.{member_first_shl}
use Rattle.sets.proofs.bit_set.BitSet.first.Goals as goal

pub invariant_of-t-4 : goal.invariant_of-t-4
invariant_of-t-4 g c = omega (arith, pow_pos c.min-count.result, one_shl c.min-count.result 64 c.if-count-lt-BITS.true, pow_mono {i = c.min-count.result} {j = width_of g.row.WIDTH} (omega arith))

pub returns-then-count-lt-BITS-clause-members : goal.returns-then-count-lt-BITS-clause-members
returns-then-count-lt-BITS-clause-members g c k =
    let below : ltb k c.min-count.result ≡ (ltb k c.args.n && ltb k (width_of g.row.WIDTH)) = grind (arith, nat_tests) in
    member_first_shl 64 c.min-count.result k c.if-count-lt-BITS.true ∙ below

pub returns-else-count-lt-BITS-clause-members : goal.returns-else-count-lt-BITS-clause-members
returns-else-count-lt-BITS-clause-members g c k =
    let below : ltb k 64 ≡ (ltb k c.args.n && ltb k (width_of g.row.WIDTH)) = grind (arith, nat_tests) in
    member_first 64 k ∙ below
