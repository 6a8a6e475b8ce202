use Rattle.std.proofs.Common.{◌≡◌, ◌*◌, ◌%◌, ◌^◌, ◌<◌, Bool, ◌&&◌, ◌||◌, eqb, ltb, ap, ◌∙◌, arith}
use lib.Bits.{or_lt}
use lib.Pow.{pow-lt}
use Rattle.std.proofs.lemmas.Nat.{one_shl}
use Rattle.std.proofs.lemmas.Bool.Decides.{nat_tests}
use Rattle.sets.specs.Members.{member, width_of}
use Rattle.sets.proofs.Shifted.{member_with_shl}
use Rattle.sets.proofs.bit_set.BitSet.with.Goals as goal

pub invariant_of-t-5 : goal.invariant_of-t-5
invariant_of-t-5 g c =
    let one : 1 * 2 ^ c.args.n % 2 ^ 64 < 2 ^ width_of g.row.WIDTH = rw (one_shl c.args.n 64 (omega arith)) (pow-lt (omega arith)) in
    or_lt (width_of g.row.WIDTH) c.self.inside.0 (1 * 2 ^ c.args.n % 2 ^ 64) c.self.invariant one

pub returns-then-n-min-clause-members : goal.returns-then-n-min-clause-members
returns-then-n-min-clause-members g c k =
    let inside : eqb k c.args.n ≡ (eqb k c.args.n && ltb k (width_of g.row.WIDTH)) = grind (arith, nat_tests) in
    rw (← c.self.view_is)
    (member_with_shl 64 c.self.inside.0 c.args.n k (omega arith) ∙ ap (λ (t : Bool). member c.self.inside.0 k || t) inside)
