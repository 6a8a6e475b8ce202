use Rattle.std.proofs.Common.{arith}
use Rattle.std.proofs.lemmas.Grind.{common_steps}
use Rattle.listing.proofs.Digits.{router_digits}
use Rattle.listing.proofs.lines.add_line.Goals as goal

pub add_choice-requires-clause-room : goal.add_choice-requires-clause-room
add_choice-requires-clause-room c = grind (arith, common_steps, router_digits c.args.distances.now)

pub push-requires-3 : goal.push-requires-3
push-requires-3 c = grind (arith, common_steps, router_digits c.args.distances.now)

pub returns-clause-short : goal.returns-clause-short
returns-clause-short c = grind (arith, common_steps, router_digits c.args.distances.now)
