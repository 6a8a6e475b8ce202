use Rattle.std.proofs.Common.{arith}
use Rattle.std.proofs.lemmas.Grind.{common_steps}
use Rattle.listing.proofs.Digits.{metric_digits, path_digits}
use Rattle.listing.proofs.lines.add_choice.Goals as goal

pub push_str-requires-3 : goal.push_str-requires-3
push_str-requires-3 c = grind (arith, common_steps, path_digits c.args.distances.now, metric_digits)

pub returns-clause-short : goal.returns-clause-short
returns-clause-short c = grind (arith, common_steps, path_digits c.args.distances.now, metric_digits)
