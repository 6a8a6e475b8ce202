use Rattle.std.proofs.Common.{rules}
use Rattle.sets.proofs.Counting.{fewer_without}
use Rattle.sets.proofs.bit_set.IterIterator.next.Goals as goal

pub returns-clause-goes : goal.returns-clause-goes
returns-clause-goes g c = search (rules, fewer_without)
