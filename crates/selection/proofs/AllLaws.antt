-- Keeping all shows the laws. Assumes nothing.
use Rattle.sets.proofs.Subsets.{same_from_subsets}
use Rattle.selection.specs.Laws.{Laws}
use Rattle.selection.specs.Stages.{keep_all}

pub all_laws : Laws keep_all
all_laws = record {
  within = λ xs s declared k m. m;
  nonempty = λ xs s declared none. none;
  heritage = λ xs s p declared inside k here kept. here;
  outcast = λ xs s p declared inside holds. same_from_subsets p s inside holds;
}
