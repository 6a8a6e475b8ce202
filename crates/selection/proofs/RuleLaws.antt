-- The five-stage and the compare-always rule show the laws. Assumes nothing.
use Rattle.selection.specs.declared.criterion.Criterion.TheVariants.{HighestPreference, ShortestAsPath, LowestMed}
use Rattle.selection.specs.Laws.{Laws}
use Rattle.selection.specs.Stages.{keep_compare_always, keep_five_stage}
use Rattle.selection.proofs.AllLaws.{all_laws}
use Rattle.selection.proofs.ExtremeLaws.{extreme_laws}
use Rattle.selection.proofs.NeighbourLaws.{per_neighbour_laws}

pub five_stage_laws : Laws keep_five_stage
five_stage_laws = extreme_laws HighestPreference (extreme_laws ShortestAsPath (per_neighbour_laws (extreme_laws LowestMed all_laws)))

pub compare_always_laws : Laws keep_compare_always
compare_always_laws = extreme_laws HighestPreference (extreme_laws ShortestAsPath (extreme_laws LowestMed all_laws))
