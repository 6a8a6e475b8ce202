-- What the laws give of every rule. Assumes nothing.
use Rattle.std.proofs.Common.{ℕ, List}
use Rattle.layout.specs.declared.path.ExitPath.{ExitPath}
use Rattle.sets.proofs.Subsets.{subset_refl}
use Rattle.selection.specs.Laws.{AllDeclared, Keeping, Laws, Steady}

pub steady : {kept : Keeping} → Laws kept → (xs : List ExitPath) (s : ℕ) → AllDeclared xs s → Steady kept xs s
steady {kept} laws xs s declared = record {
  between = λ t holds inside. laws.outcast xs s t declared inside holds;
  again = laws.outcast xs s (kept xs s) declared (laws.within xs s declared) (subset_refl (kept xs s));
}
