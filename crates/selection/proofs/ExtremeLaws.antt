-- An extreme over a rule that shows the laws shows them too. Assumes nothing.
use Rattle.std.proofs.Common.{◌≡◌, ℕ, List, ap, inl, inr, arith}
use Rattle.std.proofs.lemmas.Bool.{both_ways, cases_eq}
use Rattle.layout.specs.declared.path.ExitPath.{ExitPath}
use Rattle.sets.specs.Members.{member, Empty, Subset}
use Rattle.sets.proofs.Emptiness.{empty_zero}
use Rattle.sets.proofs.Smallest.{some_member}
use Rattle.sets.proofs.Subsets.{same_from_subsets}
use Rattle.selection.specs.declared.criterion.Criterion.{Criterion}
use Rattle.selection.specs.Laws.{AllDeclared, Keeping, Laws}
use Rattle.selection.specs.Stages.{extremes, keep_extreme}
use Rattle.selection.proofs.DeclaredPart.{all_declared_part}
use Rattle.selection.proofs.Extremes.{extremes_within, extremes_nonempty, extremes_heritage, extremes_inside}

pub extreme_laws : (c : Criterion) {below : Keeping} → Laws below → Laws (keep_extreme c below)
extreme_laws c {below} laws = record {
  within = within;
  nonempty = λ xs s declared none. extremes_nonempty c xs s declared (laws.nonempty xs (extremes c xs s) (picked xs s declared) none);
  heritage = λ xs s p declared inside k here kept.
      let top = laws.within xs (extremes c xs s) (picked xs s declared) k kept in
      laws.heritage xs (extremes c xs s) (extremes c xs p) (picked xs s declared) (extremes_inside c xs s p k inside here top) k
      (extremes_heritage c xs s p inside k here top) kept;
  outcast = outcast;
}
  where
    picked : (xs : List ExitPath) (s : ℕ) → AllDeclared xs s → AllDeclared xs (extremes c xs s)
    picked xs s declared = all_declared_part xs s (extremes c xs s) declared (extremes_within c xs s)

    within : (xs : List ExitPath) (s : ℕ) → AllDeclared xs s → Subset (below xs (extremes c xs s)) s
    within xs s declared k m = extremes_within c xs s k (laws.within xs (extremes c xs s) (picked xs s declared) k m)

    -- p has some extreme of s, unless s is empty
    outcast : (xs : List ExitPath) (s p : ℕ) → AllDeclared xs s → Subset p s → Subset (below xs (extremes c xs s)) p → below xs (extremes c xs p) ≡ below xs (extremes c xs s)
    outcast xs s p declared inside holds =
        let kept = below xs (extremes c xs s) in
        elim (cases_eq kept 0) [
          | inl none ↦
              let empty : Empty s = extremes_nonempty c xs s declared (laws.nonempty xs (extremes c xs s) (picked xs s declared) (empty_zero kept none)) in
              ap (λ (t : ℕ). below xs (extremes c xs t)) (same_from_subsets p s inside (λ k m. absurd (both_ways (member s k) (empty k) m)))
          | inr some ↦
              let e = some_member kept (omega arith) in
              let top = laws.within xs (extremes c xs s) (picked xs s declared) e.0 e.1 in
              laws.outcast xs (extremes c xs s) (extremes c xs p) (picked xs s declared) (extremes_inside c xs s p e.0 inside (holds e.0 e.1) top)
              (λ k m. extremes_heritage c xs s p inside k (holds k m) (laws.within xs (extremes c xs s) (picked xs s declared) k m))
        ]
