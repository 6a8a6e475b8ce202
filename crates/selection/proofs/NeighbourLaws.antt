-- Keeping per neighbour over a rule that shows the laws shows them too. Assumes nothing.
use Rattle.std.proofs.Common.{◌≡◌, ℕ, true, List, sym, refl, ap, ◌∙◌, inl, inr}
use Rattle.std.proofs.lemmas.Bool.{both_ways, cases_Bool}
use Rattle.layout.specs.declared.path.ExitPath.{ExitPath}
use Rattle.sets.specs.Members.{member, Empty, Subset}
use Rattle.sets.proofs.Subsets.{same_from_subsets}
use Rattle.selection.specs.Laws.{AllDeclared, Keeping, Laws}
use Rattle.selection.specs.Stages.{through, keep_per_neighbour}
use Rattle.selection.proofs.DeclaredPart.{all_declared_part}
use Rattle.selection.proofs.Neighbours.{neighbour, through_in, through_from, through_mono, through_declared, neighbour_has, neighbour_from}

pub per_neighbour_laws : {below : Keeping} → Laws below → Laws (keep_per_neighbour below)
per_neighbour_laws {below} laws = record {
  within = λ xs s declared k m. (neighbour_from laws xs s declared k m).0.1;
  nonempty = nonempty;
  heritage = heritage;
  outcast = outcast;
}
  where
    nonempty : (xs : List ExitPath) (s : ℕ) → AllDeclared xs s → Empty (keep_per_neighbour below xs s) → Empty s
    nonempty xs s declared none k =
        elim (cases_Bool (member s k)) [
          | inr o ↦ o
          | inl y ↦
              let a = neighbour xs k in
              let nobody : Empty (below xs (through xs s a)) = λ q.
              elim (cases_Bool (member (below xs (through xs s a)) q)) [
                | inr o ↦ o
                | inl m ↦ absurd (both_ways (member (keep_per_neighbour below xs s) q) (none q) (neighbour_has laws xs s declared a q m))
              ] in
              absurd (both_ways (member (through xs s a) k) (laws.nonempty xs (through xs s a) (through_declared laws xs s declared a) nobody k) (through_in xs s a k (declared k y, y) refl))
        ]

    heritage : (xs : List ExitPath) (s p : ℕ) → AllDeclared xs s → Subset p s → (k : ℕ) → member p k ≡ true → member (keep_per_neighbour below xs s) k ≡ true → member (keep_per_neighbour below xs p) k ≡ true
    heritage xs s p declared inside k here m =
        let a = neighbour xs k in
        let from = neighbour_from laws xs s declared k m in
        neighbour_has laws xs p (all_declared_part xs s p declared inside) a k
        (laws.heritage xs (through xs s a) (through xs p a) (through_declared laws xs s declared a) (through_mono xs s p a inside) k (through_in xs p a k (from.0.0, here) refl) from.1)

    outcast : (xs : List ExitPath) (s p : ℕ) → AllDeclared xs s → Subset p s → Subset (keep_per_neighbour below xs s) p → keep_per_neighbour below xs p ≡ keep_per_neighbour below xs s
    outcast xs s p declared inside holds =
        same_from_subsets (keep_per_neighbour below xs p) (keep_per_neighbour below xs s)
        (λ k m. neighbour_has laws xs s declared (neighbour xs k) k (ap (λ (w : ℕ). member w k) (sym (alike (neighbour xs k))) ∙ (neighbour_from laws xs p all k m).1))
        (λ k m. neighbour_has laws xs p all (neighbour xs k) k (ap (λ (w : ℕ). member w k) (alike (neighbour xs k)) ∙ (neighbour_from laws xs s declared k m).1))
      where
        all : AllDeclared xs p
        all = all_declared_part xs s p declared inside

        -- each neighbour's part of p holds all that is kept of its part of s
        alike : (a : ℕ) → below xs (through xs p a) ≡ below xs (through xs s a)
        alike a =
            laws.outcast xs (through xs s a) (through xs p a) (through_declared laws xs s declared a) (through_mono xs s p a inside)
            (λ k m.
            let from = through_from xs s a k (laws.within xs (through xs s a) (through_declared laws xs s declared a) k m) in
            through_in xs p a k (from.0.0, holds k (neighbour_has laws xs s declared a k m)) from.1)
