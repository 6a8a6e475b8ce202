-- The best paths of a set are found in one pass. Assumes nothing.
use Rattle.std.proofs.Common.{◌≡◌, ℕ, ◌^◌, ◌<◌, ◌≤◌, true, ltb, List, sym, refl, ap, ◌∙◌, subst, inl, inr, arith}
use Rattle.std.proofs.lemmas.Bool.{ltb-false, le-ltb}
use Rattle.std.proofs.lemmas.Bool.Decides.{nat_tests}
use Rattle.layout.specs.Table.{path_at}
use Rattle.layout.specs.declared.path.ExitPath.{ExitPath}
use Rattle.sets.specs.Members.{member, Empty, Subset}
use Rattle.sets.proofs.Subsets.{same_from_subsets}
use Rattle.selection.specs.declared.criterion.Criterion.{Criterion}
use Rattle.selection.specs.declared.criterion.Criterion.TheVariants.{HighestPreference, ShortestAsPath, LowestMed}
use Rattle.selection.specs.Laws.{AllDeclared}
use Rattle.selection.specs.Ranks.{compared, rank}
use Rattle.selection.specs.Stages.{better, extremes}
use Rattle.selection.proofs.Extremes.{extremes_from, extremes_in}
use Rattle.selection.proofs.Taking.{Seen, Taken, taken_cases, taken_out, taken_still, taken_within}

abbrev ranked : Criterion → List ExitPath → ℕ → ℕ
ranked c xs j = rank c (path_at xs j)

abbrev Narrow : Criterion → List ExitPath → ℕ → Type 0
Narrow c xs j = compared c (path_at xs j) < 2 ^ 32

-- of the numbers of s that are no longer in rest, `picked` has those of the lowest rank
pub record Picking (c : Criterion) (xs : List ExitPath) (s rest picked lowest : ℕ) : Type 0 where
  pub part : Subset rest s
  pub narrow : (j : ℕ) → Seen s rest j → Narrow c xs j
  -- the lowest rank is a bound below, and no other is higher
  pub low : (j : ℕ) → Seen s rest j → lowest ≤ ranked c xs j
  pub high : (m : ℕ) → m < 2 ^ 32 → ((j : ℕ) → Seen s rest j → m ≤ ranked c xs j) → m ≤ lowest
  pub from : (j : ℕ) → member picked j ≡ true → Seen s rest j × (ranked c xs j ≡ lowest)
  pub all : (j : ℕ) → Seen s rest j → ranked c xs j ≡ lowest → member picked j ≡ true

module _ (c : Criterion) (xs : List ExitPath) (s rest picked lowest p rank_p r : ℕ) (so : Picking c xs s rest picked lowest) (fits : Narrow c xs p) (ranks : rank_p ≡ ranked c xs p) (held : member rest p ≡ true) (taken : Taken rest p r) where
  new : Seen s r p
  new = (so.part p held, taken_out rest p r taken)

  part : Subset r s
  part k m = so.part k (taken_within rest p r taken k m)

  narrow : (j : ℕ) → Seen s r j → Narrow c xs j
  narrow j seen = elim (taken_cases s rest p r j taken seen) [ inl e ↦ subst (Narrow c xs) (sym e) fits | inr old ↦ so.narrow j old ]

  -- p is worse
  pub picking_worse : lowest < rank_p → Picking c xs s r picked lowest
  picking_worse more = record {
    part = part;
    narrow = narrow;
    low = λ j seen. elim (taken_cases s rest p r j taken seen) [ inl e ↦ omega (arith, ap (ranked c xs) e) | inr old ↦ so.low j old ];
    high = λ m l least. so.high m l (λ j seen. least j (taken_still s rest p r j taken seen));
    from = λ j m. (taken_still s rest p r j taken (so.from j m).0, (so.from j m).1);
    all = λ j seen same. elim (taken_cases s rest p r j taken seen) [
      | inl e ↦ absurd (omega (arith, ap (ranked c xs) e, same))
      | inr old ↦ so.all j old same
    ];
  }

rank_narrow : (c : Criterion) (x : ExitPath) → compared c x < 2 ^ 32 → rank c x < 2 ^ 32
rank_narrow HighestPreference x narrow = omega arith
rank_narrow ShortestAsPath x narrow = narrow
rank_narrow LowestMed x narrow = narrow

better_rank : (c : Criterion) (x y : ExitPath) → compared c x < 2 ^ 32 → compared c y < 2 ^ 32 → better c x y ≡ ltb (rank c x) (rank c y)
better_rank HighestPreference x y nx ny = grind (arith, nat_tests)
better_rank ShortestAsPath x y nx ny = refl
better_rank LowestMed x y nx ny = refl

pub picking_ends : (c : Criterion) (xs : List ExitPath) (s rest picked lowest : ℕ) → AllDeclared xs s → Picking c xs s rest picked lowest → Empty rest → picked ≡ extremes c xs s
picking_ends c xs s rest picked lowest declared so none =
    same_from_subsets picked (extremes c xs s)
    (λ j m.
    let from = so.from j m in
    extremes_in c xs s j (declared j from.0.0, from.0.0)
    (λ q l y. by_rank q j y from.0.0 ∙ le-ltb (ranked c xs q) (ranked c xs j) (omega (arith, so.low q (y, none q), from.1))))
    (λ j m.
    let from = extremes_from c xs s j m in
    let here = from.0.1 in
    let top =
    so.high (ranked c xs j) (rank_narrow c (path_at xs j) (so.narrow j (here, none j)))
    (λ q old. ltb-false (ranked c xs q) (ranked c xs j) (sym (by_rank q j old.0 here) ∙ from.1 q (declared q old.0) old.0)) in
    so.all j (here, none j) (omega (arith, top, so.low j (here, none j))))
  where
    by_rank : (q j : ℕ) → member s q ≡ true → member s j ≡ true → better c (path_at xs q) (path_at xs j) ≡ ltb (ranked c xs q) (ranked c xs j)
    by_rank q j y m = better_rank c (path_at xs q) (path_at xs j) (so.narrow q (y, none q)) (so.narrow j (m, none j))
