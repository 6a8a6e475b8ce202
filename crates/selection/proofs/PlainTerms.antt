-- The five-stage and the compare-always rule in the terms of an operator. Assumes nothing.
use Rattle.std.proofs.Common.{◌≡◌, ℕ, ◌≤◌, true, List, Decides, sym, refl, ◌∙◌, arith}
use Rattle.std.proofs.lemmas.Bool.{ltb-false, le-ltb}
use Rattle.layout.specs.Table.{path_at}
use Rattle.layout.specs.declared.path.ExitPath.{ExitPath}
use Rattle.sets.specs.Members.{member}
use Rattle.selection.specs.declared.criterion.Criterion.TheVariants.{HighestPreference, ShortestAsPath, LowestMed}
use Rattle.selection.specs.Laws.{AllDeclared, Laws, Offered, declared_of}
use Rattle.selection.specs.Plain.{AsPreferred, AsShort, CompareAlwaysKeeps, FiveStageKeeps, Shortest}
use Rattle.selection.specs.Stages.{extremes, through, keep_all, keep_compare_always, keep_extreme, keep_five_stage}
use Rattle.selection.proofs.AllLaws.{all_laws}
use Rattle.selection.proofs.DeclaredPart.{declared_from, declared_in}
use Rattle.selection.proofs.ExtremeLaws.{extreme_laws}
use Rattle.selection.proofs.Extremes.{extremes_from, extremes_in}
use Rattle.selection.proofs.Neighbours.{neighbour, neighbour_from, neighbour_has, through_from, through_in}

module _ (xs : List ExitPath) (s : ℕ) where
  abbrev pref : ℕ → ℕ
  pref p = (path_at xs p).local_pref

  abbrev len : ℕ → ℕ
  len p = (path_at xs p).as_path_len

  abbrev med_of : ℕ → ℕ
  med_of p = (path_at xs p).med

  -- the declared paths of s of the highest preference, and the shortest of these
  abbrev preferred : ℕ
  preferred = extremes HighestPreference xs (declared_of xs s)

  abbrev shortest : ℕ
  shortest = extremes ShortestAsPath xs preferred

  abbrev Preferred : ℕ → Type 0
  Preferred p = (q : ℕ) → Offered xs s q → pref q ≤ pref p

  preferred_from : (p : ℕ) → member preferred p ≡ true → Offered xs s p × Preferred p
  preferred_from p m =
      let from = extremes_from HighestPreference xs (declared_of xs s) p m in
      (declared_from xs s p from.0.1, λ q o. ltb-false (pref p) (pref q) (from.1 q o.0 (declared_in xs s q o)))

  preferred_in : (p : ℕ) → Offered xs s p → Preferred p → member preferred p ≡ true
  preferred_in p o best =
      extremes_in HighestPreference xs (declared_of xs s) p (o.0, declared_in xs s p o) (λ q l y. le-ltb (pref p) (pref q) (best q (declared_from xs s q y)))

  -- of the preference of one of them
  preferred_tie : (p q : ℕ) → member preferred p ≡ true → AsPreferred xs s p q → member preferred q ≡ true
  preferred_tie p q m o =
      let from = preferred_from p m in
      preferred_in q o.0 (λ r offered. omega (arith, from.1 r offered, o.1))

  shortest_from : (p : ℕ) → member shortest p ≡ true → Shortest xs s p
  shortest_from p m =
      let from = extremes_from ShortestAsPath xs preferred p m in
      let best = preferred_from p from.0.1 in
      record {
        offered = best.0;
        preferred = best.1;
        short = λ q o. ltb-false (len q) (len p) (from.1 q o.0.0 (preferred_tie p q from.0.1 o));
      }

  shortest_in : (p : ℕ) → Shortest xs s p → member shortest p ≡ true
  shortest_in p so =
      extremes_in ShortestAsPath xs preferred p (so.offered.0, preferred_in p so.offered so.preferred)
      (λ q l y.
      let from = preferred_from q y in
      le-ltb (len q) (len p) (so.short q (from.0, omega (arith, so.preferred q from.0, from.1 p so.offered))))

  shortest_tie : (p q : ℕ) → member shortest p ≡ true → AsShort xs s p q → member shortest q ≡ true
  shortest_tie p q m o =
      let from = shortest_from p m in
      shortest_in q
      (record {
        offered = o.0.0;
        preferred = λ r offered. omega (arith, from.preferred r offered, o.0.1);
        short = λ r offered. omega (arith, from.short r (offered.0, offered.1 ∙ o.0.1), o.1);
      })

  -- all of them are alike
  shortest_alike : (p q : ℕ) → member shortest p ≡ true → member shortest q ≡ true → AsShort xs s p q
  shortest_alike p q m n =
      let one = shortest_from p m in
      let other = shortest_from q n in
      let pref_same : pref q ≡ pref p = omega (arith, one.preferred q other.offered, other.preferred p one.offered) in
      ((other.offered, pref_same), omega (arith, one.short q (other.offered, pref_same), other.short p (one.offered, sym pref_same)))

  all_shortest : AllDeclared xs shortest
  all_shortest p m = (shortest_from p m).offered.0

  pub compare_always_plain : (p : ℕ) → Decides (member (keep_compare_always xs (declared_of xs s)) p) (CompareAlwaysKeeps xs s p)
  compare_always_plain p = (
    λ m.
        let from = extremes_from LowestMed xs shortest p m in
        record {
          shortest = shortest_from p from.0.1;
          lowest = λ q o. ltb-false (med_of q) (med_of p) (from.1 q o.0.0.0 (shortest_tie p q from.0.1 o));
        },
    λ keeps.
        let here = shortest_in p keeps.shortest in
        extremes_in LowestMed xs shortest p (keeps.shortest.offered.0, here)
        (λ q l y. le-ltb (med_of q) (med_of p) (keeps.lowest q (shortest_alike p q here y))),
  )

  med_laws : Laws (keep_extreme LowestMed keep_all)
  med_laws = extreme_laws LowestMed all_laws

  pub five_stage_plain : (p : ℕ) → Decides (member (keep_five_stage xs (declared_of xs s)) p) (FiveStageKeeps xs s p)
  five_stage_plain p =
      let a = neighbour xs p in (
        λ m.
            let own = neighbour_from med_laws xs shortest all_shortest p m in
            let from = extremes_from LowestMed xs (through xs shortest a) p own.1 in
            record {
              shortest = shortest_from p own.0.1;
              lowest = λ q o same.
                  ltb-false (med_of q) (med_of p) (from.1 q o.0.0.0 (through_in xs shortest a q (o.0.0.0, shortest_tie p q own.0.1 o) same));
            },
        λ keeps.
            let here = shortest_in p keeps.shortest in
            let declared = keeps.shortest.offered.0 in
            neighbour_has med_laws xs shortest all_shortest a p
            (extremes_in LowestMed xs (through xs shortest a) p (declared, through_in xs shortest a p (declared, here) refl)
            (λ q l y.
            let from = through_from xs shortest a q y in
            le-ltb (med_of q) (med_of p) (keeps.lowest q (shortest_alike p q here from.0.1) from.1))),
      )
