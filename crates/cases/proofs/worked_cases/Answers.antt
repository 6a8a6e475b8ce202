use Rattle.std.specs.Prelude.{◌≡◌, true, false, List, length, Ok, Err, Result}
use Rattle.std.proofs.Common.{refl, arith}
use Rattle.std.proofs.lemmas.Bool.{both_ways}
use Rattle.std.proofs.lemmas.List.Elements.{All-from_recursion}
use Rattle.costs.specs.Least.{by_links, over}
use Rattle.faults.specs.declared.load.LoadFault.{LoadFault}
use Rattle.layout.specs.Reading.{table_in}
use Rattle.layout.specs.Table.{Declared}
use Rattle.layout.specs.declared.path.ExitPath.{ExitPath}
use Rattle.packets.specs.Best.{best_below}
use Rattle.packets.specs.Ways.{course}
use Rattle.protocol.specs.Moves.{for_each, after_all, all_of}
use Rattle.selection.specs.Laws.{AllDeclared, Heritage, Keeping, Laws}
use Rattle.selection.specs.Stages.{joined, some, those}
use Rattle.sets.specs.Members.{member}
use Rattle.sets.proofs.Digits.{member_below}
use Rattle.sets.proofs.Subsets.{subset_or_left}
use Rattle.cases.specs.Worked.{Holds, worked, OfWorked, keep_best, worked_table}
use Rattle.cases.proofs.worked_cases.Goals as goal

-- of three paths, path 2 is kept of all and not of the first and itself: that is against heritage
heritage_broken : (kept : Keeping) (xs : List ExitPath) → length xs ≡ 3 → member (kept xs 7) 2 ≡ true → member (kept xs 5) 2 ≡ false → Heritage kept → ⊥
unfolding member
heritage_broken kept xs three held lost heritage =
    let declared : AllDeclared xs 7 = λ p m. omega (arith, three, member_below 3 7 p (omega arith) m) in
    both_ways (member (kept xs 5) 2) lost (heritage xs 7 5 declared (subset_or_left 5 2) 2 refl held)

-- the same of what is kept of a table's paths
broken : (kept : Declared → Keeping) (r : Result Declared LoadFault) → OfWorked (λ t. (length t.paths ≡ 3) × (member (kept t t.paths 7) 2 ≡ true) × (member (kept t t.paths 5) 2 ≡ false)) r → OfWorked (λ t. (Heritage (kept t) → ⊥) × (Laws (kept t) → ⊥)) r
broken kept (Ok t) h =
    let no = heritage_broken (kept t) t.paths h.0 h.1 h.2 in (no, λ laws. no laws.heritage)
broken kept (Err fault) h = h

pub returns : goal.returns
unfolding member joined some those by_links over best_below course for_each after_all all_of
returns c =
    let no_rule = broken (keep_best 1) (table_in worked_table) (refl, refl, refl) in
    record { hold = All-from_recursion Holds worked (refl, (refl, (refl, (refl, (refl, (refl, (refl, (refl, (refl, ((refl, refl), (refl, (refl, ((refl, refl), (refl, (refl, (refl, (no_rule, (refl, (refl, (refl, (refl, (refl, (refl, (refl, (refl, (refl, tt)))))))))))))))))))))))))); count = refl }
