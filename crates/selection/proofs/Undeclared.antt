-- The lowest path of a set that is not declared, in plain terms. Assumes nothing.
use Rattle.std.proofs.Common.{◌≡◌, ℕ, ◌<◌, ◌^◌, List, length, Some, None, Option, refl, subst, arith}
use Rattle.std.proofs.lemmas.Bool.Decides.{nat_tests}
use Rattle.layout.specs.Promise.{Lowest}
use Rattle.layout.specs.declared.path.ExitPath.{ExitPath}
use Rattle.selection.specs.Laws.{AllDeclared}
use Rattle.selection.specs.Undeclared.{Undeclared, lowest_undeclared}
use Rattle.sets.proofs.Digits.{member_below}
use Rattle.sets.proofs.LeastFrom.{LeastFrom, least_from_is}

module _ (xs : List ExitPath) (s : ℕ) where
  abbrev pub LowestIs : Option ℕ → Type 0
  LowestIs None = AllDeclared xs s
  LowestIs (Some p) = Lowest (Undeclared xs s) p

  pub plain_undeclared : s < 2 ^ 64 → (o : Option ℕ) → LeastFrom 64 s (length xs) o → LowestIs o
  plain_undeclared word None h = λ p in_s. grind (arith, nat_tests, in_s, member_below 64 s p word in_s, h p)
  plain_undeclared word (Some p) h = (grind (arith, nat_tests, h.1), λ q lt no. grind (arith, nat_tests, h.2 q lt, no.0, no.1))

  -- an undeclared path that is told is the lowest, whatever else the word holds
  lowest_of : (p : ℕ) (o : Option ℕ) → LeastFrom 64 s (length xs) o → o ≡ Some p → Lowest (Undeclared xs s) p
  lowest_of p None h is = cc
  lowest_of p (Some q) h is =
      let same : q ≡ p = cc in
      subst (Lowest (Undeclared xs s)) same (grind (arith, nat_tests, h.1), λ r lt no. grind (arith, nat_tests, h.2 r lt, no.0, no.1))

  pub undeclared_lowest : (p : ℕ) → lowest_undeclared xs s ≡ Some p → Lowest (Undeclared xs s) p
  undeclared_lowest p is = lowest_of p (lowest_undeclared xs s) (least_from_is 64 s (length xs)) is

  none_of : AllDeclared xs s → (o : Option ℕ) → LeastFrom 64 s (length xs) o → o ≡ None
  none_of all None h = refl
  none_of all (Some p) h = grind (arith, nat_tests, h.1, all p)

  -- where all are declared, none is told
  pub none_undeclared : AllDeclared xs s → lowest_undeclared xs s ≡ None
  none_undeclared all = none_of all (lowest_undeclared xs s) (least_from_is 64 s (length xs))
