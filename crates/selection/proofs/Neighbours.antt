-- The paths of a set through one neighbour AS, and what is kept per neighbour. Assumes nothing.
use Rattle.std.proofs.Common.{◌≡◌, ℕ, true, ◌&&◌, eqb, ltb, List, length, sym, ap, ◌∙◌}
use Rattle.std.proofs.lemmas.Bool.{and_parts, and_from, ltb-true, lt-ltb, eqb-true, eq-eqb}
use Rattle.layout.specs.Table.{path_at}
use Rattle.layout.specs.declared.path.ExitPath.{ExitPath}
use Rattle.sets.specs.Members.{member, Subset}
use Rattle.selection.specs.Laws.{AllDeclared, Keeping, Laws, Offered}
use Rattle.selection.specs.Stages.{through, keep_per_neighbour}
use Rattle.selection.proofs.DeclaredPart.{all_declared_part}
use Rattle.selection.proofs.Gathered.{member_those, joined_has, joined_from}

-- the neighbour AS of path p
abbrev pub neighbour : List ExitPath → ℕ → ℕ
neighbour xs p = (path_at xs p).neighbour_as

pub through_in : (xs : List ExitPath) (s a p : ℕ) → Offered xs s p → neighbour xs p ≡ a → member (through xs s a) p ≡ true
through_in xs s a p o e =
    member_those (λ k. member s k && eqb (neighbour xs k) a) (length xs) p
    ∙ and_from (ltb p (length xs)) (member s p && eqb (neighbour xs p) a) (lt-ltb p (length xs) o.0) (and_from (member s p) (eqb (neighbour xs p) a) o.1 (eq-eqb (neighbour xs p) a e))

pub through_from : (xs : List ExitPath) (s a p : ℕ) → member (through xs s a) p ≡ true → Offered xs s p × (neighbour xs p ≡ a)
through_from xs s a p m =
    let parts = and_parts (ltb p (length xs)) (member s p && eqb (neighbour xs p) a) (sym (member_those (λ k. member s k && eqb (neighbour xs k) a) (length xs) p) ∙ m) in
    let held = and_parts (member s p) (eqb (neighbour xs p) a) parts.1 in
    ((ltb-true p (length xs) parts.0, held.0), eqb-true (neighbour xs p) a held.1)

pub through_within : (xs : List ExitPath) (s a : ℕ) → Subset (through xs s a) s
through_within xs s a p m = (through_from xs s a p m).0.1

pub through_mono : (xs : List ExitPath) (s p a : ℕ) → Subset p s → Subset (through xs p a) (through xs s a)
through_mono xs s p a inside k m =
    let from = through_from xs p a k m in
    through_in xs s a k (from.0.0, inside k from.0.1) from.1

module _ {below : Keeping} (laws : Laws below) (xs : List ExitPath) (s : ℕ) (declared : AllDeclared xs s) where
  -- the paths through a neighbour are declared
  pub through_declared : (a : ℕ) → AllDeclared xs (through xs s a)
  through_declared a = all_declared_part xs s (through xs s a) declared (through_within xs s a)

  -- all that the rule below keeps for one neighbour is kept
  pub neighbour_has : (a k : ℕ) → member (below xs (through xs s a)) k ≡ true → member (keep_per_neighbour below xs s) k ≡ true
  neighbour_has a k m =
      let from = through_from xs s a k (laws.within xs (through xs s a) (through_declared a) k m) in
      joined_has (λ p. below xs (through xs s (neighbour xs p))) s (length xs) k k from.0.0 from.0.1
      (ap (λ (b : ℕ). member (below xs (through xs s b)) k) from.1 ∙ m)

  -- a path is kept exactly if the rule below keeps it of those through its own neighbour AS
  pub neighbour_from : (k : ℕ) → member (keep_per_neighbour below xs s) k ≡ true → Offered xs s k × (member (below xs (through xs s (neighbour xs k))) k ≡ true)
  neighbour_from k m =
      let found = joined_from (λ p. below xs (through xs s (neighbour xs p))) s (length xs) k m in
      let a = neighbour xs found.0 in
      let kept = found.1.1.1 in
      let from = through_from xs s a k (laws.within xs (through xs s a) (through_declared a) k kept) in
      (from.0, ap (λ (b : ℕ). member (below xs (through xs s b)) k) from.1 ∙ kept)
