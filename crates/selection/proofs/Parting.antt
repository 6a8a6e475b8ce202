-- The paths of a set are parted by neighbour AS, one neighbour after another. Assumes nothing.
use Rattle.std.proofs.Common.{◌≡◌, ℕ, ◌<◌, Bool, true, false, not, ◌&&◌, ◌||◌, List, sym, refl, ap, ◌∙◌, inl, inr}
use mathlib.Core.Bool.{and-false}
use lib.Count.{ones}
use Rattle.std.proofs.lemmas.Bool.{and_cases, and_from, and_parts, both_ways, cases_Bool, not-true, not-false, not_from_false, or_cases, or_left, or_right}
use Rattle.layout.specs.declared.path.ExitPath.{ExitPath}
use Rattle.sets.specs.Members.{member, Empty, Subset}
use Rattle.sets.proofs.Counting.{ones_less}
use Rattle.sets.proofs.Subsets.{same_from_subsets}
use Rattle.selection.specs.Laws.{AllDeclared, Keeping, Laws, declared_of}
use Rattle.selection.specs.Stages.{through, keep_per_neighbour}
use Rattle.selection.proofs.DeclaredPart.{declared_same}
use Rattle.selection.proofs.Neighbours.{neighbour, neighbour_from, neighbour_has, through_declared, through_from, through_in}
use Rattle.selection.proofs.Taking.{Seen}

-- of the numbers of s that are no longer in rest, `found` has the paths through the neighbour AS a
pub record Found (xs : List ExitPath) (a s rest found : ℕ) : Type 0 where
  pub part : Subset rest s
  pub from : (j : ℕ) → member found j ≡ true → Seen s rest j × (neighbour xs j ≡ a)
  pub all : (j : ℕ) → Seen s rest j → neighbour xs j ≡ a → member found j ≡ true

pub found_ends : (xs : List ExitPath) (a s rest found : ℕ) → AllDeclared xs s → Found xs a s rest found → Empty rest → found ≡ through xs s a
found_ends xs a s rest found declared so none =
    same_from_subsets found (through xs s a)
    (λ j m. let from = so.from j m in through_in xs s a j (declared j from.0.0, from.0.0) from.1)
    (λ j m. let from = through_from xs s a j m in so.all j (from.0.1, none j) from.1)

-- of s the neighbours that are no longer in rest have been asked about, and `kept` has the answers
pub record Parted (below : Keeping) (xs : List ExitPath) (s rest kept : ℕ) : Type 0 where
  pub part : Subset rest s
  pub whole : (j k : ℕ) → member rest j ≡ true → member s k ≡ true → neighbour xs k ≡ neighbour xs j → member rest k ≡ true
  pub from : (j : ℕ) → member kept j ≡ true → Seen s rest j × (member (below xs (through xs s (neighbour xs j))) j ≡ true)
  pub all : (j : ℕ) → Seen s rest j → member (below xs (through xs s (neighbour xs j))) j ≡ true → member kept j ≡ true

module _ {below : Keeping} (laws : Laws below) (xs : List ExitPath) (s : ℕ) (declared : AllDeclared xs s) (rest kept : ℕ) (so : Parted below xs s rest kept) where
  -- all of s through the neighbour AS of p are still there
  pub part_whole : (p : ℕ) → member rest p ≡ true → through xs rest (neighbour xs p) ≡ through xs s (neighbour xs p)
  part_whole p held =
      let a = neighbour xs p in
      same_from_subsets (through xs rest a) (through xs s a)
      (λ j m. let from = through_from xs rest a j m in through_in xs s a j (from.0.0, so.part j from.0.1) from.1)
      (λ j m. let from = through_from xs s a j m in through_in xs rest a j (from.0.0, so.whole p j held from.0.1 from.1) from.1)

  module _ (p part answer r t : ℕ) (held : member rest p ≡ true)
      (is_part : part ≡ through xs rest (neighbour xs p)) (answers : answer ≡ below xs (declared_of xs part))
      (taken : (k : ℕ) → member r k ≡ (member rest k && not (member part k)))
      (put : (k : ℕ) → member t k ≡ (member kept k || member answer k)) where
    whole : part ≡ through xs s (neighbour xs p)
    whole = is_part ∙ part_whole p held

    less : (k : ℕ) → member r k ≡ (member rest k && not (member (through xs s (neighbour xs p)) k))
    less k = taken k ∙ ap (λ (w : ℕ). member rest k && not (member w k)) whole

    asked : answer ≡ below xs (through xs s (neighbour xs p))
    asked = answers ∙ ap (below xs) (ap (declared_of xs) whole ∙ declared_same xs (through xs s (neighbour xs p)) (through_declared laws xs s declared (neighbour xs p)))

    more : (k : ℕ) → member t k ≡ (member kept k || member (below xs (through xs s (neighbour xs p))) k)
    more k = put k ∙ ap (λ (w : ℕ). member kept k || member w k) asked

    out : (j : ℕ) → member (through xs s (neighbour xs p)) j ≡ true → member r j ≡ false
    out j m = less j ∙ ap (λ (b : Bool). member rest j && not b) m ∙ and-false (member rest j)

    stays : (j : ℕ) → member rest j ≡ false → member r j ≡ false
    stays j m = less j ∙ ap (λ (b : Bool). b && not (member (through xs s (neighbour xs p)) j)) m

    -- one neighbour AS more
    pub parted_more : Parted below xs s r t
    parted_more = record {
      part = λ k m. so.part k (and_parts (member rest k) (not (member (through xs s (neighbour xs p)) k)) (sym (less k) ∙ m)).0;
      whole = λ j k m inside e.
          let parts = and_parts (member rest j) (not (member (through xs s (neighbour xs p)) j)) (sym (less j) ∙ m) in
          less k ∙ and_from (member rest k) (not (member (through xs s (neighbour xs p)) k)) (so.whole j k parts.0 inside e)
          (not_from_false (member (through xs s (neighbour xs p)) k)
          (elim (cases_Bool (member (through xs s (neighbour xs p)) k)) [
            | inr o ↦ o
            | inl y ↦
                let from = through_from xs s (neighbour xs p) k y in
                let j_in = so.part j parts.0 in
                absurd (both_ways (member (through xs s (neighbour xs p)) j) (not-true (member (through xs s (neighbour xs p)) j) parts.1) (through_in xs s (neighbour xs p) j (declared j j_in, j_in) (sym e ∙ from.1)))
          ]));
      from = λ j m. elim (or_cases (member kept j) (member (below xs (through xs s (neighbour xs p))) j) (sym (more j) ∙ m)) [
        | inl h ↦ let old = so.from j h in ((old.0.0, stays j old.0.1), old.1)
        | inr h ↦
            let inside = laws.within xs (through xs s (neighbour xs p)) (through_declared laws xs s declared (neighbour xs p)) j h in
            let from = through_from xs s (neighbour xs p) j inside in
            ((from.0.1, out j inside), ap (λ (b : ℕ). member (below xs (through xs s b)) j) from.1 ∙ h)
      ];
      all = λ j seen m. more j ∙ elim (cases_Bool (member rest j)) [
        | inr o ↦ or_left (member kept j) (member (below xs (through xs s (neighbour xs p))) j) (so.all j (seen.0, o) m)
        | inl y ↦
            or_right (member kept j) (member (below xs (through xs s (neighbour xs p))) j)
            (elim (and_cases (member rest j) (not (member (through xs s (neighbour xs p)) j)) (sym (less j) ∙ seen.1)) [
              | inl n ↦ absurd (both_ways (member rest j) n y)
              | inr n ↦
                  let inside = not-false (member (through xs s (neighbour xs p)) j) n in
                  ap (λ (b : ℕ). member (below xs (through xs s b)) j) (sym (through_from xs s (neighbour xs p) j inside).1) ∙ m
            ])
      ];
    }

    -- and fewer paths that rest
    pub parted_fewer : ones r < ones rest
    parted_fewer =
        let inside = so.part p held in
        ones_less r rest p (λ k m. (and_parts (member rest k) (not (member (through xs s (neighbour xs p)) k)) (sym (less k) ∙ m)).0)
        (out p (through_in xs s (neighbour xs p) p (declared p inside, inside) refl)) held

  pub parted_ends : Empty rest → kept ≡ keep_per_neighbour below xs s
  parted_ends none =
      same_from_subsets kept (keep_per_neighbour below xs s)
      (λ j m. neighbour_has laws xs s declared (neighbour xs j) j (so.from j m).1)
      (λ j m. let from = neighbour_from laws xs s declared j m in so.all j (from.0.1, none j) from.1)
