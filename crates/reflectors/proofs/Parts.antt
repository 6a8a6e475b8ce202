-- A part of the bytes, cut to what there is of it.
use Rattle.std.proofs.Common.{◌≡◌, ℕ, ◌+◌, ◌-◌, min, List, ◌++◌, length, take, drop, ap, ◌∙◌, arith}
use Rattle.std.proofs.lemmas.List.{take_min, drop_min, length-drop}
use Rattle.calls.specs.Turns.{part_of, with_part}
use Rattle.calls.specs.declared.report.Part.{Part}
use borrow.Rule.Slice.PartMut.{post_of}

module _ (bytes : List ℕ) (part : Part) {start len : ℕ} (begins : start ≡ min part.start (length bytes)) (ends : len ≡ min part.len (length bytes - start)) where
  -- behind the start, the same bytes follow
  rest_is : drop start bytes ≡ drop part.start bytes
  rest_is = ap (λ (n : ℕ). drop n bytes) begins ∙ drop_min part.start bytes

  len_is : (start + len) - start ≡ min part.len (length (drop start bytes))
  len_is = omega (arith, ends, length-drop start bytes)

  pub part_is : take ((start + len) - start) (drop start bytes) ≡ part_of bytes part
  part_is = ap (λ (n : ℕ). take n (drop start bytes)) len_is ∙ take_min part.len (drop start bytes) ∙ ap (take part.len) rest_is

  behind_is : post_of start ((start + len) - start) bytes ≡ drop part.len (drop part.start bytes)
  behind_is = ap (λ (n : ℕ). drop n (drop start bytes)) len_is ∙ drop_min part.len (drop start bytes) ∙ ap (drop part.len) rest_is

  -- other bytes in its place
  pub written_is : {new : List ℕ} (f : List ℕ → List ℕ) → new ≡ f (take ((start + len) - start) (drop start bytes)) → take start bytes ++ (new ++ post_of start ((start + len) - start) bytes) ≡ with_part bytes part (f (part_of bytes part))
  written_is {new} f is =
      ap (λ (xs : List ℕ). xs ++ (new ++ post_of start ((start + len) - start) bytes)) (ap (λ (n : ℕ). take n bytes) begins ∙ take_min part.start bytes)
      ∙ ap (λ (xs : List ℕ). take part.start bytes ++ (xs ++ post_of start ((start + len) - start) bytes)) (is ∙ ap f part_is)
      ∙ ap (λ (xs : List ℕ). take part.start bytes ++ (f (part_of bytes part) ++ xs)) behind_is
