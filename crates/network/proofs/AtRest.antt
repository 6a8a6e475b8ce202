-- Whether every router advertises one and the same set, router by router.
use Rattle.std.proofs.Common.{◌≡◌, ℕ, ◌+◌, ◌<◌, ◌≤◌, Bool, true, false, eqb, length, take, ap, ◌∙◌, arith}
use Rattle.std.proofs.lemmas.Bool.Decides.{nat_tests}
use Rattle.std.proofs.lemmas.List.{get_or-take, length-take}
use Rattle.std.proofs.lemmas.List.Folds.{list_all_more, list_all_at}
use Rattle.std.specs.List.{list_all}
use Rattle.selection.specs.Laws.{Keeping}
use Rattle.protocol.specs.Network.{State, set_of}

module _ (kept : Keeping) (s : State) where
  -- whether router v's set is what is kept of the injected paths
  abbrev pub rests : ℕ → Bool
  rests set = eqb set (kept s.table.paths s.injected)

  pub more_rest : (v : ℕ) → v < length s.advertised → set_of s.advertised v ≡ kept s.table.paths s.injected → list_all rests (take v s.advertised) ≡ true → list_all rests (take (v + 1) s.advertised) ≡ true
  more_rest v below is before = list_all_more rests s.advertised v 0 below ∙ grind (arith, nat_tests, before, is)

  pub one_does_not : (v n : ℕ) → v < n → n ≤ length s.advertised → (set_of s.advertised v ≡ kept s.table.paths s.injected → ⊥) → list_all rests (take n s.advertised) ≡ false
  one_does_not v n low few not_kept =
      list_all_at rests (take n s.advertised) v 0 (omega (arith, length-take n s.advertised, low, few))
      (ap rests (get_or-take n s.advertised v 0 low) ∙ grind (arith, nat_tests, not_kept))
