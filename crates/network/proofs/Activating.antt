-- The sets of all routers when some of those named were activated, and when all were.
use Rattle.std.proofs.Common.{◌≡◌, ℕ, ◌<◌, false, not, ◌&&◌, cond, List, length, sym, refl, ap, ◌∙◌, subst, inl, inr, arith}
use Rattle.std.proofs.lemmas.Bool.{cases_lt, cases_Bool}
use Rattle.layout.specs.declared.path.ExitPath.{ExitPath}
use Rattle.sets.specs.Members.{member}
use Rattle.selection.specs.Laws.{Keeping, AllDeclared, declared_of}
use Rattle.protocol.specs.Moves.{for_each, activated_known, activated_advertised, activated}
use Rattle.protocol.specs.Network.{State, set_of, learned}
use Rattle.protocol.proofs.Activation.{for_each_at, length_for_each, past}
use Rattle.protocol.proofs.Learning.{learned_from}
use Rattle.protocol.proofs.Quiet.{same_sets}
use Rattle.network.proofs.Whole.{keeps_known}

module _ (f : ℕ → ℕ) (named : ℕ) (old : List ℕ) where
  -- the routers that are named and not still to come have what f says, the others what they had
  abbrev pub Partly : ℕ → List ℕ → Type 0
  Partly rest sets = (u : ℕ) → set_of sets u ≡ cond (member named u && not (member rest u)) (f u) (set_of old u)

-- sets that are those of a function
pub is_for_each : (f : ℕ → ℕ) (sets : List ℕ) → length sets ≡ 32 → ((v : ℕ) → v < 32 → set_of sets v ≡ f v) → sets ≡ for_each f
is_for_each f sets long each =
    same_sets sets (for_each f) long (length_for_each f)
    (λ v.
    elim (cases_lt v 32) [
      | inl low ↦ each v low ∙ sym (for_each_at f v low)
      | inr high ↦ past sets v long high ∙ sym (past (for_each f) v (length_for_each f) high)
    ])

module _ (kept : Keeping) (s : State) (w : ℕ) where
  pub activates :
      (i : ℕ) (k a : List ℕ) → i ≡ s.injected → length k ≡ 32 → length a ≡ 32 → ((v : ℕ) → set_of k v ≡ activated_known kept s w v) → ((v : ℕ) → set_of a v ≡ activated_advertised kept s w v) →
      record { table = s.table; injected = i; known = k; advertised = a } ≡ activated kept s w
  activates i k a same long_k long_a known told =
      ap (λ (x : ℕ). record { table = s.table; injected = x; known = k; advertised = a }) same
      ∙ ap (λ (x : List ℕ). record { table = s.table; injected = s.injected; known = x; advertised = a }) (is_for_each _ k long_k (λ v low. known v))
      ∙ ap (λ (x : List ℕ). record { table = s.table; injected = s.injected; known = for_each (activated_known kept s w); advertised = x }) (is_for_each _ a long_a (λ v low. told v))

  -- of what a router learned, the rule drops nothing as undeclared
  pub tells : (paths : List ExitPath) (v known old : ℕ) → paths ≡ s.table.paths → known ≡ activated_known kept s w v → old ≡ set_of s.advertised v →
      cond (member w v) (kept paths (declared_of paths known)) old ≡ activated_advertised kept s w v
  tells paths v known old same is stays =
      elim (cases_Bool (member w v)) [
        | inl m ↦
            let learns : known ≡ learned s.table s.injected s.advertised v = grind (arith, m, is) in
            let declared : AllDeclared s.table.paths known = subst (AllDeclared s.table.paths) (sym learns) (λ p h. (learned_from s.table s.injected s.advertised v p h).0) in
            grind (arith, m, keeps_known kept s known paths same declared refl ∙ ap (kept s.table.paths) learns)
        | inr m ↦ grind (arith, m, stays)
      ]

  -- where there is no router, nothing is done
  pub idle : length s.known ≡ 32 → length s.advertised ≡ 32 → ((v : ℕ) → member w v ≡ false) → s ≡ activated kept s w
  idle long_k long_a none = activates s.injected s.known s.advertised refl long_k long_a (λ v. grind (arith, none v)) (λ v. grind (arith, none v))
