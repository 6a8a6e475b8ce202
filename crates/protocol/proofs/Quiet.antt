-- A network that a whole round leaves as it is was settled. Assumes nothing.
use Rattle.std.proofs.Common.{◌≡◌, ℕ, zero, suc, ◌-◌, ◌^◌, ◌<◌, true, false, List, [], ◌∷◌, ◌++◌, length, sym, refl, ap, ap₂, ◌∙◌, subst, inl, inr}
use Rattle.std.proofs.lemmas.Bool.{cases_Bool, false≢true, lt-ltb, ltb-true, or_left}
use Rattle.std.proofs.lemmas.Grind.{same_number_lists}
use Rattle.layout.specs.Table.{Declared}
use Rattle.selection.specs.Laws.{Keeping, Laws}
use Rattle.sets.specs.Members.{member}
use Rattle.sets.proofs.Operations.{member_first}
use Rattle.protocol.specs.Network.{set_of, learned}
use Rattle.protocol.specs.Moves.{activated, after_all}
use Rattle.protocol.specs.Settled.{Settled, Round, Rounds, named}
use Rattle.protocol.specs.Settled.Rounds.{begins, then}
use Rattle.protocol.specs.Consistent.{Consistent}
use Rattle.protocol.proofs.Fitting.{Fits}
use Rattle.protocol.proofs.Activation.{knows_named, knows_other, tells_named, tells_other, stays_consistent}
use Rattle.protocol.proofs.Rising.{Below, at, after, later}
use Rattle.protocol.proofs.Settling.{settles}

-- two networks tell the same sets, if each router's are the same
pub same_sets : (xs ys : List ℕ) → length xs ≡ 32 → length ys ≡ 32 → ((v : ℕ) → set_of xs v ≡ set_of ys v) → xs ≡ ys
same_sets xs ys a b same = same_number_lists xs ys (a ∙ sym b) (λ k _. same k)

module _ {kept : Keeping} (laws : Laws kept) (t : Declared) (fits : Fits t) (i : ℕ) where
  -- no router of a stretch, as it is activated, alters an advertised set
  abbrev pub Unaltered : List ℕ → List ℕ → List ℕ → Type 0
  Unaltered ws k a = (front back : List ℕ) → ws ≡ front ++ back → (after kept (at t i k a) front).advertised ≡ a

  -- what a router would advertise if it were activated now
  abbrev would : List ℕ → ℕ → ℕ
  would a v = kept t.paths (learned t i a v)

  -- a router that is named would advertise what it does
  fixed_by :
      (ws k a : List ℕ) → Below (length t.routers) ws → Consistent kept (at t i k a) → Unaltered ws k a →
      (v : ℕ) → named ws v ≡ true → would a v ≡ set_of a v
  unfolding after_all
  fixed_by [] k a few c un v is = absurd (false≢true is)
  fixed_by (w ∷ ws) k a few c un v is =
      let k' = (activated kept (at t i k a) w).known in
      let a' = (activated kept (at t i k a) w).advertised in
      let same : a' ≡ a = un (w ∷ []) ws refl in
      elim (cases_Bool (member w v)) [
        | inl m ↦ sym (tells_named laws c w few.0 v m) ∙ ap (λ (x : List ℕ). set_of x v) same
        | inr m ↦
            let un' : Unaltered ws k' a' = λ front back e. un (w ∷ front) back (ap (λ (x : List ℕ). w ∷ x) e) ∙ sym same in
            let next : would a' v ≡ set_of a' v = fixed_by ws k' a' few.1 (stays_consistent laws c w few.0) un' v (later w ws v m is) in
            subst (λ (x : List ℕ). would x v ≡ set_of x v) same next
      ]

  -- where every router would advertise what it does, the network is settled
  module _ (k a : List ℕ) (c : Consistent kept (at t i k a)) (fixed : (v : ℕ) → v < length t.routers → would a v ≡ set_of a v) where
    everyone : ℕ
    everyone = 2 ^ length t.routers - 1

    names_all : (v : ℕ) → v < length t.routers → member everyone v ≡ true
    unfolding everyone
    names_all v below = member_first (length t.routers) v ∙ lt-ltb v (length t.routers) below

    names_declared : (v : ℕ) → member everyone v ≡ true → v < length t.routers
    unfolding everyone
    names_declared v m = ltb-true v (length t.routers) (sym (member_first (length t.routers) v) ∙ m)

    k' : List ℕ
    k' = (activated kept (at t i k a) everyone).known

    same_told : (activated kept (at t i k a) everyone).advertised ≡ a
    same_told =
        same_sets _ a (stays_consistent laws c everyone names_declared).all_advertised c.all_advertised
        (λ v.
        elim (cases_Bool (member everyone v)) [
          | inl m ↦ tells_named laws c everyone names_declared v m ∙ fixed v (names_declared v m)
          | inr m ↦ tells_other laws c everyone names_declared v m
        ])

    once : activated kept (at t i k a) everyone ≡ at t i k' a
    unfolding k'
    once = ap (λ (x : List ℕ). at t i k' x) same_told

    c' : Consistent kept (at t i k' a)
    unfolding k'
    c' = subst (Consistent kept) once (stays_consistent laws c everyone names_declared)

    -- activating all once more leaves all as it is
    again : activated kept (at t i k' a) everyone ≡ at t i k' a
    unfolding k'
    again =
        let next = stays_consistent laws c' everyone names_declared in
        let known : (activated kept (at t i k' a) everyone).known ≡ k' =
        same_sets _ _ next.all_known c'.all_known
        (λ v.
        elim (cases_Bool (member everyone v)) [
          | inl m ↦ knows_named laws c' everyone names_declared v m ∙ sym (knows_named laws c everyone names_declared v m)
          | inr m ↦ knows_other laws c' everyone names_declared v m
        ]) in
        let told : (activated kept (at t i k' a) everyone).advertised ≡ a =
        same_sets _ _ next.all_advertised c.all_advertised
        (λ v.
        elim (cases_Bool (member everyone v)) [
          | inl m ↦ tells_named laws c' everyone names_declared v m ∙ fixed v (names_declared v m)
          | inr m ↦ tells_other laws c' everyone names_declared v m
        ]) in
        ap₂ (λ (x y : List ℕ). at t i x y) known told

    -- all activated, so many times
    times : ℕ → List ℕ
    times zero = []
    times (suc m) = everyone ∷ times m

    times_rounds : (m : ℕ) → Rounds (length t.routers) m (times m)
    unfolding times
    times_rounds zero = begins []
    times_rounds (suc m) = then (everyone ∷ []) (times m) m (λ v below. or_left (member everyone v) false (names_all v below)) (times_rounds m)

    times_below : (m : ℕ) → Below (length t.routers) (times m)
    unfolding times
    times_below zero = tt
    times_below (suc m) = (names_declared, times_below m)

    times_same : (m : ℕ) → after kept (at t i k' a) (times m) ≡ at t i k' a
    unfolding times after_all
    times_same zero = refl
    times_same (suc m) = ap (λ s. after kept s (times m)) again ∙ times_same m

    fixed_settled : Settled kept (at t i k a)
    unfolding k'
    fixed_settled =
        let there : Settled kept (at t i k' a) = subst (Settled kept) (times_same 6) (settles laws t fits i (times 6) k' a (times_below 6) c' (times_rounds 6)) in
        there

  -- a round in which no advertised set alters: the network was settled before it
  pub quiet : (ws k a : List ℕ) → Below (length t.routers) ws → Consistent kept (at t i k a) → Round (length t.routers) ws → Unaltered ws k a → Settled kept (at t i k a)
  quiet ws k a few c round un = fixed_settled k a c (λ v below. fixed_by ws k a few c un v (round v below))
