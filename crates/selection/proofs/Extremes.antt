-- The paths of a set than which none of it is better. Assumes nothing.
use Rattle.std.proofs.Common.{◌≡◌, ℕ, zero, suc, ◌<◌, Bool, true, false, not, ◌&&◌, ltb, ◌⊎◌, List, length, sym, ap, ◌∙◌, inl, inr, arith}
use Rattle.std.proofs.lemmas.Bool.{and_parts, and_from, and_cases, and_right, both_ways, cases_Bool, cases_eq, ltb-true, lt-ltb, not-true, not_from_false}
use Rattle.std.proofs.lemmas.Bool.Decides.{nat_tests}
use Rattle.layout.specs.Table.{path_at}
use Rattle.layout.specs.declared.path.ExitPath.{ExitPath}
use Rattle.sets.specs.Members.{member, Empty, Subset}
use Rattle.selection.specs.declared.criterion.Criterion.{Criterion}
use Rattle.selection.specs.declared.criterion.Criterion.TheVariants.{HighestPreference, ShortestAsPath, LowestMed}
use Rattle.selection.specs.Laws.{AllDeclared, Offered}
use Rattle.selection.specs.Stages.{better, beaten, extremes}
use Rattle.selection.proofs.Gathered.{member_those, some_none, some_false}

-- better is a strict order whose ties are alike
pub better_self : (c : Criterion) (a : ExitPath) → better c a a ≡ false
better_self HighestPreference a = grind (arith, nat_tests)
better_self ShortestAsPath a = grind (arith, nat_tests)
better_self LowestMed a = grind (arith, nat_tests)

pub better_trans : (c : Criterion) (a b e : ExitPath) → better c a b ≡ true → better c b e ≡ true → better c a e ≡ true
better_trans HighestPreference a b e h l = grind (arith, nat_tests)
better_trans ShortestAsPath a b e h l = grind (arith, nat_tests)
better_trans LowestMed a b e h l = grind (arith, nat_tests)

pub better_tie : (c : Criterion) (a b e : ExitPath) → better c a b ≡ true → better c a e ≡ false → better c e b ≡ true
better_tie HighestPreference a b e h l = grind (arith, nat_tests)
better_tie ShortestAsPath a b e h l = grind (arith, nat_tests)
better_tie LowestMed a b e h l = grind (arith, nat_tests)

-- no declared path of s is better than p
abbrev pub Unbeaten : Criterion → List ExitPath → ℕ → ℕ → Type 0
Unbeaten c xs s p = (q : ℕ) → q < length xs → member s q ≡ true → better c (path_at xs q) (path_at xs p) ≡ false

pub extremes_in : (c : Criterion) (xs : List ExitPath) (s p : ℕ) → Offered xs s p → Unbeaten c xs s p → member (extremes c xs s) p ≡ true
extremes_in c xs s p o best =
    member_those (λ k. member s k && not (beaten c xs s k)) (length xs) p
    ∙ and_from (ltb p (length xs)) (member s p && not (beaten c xs s p)) (lt-ltb p (length xs) o.0)
    (and_from (member s p) (not (beaten c xs s p)) o.1
    (not_from_false (beaten c xs s p) (some_false (λ q. member s q && better c (path_at xs q) (path_at xs p)) (length xs) none)))
  where
    none : (q : ℕ) → q < length xs → (member s q && better c (path_at xs q) (path_at xs p)) ≡ false
    none q l =
        elim (cases_Bool (member s q)) [
          | inl y ↦ and_right (member s q) (better c (path_at xs q) (path_at xs p)) (best q l y)
          | inr n ↦ ap (λ (t : Bool). t && better c (path_at xs q) (path_at xs p)) n
        ]

pub extremes_from : (c : Criterion) (xs : List ExitPath) (s p : ℕ) → member (extremes c xs s) p ≡ true → Offered xs s p × Unbeaten c xs s p
extremes_from c xs s p m =
    let parts = and_parts (ltb p (length xs)) (member s p && not (beaten c xs s p)) (sym (member_those (λ k. member s k && not (beaten c xs s k)) (length xs) p) ∙ m) in
    let held = and_parts (member s p) (not (beaten c xs s p)) parts.1 in
    ((ltb-true p (length xs) parts.0, held.0), λ q l y. best (not-true (beaten c xs s p) held.1) q l y)
  where
    best : beaten c xs s p ≡ false → Unbeaten c xs s p
    best none q l y =
        elim (and_cases (member s q) (better c (path_at xs q) (path_at xs p)) (some_none (λ k. member s k && better c (path_at xs k) (path_at xs p)) (length xs) none q l)) [
          | inl n ↦ absurd (both_ways (member s q) n y)
          | inr b ↦ b
        ]

pub extremes_within : (c : Criterion) (xs : List ExitPath) (s : ℕ) → Subset (extremes c xs s) s
extremes_within c xs s p m = (extremes_from c xs s p m).0.1

-- of the members below n, none or one that none of them beats
abbrev Best : Criterion → List ExitPath → ℕ → ℕ → ℕ → Type 0
Best c xs s n e = ((e < n) × (member s e ≡ true)) × ((q : ℕ) → q < n → member s q ≡ true → better c (path_at xs q) (path_at xs e) ≡ false)

best_below : (c : Criterion) (xs : List ExitPath) (s n : ℕ) → ((q : ℕ) → q < n → member s q ≡ false) ⊎ ((e : ℕ) × Best c xs s n e)
best_below c xs s zero = inl (λ q l. absurd (omega arith))
best_below c xs s (suc n) = elim (cases_Bool (member s n)) [ inl y ↦ with_last y (best_below c xs s n) | inr o ↦ without_last o (best_below c xs s n) ]
  where
    at : ℕ → ExitPath
    at = path_at xs

    with_last : member s n ≡ true → ((q : ℕ) → q < n → member s q ≡ false) ⊎ ((e : ℕ) × Best c xs s n e) → ((q : ℕ) → q < suc n → member s q ≡ false) ⊎ ((e : ℕ) × Best c xs s (suc n) e)
    with_last y (inl none) =
        inr (
          n,
          (
            (omega arith, y),
            λ q l held.
                elim (cases_eq q n) [
                  | inl e ↦ ap (λ (k : ℕ). better c (path_at xs k) (path_at xs n)) e ∙ better_self c (path_at xs n)
                  | inr d ↦ absurd (both_ways (member s q) (none q (omega arith)) held)
                ],
          ),
        )
    with_last y (inr (e, best)) =
        elim (cases_Bool (better c (path_at xs n) (path_at xs e))) [
          | inl b ↦ inr (
            n,
            (
              (omega arith, y),
              λ q l held.
                  elim (cases_eq q n) [
                    | inl same ↦ ap (λ (k : ℕ). better c (path_at xs k) (path_at xs n)) same ∙ better_self c (path_at xs n)
                    | inr d ↦
                        elim (cases_Bool (better c (path_at xs q) (path_at xs n))) [
                          | inl w ↦ absurd (both_ways (better c (path_at xs q) (path_at xs e)) (best.1 q (omega arith) held) (better_trans c (path_at xs q) (path_at xs n) (path_at xs e) w b))
                          | inr v ↦ v
                        ]
                  ],
            ),
          )
          | inr v ↦ inr (
            e,
            (
              (omega (arith, best.0.0), best.0.1),
              λ q l held.
                  elim (cases_eq q n) [
                    | inl same ↦ ap (λ (k : ℕ). better c (path_at xs k) (path_at xs e)) same ∙ v
                    | inr d ↦ best.1 q (omega arith) held
                  ],
            ),
          )
        ]

    without_last : member s n ≡ false → ((q : ℕ) → q < n → member s q ≡ false) ⊎ ((e : ℕ) × Best c xs s n e) → ((q : ℕ) → q < suc n → member s q ≡ false) ⊎ ((e : ℕ) × Best c xs s (suc n) e)
    without_last o (inl none) = inl (λ q l. elim (cases_eq q n) [ inl e ↦ ap (member s) e ∙ o | inr d ↦ none q (omega arith) ])
    without_last o (inr (e, best)) =
        inr (
          e,
          (
            (omega (arith, best.0.0), best.0.1),
            λ q l held.
                elim (cases_eq q n) [
                  | inl same ↦ absurd (both_ways (member s n) o (ap (member s) (sym same) ∙ held))
                  | inr d ↦ best.1 q (omega arith) held
                ],
          ),
        )

-- a set of declared paths without extremes is empty
pub extremes_nonempty : (c : Criterion) (xs : List ExitPath) (s : ℕ) → AllDeclared xs s → Empty (extremes c xs s) → Empty s
extremes_nonempty c xs s declared none k =
    elim (cases_Bool (member s k)) [
      | inr o ↦ o
      | inl y ↦
          elim (best_below c xs s (length xs)) [
            | inl empty ↦ empty k (declared k y)
            | inr (e, best) ↦ absurd (both_ways (member (extremes c xs s) e) (none e) (extremes_in c xs s e best.0 best.1))
          ]
    ]

-- an extreme of s is one of every part of s that has it
pub extremes_heritage : (c : Criterion) (xs : List ExitPath) (s p : ℕ) → Subset p s → (k : ℕ) → member p k ≡ true → member (extremes c xs s) k ≡ true → member (extremes c xs p) k ≡ true
extremes_heritage c xs s p inside k here m =
    let from = extremes_from c xs s k m in
    extremes_in c xs p k (from.0.0, here) (λ q l held. from.1 q l (inside q held))

-- where a part of s has one extreme e of s, its extremes are extremes of s
pub extremes_inside : (c : Criterion) (xs : List ExitPath) (s p e : ℕ) → Subset p s → member p e ≡ true → member (extremes c xs s) e ≡ true → Subset (extremes c xs p) (extremes c xs s)
extremes_inside c xs s p e inside here m k held =
    let top = extremes_from c xs s e m in
    let from = extremes_from c xs p k held in
    extremes_in c xs s k (from.0.0, inside k from.0.1)
    (λ q l y.
    elim (cases_Bool (better c (path_at xs q) (path_at xs k))) [
      | inr v ↦ v
      | inl b ↦ absurd (both_ways (better c (path_at xs e) (path_at xs k)) (from.1 e top.0.0 here) (better_tie c (path_at xs q) (path_at xs k) (path_at xs e) b (top.1 q l y)))
    ])
