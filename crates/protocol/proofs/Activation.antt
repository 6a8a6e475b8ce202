-- What activating routers leaves. Assumes nothing.
use Rattle.std.proofs.Common.{◌≡◌, ℕ, ◌<◌, ◌≤◌, Bool, true, false, cond, List, length, sym, refl, ap, ◌∙◌, subst, inl, inr, arith}
use Rattle.std.proofs.Math.ListN.{get_or-eq_default}
use Rattle.std.proofs.lemmas.Bool.{both_ways, cases_Bool, cases_lt, false_from_ne_true}
use Rattle.std.proofs.lemmas.List.FromFn.{length-map-range_with_len, get_or-map-range_with_len}
use Rattle.layout.specs.Table.{Declared}
use Rattle.packets.specs.Best.{exit_of}
use Rattle.selection.specs.Laws.{Keeping, Laws, AllDeclared}
use Rattle.sets.specs.Members.{member}
use Rattle.sets.proofs.Digits.{member_none}
use Rattle.sets.proofs.Emptiness.{zero_word}
use Rattle.protocol.specs.Network.{State, set_of, learned}
use Rattle.protocol.specs.Moves.{for_each, activated_known, activated_advertised, activated}
use Rattle.protocol.specs.Consistent.{Consistent, Declares}
use Rattle.protocol.proofs.Levels.{upward, exit_level}
use Rattle.protocol.proofs.Learning.{learned_from, learned_own}

-- two tests that pass alike are the same
pub same_truth : (a b : Bool) → (a ≡ true → b ≡ true) → (b ≡ true → a ≡ true) → a ≡ b
same_truth true b there back = sym (there refl)
same_truth false true there back = back refl
same_truth false false there back = refl

-- the set of a router
pub for_each_at : (f : ℕ → ℕ) (v : ℕ) → v < 32 → set_of (for_each f) v ≡ f v
unfolding for_each
for_each_at f v l = get_or-map-range_with_len f 0 32 v v 0 l (omega arith)

pub length_for_each : (f : ℕ → ℕ) → length (for_each f) ≡ 32
unfolding for_each
length_for_each f = length-map-range_with_len f 0 32

pub past : (sets : List ℕ) (v : ℕ) → length sets ≡ 32 → 32 ≤ v → set_of sets v ≡ 0
past sets v e l = get_or-eq_default sets 0 (omega (arith, e, l))

module _ {kept : Keeping} (laws : Laws kept) where
  -- of nothing, nothing is kept
  pub kept_nothing : (t : Declared) → kept t.paths 0 ≡ 0
  kept_nothing t = zero_word (kept t.paths 0) (λ k. false_from_ne_true _ (λ m. both_ways _ (member_none k) (laws.within t.paths 0 none_declared k m)))
    where
      none_declared : AllDeclared t.paths 0
      none_declared p m = absurd (both_ways _ (member_none p) m)

  module _ {s : State} (c : Consistent kept s) (w : ℕ) (named : Declares s w) where
    -- a number past the last router is not named
    not_named : (v : ℕ) → 32 ≤ v → member w v ≡ false
    not_named v l = false_from_ne_true _ (λ m. omega (arith, named v m, c.few_routers, l))

    -- what each router knows and advertises afterwards
    pub knows : (v : ℕ) → set_of (activated kept s w).known v ≡ activated_known kept s w v
    knows v =
        elim (cases_lt v 32) [
          | inl l ↦ for_each_at (activated_known kept s w) v l
          | inr g ↦
              past _ v (length_for_each _) g ∙ sym (past s.known v c.all_known g)
              ∙ ap (λ (b : Bool). cond b (learned s.table s.injected s.advertised v) (set_of s.known v)) (sym (not_named v g))
        ]

    pub tells : (v : ℕ) → set_of (activated kept s w).advertised v ≡ activated_advertised kept s w v
    tells v =
        elim (cases_lt v 32) [
          | inl l ↦ for_each_at (activated_advertised kept s w) v l
          | inr g ↦
              past _ v (length_for_each _) g ∙ sym (past s.advertised v c.all_advertised g)
              ∙ ap (λ (b : Bool). cond b (kept s.table.paths (learned s.table s.injected s.advertised v)) (set_of s.advertised v)) (sym (not_named v g))
        ]

    -- of a named router, and of the others
    pub knows_named : (v : ℕ) → member w v ≡ true → set_of (activated kept s w).known v ≡ learned s.table s.injected s.advertised v
    knows_named v m = knows v ∙ ap (λ (b : Bool). cond b (learned s.table s.injected s.advertised v) (set_of s.known v)) m

    pub knows_other : (v : ℕ) → member w v ≡ false → set_of (activated kept s w).known v ≡ set_of s.known v
    knows_other v m = knows v ∙ ap (λ (b : Bool). cond b (learned s.table s.injected s.advertised v) (set_of s.known v)) m

    pub tells_named : (v : ℕ) → member w v ≡ true → set_of (activated kept s w).advertised v ≡ kept s.table.paths (learned s.table s.injected s.advertised v)
    tells_named v m = tells v ∙ ap (λ (b : Bool). cond b (kept s.table.paths (learned s.table s.injected s.advertised v)) (set_of s.advertised v)) m

    pub tells_other : (v : ℕ) → member w v ≡ false → set_of (activated kept s w).advertised v ≡ set_of s.advertised v
    tells_other v m = tells v ∙ ap (λ (b : Bool). cond b (kept s.table.paths (learned s.table s.injected s.advertised v)) (set_of s.advertised v)) m

    -- a fact about a router's set that holds of what is learned and of what was there holds afterwards
    pub known_by : (P : ℕ → Type 0) (v : ℕ) → (member w v ≡ true → P (learned s.table s.injected s.advertised v)) → (member w v ≡ false → P (set_of s.known v)) → P (set_of (activated kept s w).known v)
    known_by P v new old =
        elim (cases_Bool (member w v)) [
          | inl m ↦ subst P (sym (knows_named v m)) (new m)
          | inr m ↦ subst P (sym (knows_other v m)) (old m)
        ]

    own_learned : (p : ℕ) → p < length s.table.paths → member (learned s.table s.injected s.advertised (exit_of s.table p)) p ≡ member s.injected p
    own_learned p l =
        let v = exit_of s.table p in
        same_truth _ _
        (λ m.
        elim ((learned_from s.table s.injected s.advertised v p m).1) [
          | inl own ↦ own.1
          | inr peer ↦
              let up = upward s.table peer.0 v p peer.1.1 peer.1.3 in
              absurd (omega (arith, up, exit_level s.table v))
        ])
        (λ m. learned_own s.table s.injected s.advertised v p l (refl, m))

    told_by : (v : ℕ) → set_of (activated kept s w).advertised v ≡ kept s.table.paths (set_of (activated kept s w).known v)
    told_by v =
        elim (cases_Bool (member w v)) [
          | inl m ↦ tells_named v m ∙ ap (kept s.table.paths) (sym (knows_named v m))
          | inr m ↦ tells_other v m ∙ c.advertises v ∙ ap (kept s.table.paths) (sym (knows_other v m))
        ]

    pub stays_consistent : Consistent kept (activated kept s w)
    stays_consistent =
        record {
          few_routers = c.few_routers;
          all_known = length_for_each _;
          all_advertised = length_for_each _;
          injected_declared = c.injected_declared;
          known_declared = λ v. known_by (AllDeclared s.table.paths) v (λ m p in_it. (learned_from s.table s.injected s.advertised v p in_it).0) (λ m. c.known_declared v);
          no_router = λ v l. known_by (λ set. set ≡ 0) v (λ m. absurd (omega (arith, named v m, l))) (λ m. c.no_router v l);
          own = λ p l. known_by (λ set. member set p ≡ member s.injected p) (exit_of s.table p) (λ m. own_learned p l) (λ m. c.own p l);
          advertises = told_by;
        }
