-- What each thing that happens to a network alters. Assumes nothing.
use Rattle.std.proofs.Common.{◌≡◌, ℕ, ◌-◌, ◌^◌, ◌<◌, not, eqb, ◌⊎◌, List, [], ◌∷◌, ◌++◌, length, set, bit_or, bit_and, sym, refl, ap, ap₂, ◌∙◌, subst, inl, inr, arith}
use Rattle.std.specs.Prelude.{◌↔◌, IsTrue}
use Rattle.std.proofs.lemmas.Bool.{and_parts, and_from, or_cases, or_left, or_right, eqb-true, eq-eqb, ne_eqb, false_from_ne_true, both_ways, cases_eq, cases_Bool}
use Rattle.std.proofs.lemmas.List.{get_or-set_same, get_or-set_other}
use Rattle.layout.specs.Table.{Declared}
use Rattle.packets.specs.Best.{exit_of}
use Rattle.selection.specs.Laws.{Keeping, Laws}
use Rattle.sets.specs.Members.{member, Empty}
use Rattle.sets.proofs.Digits.{member_none}
use Rattle.sets.proofs.Emptiness.{zero_word}
use Rattle.sets.proofs.Same.{same_set}
use Rattle.sets.proofs.Single.{member_with, member_without}
use Rattle.protocol.specs.Alters.{HasInjected, Begins, Alters, Becomes, BecomesOnly, AllBecome}
use Rattle.protocol.specs.Moves.{Move, begun, loaded, knowing, moved, after_all}
use Rattle.protocol.specs.Moves.Move.{Loaded, Injected, Withdrawn, Restarted, Activated}
use Rattle.protocol.specs.Network.{State, set_of, own_of}
use Rattle.protocol.specs.Plain.{Learns}
use Rattle.protocol.specs.Runs.{Comes, AllCome, reached}
use Rattle.protocol.proofs.Activation.{same_truth, knows_named, knows_other, tells_named, tells_other}
use Rattle.protocol.proofs.Learning.{own_from, own_has}
use Rattle.protocol.proofs.Moving.{nobody, exit_below, short}
use Rattle.protocol.proofs.Plainly.{learned_plainly}
use Rattle.protocol.proofs.Quiet.{same_sets}
use Rattle.protocol.proofs.Rising.{at}
use Rattle.protocol.proofs.Running.{Sane, all_append, come_front, come_back, begun_sane, all_sane, moved_sane}

-- the members of a set with one number more, and with one less
with_members : (a p q : ℕ) → IsTrue (member (bit_or a (2 ^ p)) q) ↔ ((q ≡ p) ⊎ IsTrue (member a q))
with_members a p q = (
  λ m.
      elim (or_cases (member a q) (eqb q p) (sym (member_with a p q) ∙ m)) [
        | inl there ↦ inr there
        | inr here ↦ inl (eqb-true q p here)
      ],
  λ h.
      member_with a p q
      ∙ elim h [
        | inl here ↦ or_right (member a q) (eqb q p) (eq-eqb q p here)
        | inr there ↦ or_left (member a q) (eqb q p) there
      ],
)

without_members : (a p q : ℕ) → a < 2 ^ 64 → p < 64 → IsTrue (member (bit_and a (2 ^ 64 - 1 - 2 ^ p)) q) ↔ ((q ≡ p → ⊥) × IsTrue (member a q))
without_members a p q few low = (
  λ m.
      let parts = and_parts (member a q) (not (eqb q p)) (sym (member_without 64 a p q few low) ∙ m) in
      (λ same. both_ways (not (eqb q p)) (ap not (eq-eqb q p same)) parts.1, parts.0),
  λ h. member_without 64 a p q few low ∙ and_from (member a q) (not (eqb q p)) h.1 (ap not (ne_eqb q p h.0)),
)

state_by : (x y : State) → x.table ≡ y.table → x.injected ≡ y.injected → x.known ≡ y.known → x.advertised ≡ y.advertised → x ≡ y
state_by x y table injected known advertised =
    let one : x ≡ record x { table = y.table } = ap (λ (t : Declared). record x { table = t }) table in
    let two : record x { table = y.table } ≡ at y.table y.injected x.known x.advertised = ap (λ (i : ℕ). at y.table i x.known x.advertised) injected in
    one ∙ two ∙ ap₂ (λ (k a : List ℕ). at y.table y.injected k a) known advertised

-- two networks with a set for each of 32 router numbers that s becomes in one way are one network
module _
    (kept : Keeping) (s x y : State) (in_known : length y.known ≡ 32) (in_told : length y.advertised ≡ 32)
    (known_there : length x.known ≡ 32) (told_there : length x.advertised ≡ 32)
  where
    one_altered :
        {InjectedThen Concerned : ℕ → Type 0} {KnownThen : ℕ → ℕ → Type 0} → ((v : ℕ) → Concerned v ⊎ ¬ Concerned v) →
        Alters kept s y InjectedThen Concerned KnownThen → Alters kept s x InjectedThen Concerned KnownThen → y ≡ x
    one_altered {InjectedThen = InjectedThen} {Concerned = Concerned} {KnownThen = KnownThen} decided a b =
        let table : y.table ≡ x.table = a.table ∙ sym b.table in
        let injected : y.injected ≡ x.injected =
        same_set y.injected x.injected
        (λ q. same_truth _ _ (λ m. (b.injected q).1 ((a.injected q).0 m)) (λ m. (a.injected q).1 ((b.injected q).0 m))) in
        let known : (v : ℕ) → set_of y.known v ≡ set_of x.known v = λ v.
        elim (decided v) [
          | inl here ↦
              same_set (set_of y.known v) (set_of x.known v)
              (λ q. same_truth _ _ (λ m. (b.known v q here).1 ((a.known v q here).0 m)) (λ m. (a.known v q here).1 ((b.known v q here).0 m)))
          | inr other ↦ a.others_know v other ∙ sym (b.others_know v other)
        ] in
        let told : (v : ℕ) → set_of y.advertised v ≡ set_of x.advertised v = λ v.
        elim (decided v) [
          | inl here ↦ a.advertised v here ∙ ap (kept s.table.paths) (known v) ∙ sym (b.advertised v here)
          | inr other ↦ a.others_advertise v other ∙ sym (b.others_advertise v other)
        ] in
        state_by y x table injected (same_sets y.known x.known in_known known_there known) (same_sets y.advertised x.advertised in_told told_there told)

    one_begun : (t : Declared) → Begins t y → Begins t x → y ≡ x
    one_begun t a b =
        let none : (v w : ℕ) → Empty v → Empty w → v ≡ w = λ v w c d. zero_word v c ∙ sym (zero_word w d) in
        state_by y x (a.table ∙ sym b.table) (none y.injected x.injected a.injected b.injected)
        (same_sets y.known x.known in_known known_there (λ v. none _ _ (a.known v) (b.known v)))
        (same_sets y.advertised x.advertised in_told told_there (λ v. none _ _ (a.advertised v) (b.advertised v)))

    pub becomes_one : (m : Move) → Becomes kept s y m → Becomes kept s x m → y ≡ x
    becomes_one (Loaded t) a b = one_begun t a b
    becomes_one (Injected p) a b = one_altered (λ v. cases_eq v (exit_of s.table p)) a b
    becomes_one (Withdrawn p) a b = one_altered (λ v. cases_eq v (exit_of s.table p)) a b
    becomes_one (Restarted u) a b = one_altered (λ v. cases_eq v u) a b
    becomes_one (Activated w) a b =
        one_altered
        (λ v.
        elim (cases_Bool (member w v)) [
          | inl m ↦ inl m
          | inr m ↦ inr (λ yes. both_ways (member w v) m yes)
        ]) a b

once : (kept : Keeping) (s : State) (m : Move) → after_all kept s (m ∷ []) ≡ moved kept s m
unfolding after_all
once kept s m = refl

-- a run with one thing more
one_more : (kept : Keeping) (before : List Move) (m : Move) → reached kept (before ++ (m ∷ [])) ≡ moved kept (reached kept before) m
one_more kept before m = all_append kept before (m ∷ []) begun ∙ once kept (reached kept before) m

first_comes : (kept : Keeping) (m : Move) (later : List Move) (s : State) → AllCome kept s (m ∷ later) → Comes s m
unfolding AllCome
first_comes kept m later s h = h.0

module _ {kept : Keeping} (laws : Laws kept) where
  pub begins : (t : Declared) → Begins t (loaded t)
  begins t =
      record {
        table = refl;
        injected = λ q. member_none q;
        known = λ v q. ap (λ w. member w q) (nobody laws v) ∙ member_none q;
        advertised = λ v q. ap (λ w. member w q) (nobody laws v) ∙ member_none q;
      }

  module _ (s : State) (c : Sane laws s) where
    -- one declared router alone knows something else
    knowing_alters :
        (injected v set : ℕ) (InjectedThen : ℕ → Type 0) (KnownThen : ℕ → ℕ → Type 0) → v < length s.table.routers →
        ((q : ℕ) → IsTrue (member injected q) ↔ InjectedThen q) → ((q : ℕ) → IsTrue (member set q) ↔ KnownThen v q) →
        Alters kept s (knowing kept s injected v set) InjectedThen (λ u. u ≡ v) KnownThen
    knowing_alters injected v new InjectedThen KnownThen below is_injected is_known =
        let in_known : v < length s.known = omega (arith, below, c.1.few_routers, c.1.all_known) in
        let in_told : v < length s.advertised = omega (arith, below, c.1.few_routers, c.1.all_advertised) in
        let here : set_of (set s.known v new) v ≡ new = get_or-set_same s.known v new 0 in_known in
        let told : set_of (set s.advertised v (kept s.table.paths new)) v ≡ kept s.table.paths new = get_or-set_same s.advertised v _ 0 in_told in
        record {
          table = refl;
          injected = is_injected;
          known = λ u q same.
              subst (λ (x : ℕ). IsTrue (member (set_of (set s.known v new) x) q) ↔ KnownThen x q) (sym same)
              (subst (λ (x : ℕ). IsTrue (member x q) ↔ KnownThen v q) (sym here) (is_known q));
          advertised = λ u same.
              subst (λ (x : ℕ). set_of (set s.advertised v (kept s.table.paths new)) x ≡ kept s.table.paths (set_of (set s.known v new) x)) (sym same)
              (told ∙ ap (kept s.table.paths) (sym here));
          others_know = λ u other. get_or-set_other s.known v u new 0 other;
          others_advertise = λ u other. get_or-set_other s.advertised v u _ 0 other;
        }

    own_members : (v q : ℕ) → IsTrue (member (own_of s.table s.injected v) q) ↔ ((q < length s.table.paths) × (exit_of s.table q ≡ v) × HasInjected s q)
    own_members v q = (
      λ m. let h = own_from s.table s.injected [] v q m in (h.0, h.1.0, h.1.1),
      λ h. own_has s.table s.injected [] v q h.0 (h.1, h.2),
    )

  -- what happens to a network alters it as an operator would say
  pub moved_becomes : (s : State) (m : Move) → Sane laws s → Comes s m → Becomes kept s (moved kept s m) m
  moved_becomes s (Loaded t) c h = begins t
  moved_becomes s (Injected p) c h =
      knowing_alters s c _ _ _ _ _ (exit_below laws c.0 c.1 p h.0) (λ q. with_members s.injected p q) (λ q. with_members (set_of s.known (exit_of s.table p)) p q)
  moved_becomes s (Withdrawn p) c h =
      let l = c.1.injected_declared p h in
      let low : p < 64 = omega (arith, l, c.0.sound.few_paths) in
      let e = exit_of s.table p in
      knowing_alters s c _ _ _ _ _ (exit_below laws c.0 c.1 p l)
      (λ q. without_members s.injected p q (short laws c.0 c.1 _ c.1.injected_declared) low)
      (λ q. without_members (set_of s.known e) p q (short laws c.0 c.1 _ (c.1.known_declared e)) low)
  moved_becomes s (Restarted v) c h = knowing_alters s c _ _ _ _ _ h (λ q. (λ m. m, λ m. m)) (λ q. own_members s c v q)
  moved_becomes s (Activated w) c h =
      record {
        table = refl;
        injected = λ q. (λ m. m, λ m. m);
        known = λ v q m.
            subst (λ (set : ℕ). IsTrue (member set q) ↔ Learns s.table s.injected s.advertised v q) (sym (knows_named laws c.1 w h v m))
            (learned_plainly s.table c.0.sound s.injected s.advertised v (h v m) q);
        advertised = λ v m. tells_named laws c.1 w h v m ∙ ap (kept s.table.paths) (sym (knows_named laws c.1 w h v m));
        others_know = λ v other. knows_other laws c.1 w h v (false_from_ne_true _ other);
        others_advertise = λ v other. tells_other laws c.1 w h v (false_from_ne_true _ other);
      }

  pub moved_only : (s : State) (m : Move) → Sane laws s → Comes s m → BecomesOnly kept s (moved kept s m) m
  moved_only s m c h =
      let there = moved_sane laws s m c h in
      let is : Becomes kept s (moved kept s m) m = moved_becomes s m c h in
      record { becomes = is; only = λ y k a other. becomes_one kept s (moved kept s m) y k a there.1.all_known there.1.all_advertised m other is }

  -- and so it goes all through a run
  pub all_become : (history : List Move) → AllCome kept begun history → AllBecome kept history
  all_become history come before m later whole =
      let all : AllCome kept begun (before ++ (m ∷ later)) = subst (AllCome kept begun) whole come in
      let sane : Sane laws (reached kept before) = all_sane laws before begun (begun_sane laws) (come_front kept before (m ∷ later) begun all) in
      subst (λ (x : State). BecomesOnly kept (reached kept before) x m) (sym (one_more kept before m))
      (moved_only (reached kept before) m sane (first_comes kept m later (reached kept before) (come_back kept before (m ∷ later) begun all)))
