-- Whatever comes to a network, it keeps what every network keeps. Assumes nothing.
use Rattle.std.proofs.Common.{◌≡◌, ℕ, ◌-◌, ◌^◌, ◌<◌, ◌≤◌, Bool, false, not, ◌&&◌, ◌||◌, eqb, [], length, set, bit_or, bit_and, pow_mono, pow_pos, sym, refl, ap, ◌∙◌, subst, inl, inr, arith}
use mathlib.Core.Bool.{or-false, and-true}
use Rattle.std.proofs.lemmas.Bool.{both_ways, cases_eq, cases_lt, and_parts, ne_eqb}
use Rattle.std.proofs.lemmas.Bool.Decides.{nat_tests}
use Rattle.std.proofs.lemmas.List.Elements.{All-get_or}
use Rattle.std.proofs.lemmas.List.{get_or-set_same, get_or-set_other, length-set}
use Rattle.std.proofs.lemmas.Nat.{and_le_r}
use Rattle.selection.proofs.DeclaredPart.{declared_same}
use Rattle.layout.specs.Table.{Declared, nothing}
use Rattle.layout.specs.WellFormed.{PathFits, WellFormed}
use Rattle.layout.proofs.Promised.{nothing_sound}
use Rattle.packets.specs.Best.{exit_of}
use Rattle.selection.specs.Laws.{Keeping, Laws, AllDeclared}
use Rattle.sets.specs.Members.{member}
use Rattle.sets.proofs.Digits.{member_none}
use Rattle.sets.proofs.Single.{member_with, member_without}
use Rattle.protocol.specs.Network.{State, set_of, own_of}
use Rattle.protocol.specs.Moves.{for_each, loaded, begun, knowing, injected_at, withdrawn_at, restarted}
use Rattle.protocol.specs.Consistent.{Consistent}
use Rattle.protocol.proofs.Fitting.{Fits}
use Rattle.protocol.proofs.Learning.{own_from, own_has}
use Rattle.protocol.proofs.Activation.{for_each_at, length_for_each, past, kept_nothing, same_truth}

module _ {kept : Keeping} (laws : Laws kept) where
  -- where nobody knows a path
  pub nobody : (v : ℕ) → set_of (for_each (λ u. 0)) v ≡ 0
  nobody v =
      elim (cases_lt v 32) [
        | inl l ↦ for_each_at (λ u. 0) v l
        | inr g ↦ past _ v (length_for_each _) g
      ]

  none_declared : (t : Declared) (n : ℕ) → n ≡ 0 → AllDeclared t.paths n
  none_declared t n e p m = absurd (both_ways _ (ap (λ w. member w p) e ∙ member_none p) m)

  pub loaded_consistent : (t : Declared) → WellFormed t → Consistent kept (loaded t)
  loaded_consistent t w =
      record {
        few_routers = w.sound.few_routers;
        all_known = length_for_each _;
        all_advertised = length_for_each _;
        injected_declared = none_declared t 0 refl;
        known_declared = λ v. none_declared t _ (nobody v);
        no_router = λ v l. nobody v;
        own = λ p l. ap (λ w. member w p) (nobody (exit_of t p));
        advertises = λ v. nobody v ∙ sym (kept_nothing laws t) ∙ ap (kept t.paths) (sym (nobody v));
      }

  pub begun_fits : Fits nothing
  begun_fits = record { sound = nothing_sound; led = λ v c is. absurd (omega (arith, is.0)); connected = λ v l. absurd (omega (arith, l)) }

  pub begun_consistent : Consistent kept begun
  begun_consistent =
      record {
        few_routers = nothing_sound.few_routers;
        all_known = length_for_each _;
        all_advertised = length_for_each _;
        injected_declared = none_declared nothing 0 refl;
        known_declared = λ v. none_declared nothing _ (nobody v);
        no_router = λ v l. nobody v;
        own = λ p l. absurd (omega (arith, l));
        advertises = λ v. nobody v ∙ sym (kept_nothing laws nothing) ∙ ap (kept nothing.paths) (sym (nobody v));
      }

  module _ {s : State} (fits : Fits s.table) (c : Consistent kept s) where
    -- one router knows another set, and the injected paths alter only where it is their exit point
    knowing_consistent :
        (injected v set : ℕ) → v < length s.table.routers → AllDeclared s.table.paths injected → AllDeclared s.table.paths set →
        ((p : ℕ) → p < length s.table.paths → exit_of s.table p ≡ v → member set p ≡ member injected p) →
        ((p : ℕ) → p < length s.table.paths → (exit_of s.table p ≡ v → ⊥) → member injected p ≡ member s.injected p) →
        Consistent kept (knowing kept s injected v set)
    knowing_consistent injected v new below all_injected all_set own others =
        let in_known : v < length s.known = omega (arith, below, c.few_routers, c.all_known) in
        let in_told : v < length s.advertised = omega (arith, below, c.few_routers, c.all_advertised) in
        let here : set_of (set s.known v new) v ≡ new = get_or-set_same s.known v new 0 in_known in
        let there : (u : ℕ) → (u ≡ v → ⊥) → set_of (set s.known v new) u ≡ set_of s.known u = λ u other. get_or-set_other s.known v u new 0 other in
        record {
          few_routers = c.few_routers;
          all_known = length-set s.known v new ∙ c.all_known;
          all_advertised = length-set s.advertised v _ ∙ c.all_advertised;
          injected_declared = all_injected;
          known_declared = λ u.
              elim (cases_eq u v) [
                | inl e ↦ subst (AllDeclared s.table.paths) (sym (ap (set_of (set s.known v new)) e ∙ here)) all_set
                | inr other ↦ subst (AllDeclared s.table.paths) (sym (there u other)) (c.known_declared u)
              ];
          no_router = λ u l.
              elim (cases_eq u v) [
                | inl e ↦ absurd (omega (arith, e, l, below))
                | inr other ↦ there u other ∙ c.no_router u l
              ];
          own = λ p l.
              elim (cases_eq (exit_of s.table p) v) [
                | inl e ↦ ap (λ u. member (set_of (set s.known v new) u) p) e ∙ ap (λ w. member w p) here ∙ own p l e
                | inr other ↦ ap (λ w. member w p) (there (exit_of s.table p) other) ∙ c.own p l ∙ sym (others p l other)
              ];
          advertises = λ u.
              elim (cases_eq u v) [
                | inl e ↦
                    ap (set_of (set s.advertised v (kept s.table.paths new))) e ∙ get_or-set_same s.advertised v _ 0 in_told
                    ∙ ap (kept s.table.paths) (sym (ap (set_of (set s.known v new)) e ∙ here))
                | inr other ↦ get_or-set_other s.advertised v u _ 0 other ∙ c.advertises u ∙ ap (kept s.table.paths) (sym (there u other))
              ];
        }

    pub exit_below : (p : ℕ) → p < length s.table.paths → exit_of s.table p < length s.table.routers
    exit_below p l = (All-get_or (PathFits (length s.table.routers)) s.table.paths p _ l fits.sound.paths_fit).at_router

    -- a word with one number more, or one less
    all_with : (w p : ℕ) → AllDeclared s.table.paths w → p < length s.table.paths → AllDeclared s.table.paths (bit_or w (2 ^ p))
    all_with w p all l q m = grind (arith, nat_tests, sym (member_with w p q) ∙ m, all q, l)

    pub injected_consistent : (p : ℕ) → p < length s.table.paths → Consistent kept (injected_at kept s p (exit_of s.table p))
    injected_consistent p l =
        let e = exit_of s.table p in
        knowing_consistent (bit_or s.injected (2 ^ p)) e (bit_or (set_of s.known e) (2 ^ p)) (exit_below p l)
        (all_with s.injected p c.injected_declared l) (all_with (set_of s.known e) p (c.known_declared e) l)
        (λ q below at_e.
        let same : member (set_of s.known e) q ≡ member s.injected q = ap (λ u. member (set_of s.known u) q) (sym at_e) ∙ c.own q below in
        member_with (set_of s.known e) p q ∙ ap (λ (b : Bool). b || eqb q p) same ∙ sym (member_with s.injected p q))
        (λ q below other.
        let apart : eqb q p ≡ false = ne_eqb q p (λ same. other (ap (exit_of s.table) same)) in
        member_with s.injected p q ∙ ap (λ (b : Bool). member s.injected q || b) apart ∙ or-false (member s.injected q))

    -- words of declared paths are short
    pub short : (w : ℕ) → AllDeclared s.table.paths w → w < 2 ^ 64
    short w all =
        let least : bit_and w (2 ^ length s.table.paths - 1) ≤ 2 ^ length s.table.paths - 1 = and_le_r w (2 ^ length s.table.paths - 1) in
        let bound : 2 ^ length s.table.paths ≤ 2 ^ 64 = pow_mono {i = length s.table.paths} {j = 64} fits.sound.few_paths in
        let some : 0 < 2 ^ length s.table.paths = pow_pos (length s.table.paths) in
        omega (arith, declared_same s.table.paths w all, least, bound, some)

    all_without : (w p : ℕ) → AllDeclared s.table.paths w → p < length s.table.paths → AllDeclared s.table.paths (bit_and w (2 ^ 64 - 1 - 2 ^ p))
    all_without w p all l q m = all q (and_parts _ _ (sym (member_without 64 w p q (short w all) (omega (arith, l, fits.sound.few_paths))) ∙ m)).0

    pub withdrawn_consistent : (p : ℕ) → p < length s.table.paths → Consistent kept (withdrawn_at kept s p (exit_of s.table p))
    withdrawn_consistent p l =
        let e = exit_of s.table p in
        let low : p < 64 = omega (arith, l, fits.sound.few_paths) in
        knowing_consistent (bit_and s.injected (2 ^ 64 - 1 - 2 ^ p)) e (bit_and (set_of s.known e) (2 ^ 64 - 1 - 2 ^ p)) (exit_below p l)
        (all_without s.injected p c.injected_declared l) (all_without (set_of s.known e) p (c.known_declared e) l)
        (λ q below at_e.
        let same : member (set_of s.known e) q ≡ member s.injected q = ap (λ u. member (set_of s.known u) q) (sym at_e) ∙ c.own q below in
        member_without 64 (set_of s.known e) p q (short _ (c.known_declared e)) low
        ∙ ap (λ (b : Bool). b && not (eqb q p)) same ∙ sym (member_without 64 s.injected p q (short _ c.injected_declared) low))
        (λ q below other.
        let apart : eqb q p ≡ false = ne_eqb q p (λ same. other (ap (exit_of s.table) same)) in
        member_without 64 s.injected p q (short _ c.injected_declared) low ∙ ap (λ (b : Bool). member s.injected q && not b) apart ∙ and-true (member s.injected q))

    pub restarted_consistent : (v : ℕ) → v < length s.table.routers → Consistent kept (restarted kept s v)
    restarted_consistent v below =
        knowing_consistent s.injected v (own_of s.table s.injected v) below c.injected_declared
        (λ p m. (own_from s.table s.injected [] v p m).0)
        (λ p l e. same_truth _ _ (λ m. (own_from s.table s.injected [] v p m).1.1) (λ m. own_has s.table s.injected [] v p l (e, m)))
        (λ p l other. refl)
