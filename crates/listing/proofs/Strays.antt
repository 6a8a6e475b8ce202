-- The paths that routers advertise and that are not declared. Assumes nothing.
use Rattle.std.proofs.Common.{◌≡◌, ℕ, zero, suc, ◌<◌, Bool, true, false, ◌||◌, List, length, Some, Err, inl, inr, sym, refl, ap, ◌∙◌, subst, arith}
use Rattle.std.proofs.lemmas.Bool.{cases_Bool, cases_lt, both_ways, cond-true, cond-false, lt-leb, le-leb}
use Rattle.std.proofs.lemmas.Bool.Decides.{nat_tests}
use Rattle.std.specs.Prelude.{◌↔◌, ◌⊎◌, bit_or}
use Rattle.faults.specs.declared.call.CallFault.{CallFault}
use Rattle.faults.specs.declared.call.CallFault.TheVariants.{UndeclaredPath, ShortBuffer}
use Rattle.forwarding.specs.Answers.{unless_refused}
use Rattle.forwarding.proofs.Refused.{answer_where_declared, refused_for_path, same_lowest}
use Rattle.layout.specs.Promise.{Lowest}
use Rattle.layout.specs.Table.{Declared}
use Rattle.protocol.specs.Network.{set_of}
use Rattle.selection.specs.Laws.{AllDeclared}
use Rattle.selection.specs.Undeclared.{lowest_undeclared}
use Rattle.selection.proofs.Undeclared.{undeclared_lowest}
use Rattle.sets.specs.Members.{member}
use Rattle.sets.proofs.Emptiness.{empty_zero}
use Rattle.sets.proofs.Operations.{member_or}
use Rattle.listing.specs.Listing.{list_answer, list_at, list_bytes, list_written, named_by}
use Rattle.listing.specs.Refusals.{ListRefused, NoStray, Stray}

module _ (t : Declared) (advertised : List ℕ) where
  abbrev named : ℕ → ℕ
  named = named_by advertised

  or_from : (a b p : ℕ) → member (bit_or a b) p ≡ true → (member a p ≡ false) → member b p ≡ true
  or_from a b p is none = sym (ap (λ (x : Bool). x || member b p) none) ∙ sym (member_or a b p) ∙ is

  or_left : (a b p : ℕ) → member a p ≡ true → member (bit_or a b) p ≡ true
  or_left a b p is = member_or a b p ∙ ap (λ (x : Bool). x || member b p) is

  or_right : (a b p : ℕ) → member b p ≡ true → member (bit_or a b) p ≡ true
  or_right a b p is = member_or a b p ∙ grind (arith, is)

  -- what a router advertises is named
  named_has : (n v p : ℕ) → v < n → member (set_of advertised v) p ≡ true → member (named n) p ≡ true
  unfolding named_by
  named_has zero v p lt is = absurd (omega (arith, lt))
  named_has (suc n) v p lt is =
      elim (cases_lt v n) [
        | inl before ↦ or_left (named n) (set_of advertised n) p (named_has n v p before is)
        | inr past ↦
            let here : v ≡ n = omega (arith, lt, past) in
            or_right (named n) (set_of advertised n) p (subst (λ w. member (set_of advertised w) p ≡ true) here is)
      ]

  -- what is named some router advertises
  named_from : (n p : ℕ) → member (named n) p ≡ true → (v : ℕ) × (v < n) × (member (set_of advertised v) p ≡ true)
  unfolding named_by
  named_from zero p is = absurd (both_ways (member 0 p) (empty_zero 0 refl p) is)
  named_from (suc n) p is =
      elim (cases_Bool (member (named n) p)) [
        | inl before ↦ let found = named_from n p before in (found.0, omega (arith, found.1), found.2)
        | inr none ↦ (n, omega arith, or_from (named n) (set_of advertised n) p is none)
      ]

  -- every router advertises declared paths alone exactly if all that is named is declared
  pub no_stray : AllDeclared t.paths (named (length t.routers)) → NoStray t advertised
  no_stray all v lt p is = all p (named_has (length t.routers) v p lt is)

  -- the same, where the set and the number of paths are at hand
  pub no_stray_below : {w n : ℕ} → w ≡ named (length t.routers) → n ≡ length t.paths → ((p : ℕ) → member w p ≡ true → p < n) → NoStray t advertised
  no_stray_below {w} {n} is many below =
      no_stray (subst (AllDeclared t.paths) is (λ p m. subst (λ k. p < k) many (below p m)))

  all_named : NoStray t advertised → AllDeclared t.paths (named (length t.routers))
  all_named none p is = let found = named_from (length t.routers) p is in none found.0 found.1 p found.2

  -- the lowest path that is named and not declared
  pub lowest_stray : (p : ℕ) → lowest_undeclared t.paths (named (length t.routers)) ≡ Some p → Lowest (Stray t advertised) p
  lowest_stray p is =
      let lowest = undeclared_lowest t.paths (named (length t.routers)) p is in
      let found = named_from (length t.routers) p lowest.0.0 in
      ((found.0, found.1, (found.2, lowest.0.1)), λ q lt stray. lowest.1 q lt (named_has (length t.routers) stray.0 q stray.1 stray.2.0, stray.2.1))

  -- where there is none, a list is what it is for any sets
  pub list_where_declared : NoStray t advertised → (room : ℕ) → list_answer t advertised room ≡ list_at t advertised room
  list_where_declared none room = answer_where_declared t (named (length t.routers)) (all_named none) (list_at t advertised room)

  pub list_bytes_where_declared : NoStray t advertised → (before : List ℕ) → list_written t advertised before ≡ list_bytes t advertised before
  list_bytes_where_declared none before =
      ap (λ r. unless_refused r before (list_bytes t advertised before)) (list_where_declared none (length before)) ∙ grind (arith, nat_tests)

  not_both : {X : Type 0} (p : ℕ) → Lowest (Stray t advertised) p → NoStray t advertised → X
  not_both p low none = let stray = low.0 in absurd (omega (arith, none stray.0 stray.1 p stray.2.0, stray.2.1))

  -- what a look at the sets found: the lowest path that is not declared, or that all of them are
  abbrev pub Looked : Type 0
  Looked = ((p : ℕ) × (lowest_undeclared t.paths (named (length t.routers)) ≡ Some p)) ⊎ NoStray t advertised

  pub list_refuses : Looked → (room : ℕ) (fault : CallFault) → (list_answer t advertised room ≡ Err fault) ↔ ListRefused t advertised room fault
  list_refuses (inl found) room fault =
      let told : list_answer t advertised room ≡ Err (UndeclaredPath found.0) =
      sym (refused_for_path t (named (length t.routers)) {o = lowest_undeclared t.paths (named (length t.routers))} refl found.1 (list_at t advertised room)) in
      let low = lowest_stray found.0 found.1 in (
        λ e. inl (found.0, low, (let same : Err (UndeclaredPath found.0) ≡ Err fault = sym told ∙ e in cc)),
        λ h. elim h [
          | inl why ↦ told ∙ ap (λ (q : ℕ). Err (UndeclaredPath q)) (same_lowest found.0 why.0 low why.1) ∙ ap (λ (f : CallFault). Err f) (sym why.2)
          | inr why ↦ not_both found.0 low why.0
        ],
      )
  list_refuses (inr none) room fault =
      let told = list_where_declared none room in (
        λ e. elim (cases_lt room 512) [
          | inl short ↦
              let is : Err fault ≡ Err (ShortBuffer 512) = sym e ∙ told ∙ cond-false _ _ _ (lt-leb 512 room short) in
              inr (none, short, (cc))
          | inr long ↦
              let is = sym e ∙ told ∙ cond-true _ _ _ (le-leb 512 room long) in
              absurd (let clash : ⊥ = cc in clash)
        ],
        λ h. elim h [
          | inl why ↦ not_both why.0 why.1 none
          | inr why ↦ told ∙ cond-false _ _ _ (lt-leb 512 room why.1) ∙ ap (λ (f : CallFault). Err f) (sym why.2)
        ],
      )
