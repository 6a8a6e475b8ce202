-- When the calls about a set are refused, and what they come to where all its paths are declared. Assumes nothing.
use Rattle.std.proofs.Common.{◌≡◌, ℕ, ◌<◌, ◌≤◌, cond, ◌&&◌, List, length, Some, Ok, Err, Option, Result, sym, refl, ap, ◌∙◌, subst, inl, inr, arith}
use Rattle.std.proofs.lemmas.Bool.{cases_lt, cond-true, cond-false, lt-ltb, le-ltb, lt-leb, le-leb}
use Rattle.std.proofs.lemmas.Bool.Decides.{nat_tests}
use Rattle.std.specs.Prelude.{◌↔◌, ◌⊎◌, OnOk, nat_le, nat_lt}
use Rattle.costs.specs.Cost.{plain}
use Rattle.distances.specs.Answered.{of_router}
use Rattle.faults.specs.declared.call.CallFault.{CallFault}
use Rattle.faults.specs.declared.call.CallFault.TheVariants.{UndeclaredPath, UndeclaredRouter, ShortBuffer}
use Rattle.layout.specs.Promise.{Lowest}
use Rattle.layout.specs.Table.{Declared}
use Rattle.packets.specs.Best.{best}
use Rattle.packets.specs.Ways.{way}
use Rattle.selection.specs.Laws.{AllDeclared}
use Rattle.selection.specs.Undeclared.{Undeclared, lowest_undeclared}
use Rattle.selection.proofs.Undeclared.{none_undeclared, undeclared_lowest}
use Rattle.forwarding.specs.Answers.{best_answer, of_set, refused_at, over_written, told, trace_answer, trace_bytes, unless_refused}
use Rattle.forwarding.specs.Refusals.{BestAsked, BestRefused, TraceAsked, TraceRefused}
use Rattle.forwarding.specs.declared.packet.Way.{Way}
use Rattle.forwarding.proofs.Rows.{answered}

-- an answer that is refused for its router
router_refused : {X : Type 0} (t : Declared) (v : ℕ) (x : X) (fault : CallFault) → Err fault ≡ of_router t v (Ok x) → (length t.routers ≤ v) × (fault ≡ UndeclaredRouter v)
router_refused t v x fault e = (grind (arith, nat_tests), grind (arith, nat_tests))

-- two lowest numbers are one
pub same_lowest : {P : ℕ → Type 0} (p q : ℕ) → Lowest P p → Lowest P q → p ≡ q
same_lowest p q of_p of_q =
    elim (cases_lt p q) [
      | inl lt ↦ absurd (of_q.1 p lt of_p.0)
      | inr le ↦
          elim (cases_lt q p) [
            | inl lt ↦ absurd (of_p.1 q lt of_q.0)
            | inr ge ↦ omega (arith, le, ge)
          ]
    ]

-- what is said of an answer, of one that is the same
pub through : {X : Type 0} {a b : Result X CallFault} {fault : CallFault} {Why : Type 0} → a ≡ b → (b ≡ Err fault) ↔ Why → (a ≡ Err fault) ↔ Why
through is says = (λ e. says.0 (sym is ∙ e), λ why. is ∙ says.1 why)

module _ (t : Declared) (s : ℕ) where
  -- an answer about a set whose paths are all declared is that answer
  pub answer_where_declared : {X : Type 0} → AllDeclared t.paths s → (answer : Result X CallFault) → of_set t s answer ≡ answer
  answer_where_declared all answer = ap (λ o. refused_at o answer) (none_undeclared t.paths s all)

  pub best_where_declared : AllDeclared t.paths s → (v : ℕ) → best_answer t s v ≡ of_router t v (Ok (best plain t s v))
  best_where_declared all v = answer_where_declared all (of_router t v (Ok (best plain t s v)))

  pub trace_where_declared : AllDeclared t.paths s → (v room : ℕ) → trace_answer t s v room ≡ of_router t v (cond (nat_le 32 room) (Ok (told (way plain t s v))) (Err (ShortBuffer 32)))
  trace_where_declared all v room = answer_where_declared all (of_router t v (cond (nat_le 32 room) (Ok (told (way plain t s v))) (Err (ShortBuffer 32))))

  pub trace_bytes_where_declared : AllDeclared t.paths s → (v : ℕ) (before : List ℕ) → trace_bytes t s v before ≡ cond (nat_lt v (length t.routers) && nat_le 32 (length before)) (over_written (way plain t s v) before) before
  trace_bytes_where_declared all v before =
      ap (λ r. unless_refused r before (over_written (way plain t s v) before)) (trace_where_declared all v (length before))
      ∙ grind (arith, nat_tests)

  -- the lowest path that is not declared is told, and is a refusal whatever else would be answered
  pub refused_for_path : {X : Type 0} {o : Option ℕ} {p : ℕ} → o ≡ lowest_undeclared t.paths s → o ≡ Some p → (answer : Result X CallFault) → Err (UndeclaredPath p) ≡ of_set t s answer
  refused_for_path told some answer = ap (λ o. refused_at o answer) (sym some ∙ told)

  pub lowest_told : {o : Option ℕ} {p : ℕ} → o ≡ lowest_undeclared t.paths s → o ≡ Some p → Lowest (Undeclared t.paths s) p
  lowest_told {o} {p} told some = undeclared_lowest t.paths s p (sym told ∙ some)

  pub bytes_for_path : {o : Option ℕ} {p : ℕ} → o ≡ lowest_undeclared t.paths s → o ≡ Some p → (v : ℕ) (before : List ℕ) → before ≡ trace_bytes t s v before
  bytes_for_path found some v before =
      ap (λ r. unless_refused r before (over_written (way plain t s v) before))
      (refused_for_path found some (of_router t v (cond (nat_le 32 (length before)) (Ok (told (way plain t s v))) (Err (ShortBuffer 32)))))

  module _ (all : AllDeclared t.paths s) (v : ℕ) where
    pub best_asked : (r : Result (Option ℕ) CallFault) → r ≡ of_router t v (Ok (best plain t s v)) → OnOk r (BestAsked t s v)
    best_asked (Ok o) is = (all, (answered t v o (best plain t s v) is).0)
    best_asked (Err fault) is = tt

    module _ (before : List ℕ) where
      -- how a trace ends where the paths of the set are declared: the answer, and the buffer
      abbrev pub Ends : Result (Option Way) CallFault → List ℕ → Type 0
      Ends r after = (r ≡ trace_answer t s v (length before)) × (after ≡ trace_bytes t s v before)

      no_router : {X : Type 0} (x : X) (fault : CallFault) → Err fault ≡ of_router t v (Ok x) → Ends (Err fault) before
      no_router x fault is =
          let no = router_refused t v x fault is in (
            ap Err no.1 ∙ grind (arith, nat_tests, no.0) ∙ sym (trace_where_declared all v (length before)),
            grind (arith, nat_tests, no.0) ∙ sym (trace_bytes_where_declared all v before),
          )

      pub no_router_told : {X : Type 0} (x : X) {fault : CallFault} {r : Result (Option Way) CallFault} → Err fault ≡ of_router t v (Ok x) → r ≡ Err fault → Ends r before
      no_router_told x {fault} {r} is said = subst (λ a. Ends a before) (sym said) (no_router x fault is)

      pub no_room : v < length t.routers → length before < 32 → Ends (Err (ShortBuffer 32)) before
      no_room lt short = (
        grind (arith, nat_tests) ∙ sym (trace_where_declared all v (length before)),
        grind (arith, nat_tests) ∙ sym (trace_bytes_where_declared all v before),
      )

      pub traced : v < length t.routers → 32 ≤ length before → Ends (Ok (told (way plain t s v))) (over_written (way plain t s v) before) × TraceAsked t s v (length before)
      traced lt room = (
        (
          grind (arith, nat_tests) ∙ sym (trace_where_declared all v (length before)),
          grind (arith, nat_tests) ∙ sym (trace_bytes_where_declared all v before),
        ),
        (all, lt, room),
      )

  -- what a look at the set found: its lowest path that is not declared, or that all of them are
  abbrev pub Looked : Type 0
  Looked = ((p : ℕ) × (lowest_undeclared t.paths s ≡ Some p)) ⊎ AllDeclared t.paths s

  not_both : {X : Type 0} (p : ℕ) → Lowest (Undeclared t.paths s) p → AllDeclared t.paths s → X
  not_both p low all = absurd (omega (arith, all p low.0.0, low.0.1))

  -- an answer about a set with an undeclared path is refused at the lowest, and for no other reason
  at_path : {X : Type 0} (answer : Result X CallFault) (p : ℕ) → lowest_undeclared t.paths s ≡ Some p → (fault : CallFault) →
      (of_set t s answer ≡ Err fault) ↔ ((q : ℕ) × Lowest (Undeclared t.paths s) q × (fault ≡ UndeclaredPath q))
  at_path answer p is fault =
      let told : of_set t s answer ≡ Err (UndeclaredPath p) = sym (refused_for_path {o = lowest_undeclared t.paths s} refl is answer) in
      let low = undeclared_lowest t.paths s p is in (
        λ e. (p, low, (let same : Err (UndeclaredPath p) ≡ Err fault = sym told ∙ e in cc)),
        λ h. told ∙ ap (λ (q : ℕ). Err (UndeclaredPath q)) (same_lowest p h.0 low h.1) ∙ ap (λ (f : CallFault). Err f) (sym h.2),
      )

  pub best_refuses : Looked → (v : ℕ) (fault : CallFault) → (best_answer t s v ≡ Err fault) ↔ BestRefused t s v fault
  best_refuses (inl found) v fault =
      let says = at_path (of_router t v (Ok (best plain t s v))) found.0 found.1 fault in (
        λ e. inl (says.0 e),
        λ h. elim h [
          | inl why ↦ says.1 why
          | inr why ↦ not_both found.0 (undeclared_lowest t.paths s found.0 found.1) why.0
        ],
      )
  best_refuses (inr all) v fault =
      let told = best_where_declared all v in (
        λ e. let no = router_refused t v (best plain t s v) fault (sym e ∙ told) in inr (all, no.0, no.1),
        λ h. elim h [
          | inl why ↦ not_both why.0 why.1 all
          | inr why ↦ told ∙ cond-false _ _ _ (le-ltb v (length t.routers) why.1) ∙ ap (λ (f : CallFault). Err f) (sym why.2)
        ],
      )

  pub trace_refuses : Looked → (v room : ℕ) (fault : CallFault) → (trace_answer t s v room ≡ Err fault) ↔ TraceRefused t s v room fault
  trace_refuses (inl found) v room fault =
      let says = at_path (of_router t v (cond (nat_le 32 room) (Ok (told (way plain t s v))) (Err (ShortBuffer 32)))) found.0 found.1 fault in
      let low = undeclared_lowest t.paths s found.0 found.1 in (
        λ e. inl (inl (says.0 e)),
        λ h. elim h [
          | inl why ↦ elim why [ inl at ↦ says.1 at | inr at ↦ not_both found.0 low at.0 ]
          | inr why ↦ not_both found.0 low why.0.0
        ],
      )
  trace_refuses (inr all) v room fault =
      let told = trace_where_declared all v room in (
        λ e. elim (cases_lt v (length t.routers)) [
          | inl lt ↦
              elim (cases_lt room 32) [
                | inl short ↦
                    let is : Err fault ≡ Err (ShortBuffer 32) = sym e ∙ told ∙ cond-true _ _ _ (lt-ltb v _ lt) ∙ cond-false _ _ _ (lt-leb 32 room short) in
                    inr ((all, lt), short, (cc))
                | inr long ↦
                    let is = sym e ∙ told ∙ cond-true _ _ _ (lt-ltb v _ lt) ∙ cond-true _ _ _ (le-leb 32 room long) in
                    absurd (let clash : ⊥ = cc in clash)
              ]
          | inr past ↦
              let is : Err fault ≡ Err (UndeclaredRouter v) = sym e ∙ told ∙ cond-false _ _ _ (le-ltb v _ past) in
              inl (inr (all, past, (cc)))
        ],
        λ h. elim h [
          | inl why ↦
              elim why [
                | inl at ↦ not_both at.0 at.1 all
                | inr at ↦ told ∙ cond-false _ _ _ (le-ltb v _ at.1) ∙ ap (λ (f : CallFault). Err f) (sym at.2)
              ]
          | inr why ↦ told ∙ cond-true _ _ _ (lt-ltb v _ why.0.1) ∙ cond-false _ _ _ (lt-leb 32 room why.1) ∙ ap (λ (f : CallFault). Err f) (sym why.2)
        ],
      )
