-- A call is refused exactly where it is to be, with the fault that goes first.
use Rattle.std.proofs.Common.{◌≡◌, ℕ, ◌^◌, ◌<◌, ◌≤◌, ◌⊎◌, Bool, true, false, cond, eqb, length, Some, None, Ok, Err, Option, Result, sym, refl, ap, ◌∙◌, inl, inr, arith}
use Rattle.std.proofs.lemmas.Bool.{both_ways, cases_lt, cond-true, cond-false, lt-ltb, le-leb, and_from, and_parts, false≢true, eqb-true, eq-eqb}
use Rattle.std.proofs.lemmas.Bool.Decides.{nat_tests}
use Rattle.std.specs.Prelude.{◌↔◌, nat_lt, nat_le}
use Rattle.distances.specs.Answered.{of_router}
use Rattle.faults.specs.declared.call.CallFault.{CallFault}
use Rattle.faults.specs.declared.call.CallFault.TheVariants.{Load as load_fault, UndeclaredPath, UndeclaredRouter, NoRouterNamed, AlreadyInjected, NotInjected, ShortBuffer}
use Rattle.faults.specs.declared.load.LoadFault.{LoadFault}
use Rattle.layout.specs.Promise.{Lowest}
use Rattle.layout.specs.Reading.{table_in}
use Rattle.layout.specs.Table.{Declared}
use Rattle.listing.specs.Listing.{list_at}
use Rattle.selection.specs.Laws.{Keeping}
use Rattle.sets.specs.Members.{member, Empty, least_from}
use Rattle.sets.proofs.Digits.{member_below}
use Rattle.sets.proofs.Emptiness.{empty_zero, zero_word}
use Rattle.sets.proofs.LeastFrom.{LeastFrom, least_from_is}
use Rattle.protocol.specs.Moves.Move.{Activated}
use Rattle.protocol.specs.Network.{State}
use Rattle.calls.specs.Calls.{coming, loading_by, stepping_by, answered, reply, report_answer, trace_at}
use Rattle.calls.specs.Promise.{Refuses}
use Rattle.calls.specs.Refusals.{NoSuchRouter, RefusesAction, RefusesQuestion, RefusesReport}
use Rattle.calls.specs.Turns.{World, part_of, answer_to}
use Rattle.calls.specs.declared.action.Action.{Action}
use Rattle.calls.specs.declared.action.Action.TheVariants.{Load, Inject, Withdraw, Restart, Step}
use Rattle.calls.specs.declared.answer.Answer.{Answer}
use Rattle.calls.specs.declared.answer.Answer.TheVariants.{Refused}
use Rattle.calls.specs.declared.call.Call.{Call}
use Rattle.calls.specs.declared.call.Call.TheVariants.{Act, Settle, Reopen, Ask, Report}
use Rattle.calls.specs.declared.question.Question.{Question}
use Rattle.calls.specs.declared.question.Question.TheVariants.{Best, Metric, Known, Advertised, Injected, Settled}
use Rattle.calls.specs.declared.report.Report.{Report as Reported}
use Rattle.calls.specs.declared.report.Report.TheVariants.{Trace, List as list_report}
use Rattle.calls.specs.Typed.{TypedAction, Typed}

module _ {X : Type 0} (fault : CallFault) where
  err_is : (f : CallFault) → (let r : Result X CallFault = Err f in r) ≡ Err fault → fault ≡ f
  err_is f e = cc

  not_ok : (x : X) → Ok x ≡ Err fault → ⊥
  not_ok x e = cc

  -- refused where a number is not below n, and else as x is
  pub refused_below : (a n : ℕ) (f : CallFault) (x : Result X CallFault) → (cond (nat_lt a n) x (Err f) ≡ Err fault) ↔ (((n ≤ a) × (fault ≡ f)) ⊎ ((a < n) × (x ≡ Err fault)))
  refused_below a n f x = (
    λ e.
        elim (cases_lt a n) [
          | inl low ↦ inr (low, sym (cond-true (nat_lt a n) x (Err f) (lt-ltb a n low)) ∙ e)
          | inr high ↦ inl (high, err_is f (sym (cond-false (nat_lt a n) x (Err f) (grind (arith, nat_tests, high))) ∙ e))
        ],
    λ h.
        elim h [
          | inl out ↦ cond-false (nat_lt a n) x (Err f) (grind (arith, nat_tests, out.0)) ∙ ap (λ (g : CallFault). Err g) (sym out.1)
          | inr in_it ↦ cond-true (nat_lt a n) x (Err f) (lt-ltb a n in_it.0) ∙ in_it.1
        ],
  )

  -- refused where a test is true, and where it is false
  pub refused_if : (b : Bool) (f : CallFault) (y : X) → (cond b (Err f) (Ok y) ≡ Err fault) ↔ ((b ≡ true) × (fault ≡ f))
  refused_if true f y = (λ e. (refl, err_is f e), λ h. ap (λ (g : CallFault). Err g) (sym h.1))
  refused_if false f y = (λ e. absurd (not_ok y e), λ h. absurd (false≢true h.0))

  pub refused_unless : (b : Bool) (f : CallFault) (y : X) → (cond b (Ok y) (Err f) ≡ Err fault) ↔ ((b ≡ false) × (fault ≡ f))
  refused_unless true f y = (λ e. absurd (not_ok y e), λ h. absurd (false≢true (sym h.0)))
  refused_unless false f y = (λ e. (refl, err_is f e), λ h. ap (λ (g : CallFault). Err g) (sym h.1))

  -- an answer that tells of no fault is a refusal just where there is a fault
  pub answered_refused : (tells : X → Answer) → ((x : X) → tells x ≡ Refused fault → ⊥) → (r : Result X CallFault) → (answered tells r ≡ Refused fault) ↔ (r ≡ Err fault)
  answered_refused tells other (Ok x) = (λ e. absurd (other x e), λ e. absurd (not_ok x e))
  answered_refused tells other (Err f) = (λ e. cc, λ e. cc)

pub both : {A B C : Type 0} → (A ↔ B) → (B ↔ C) → A ↔ C
both f g = (λ a. g.0 (f.0 a), λ c. f.1 (g.1 c))

-- refused where the number is not below n, and else where a test says so
two_faults :
    {X : Type 0} {P Q : Type 0} (fault f : CallFault) (a n : ℕ) (x : Result X CallFault) → ((x ≡ Err fault) ↔ (P × Q)) →
    (cond (nat_lt a n) x (Err f) ≡ Err fault) ↔ (((n ≤ a) × (fault ≡ f)) ⊎ ((a < n) × P × Q))
two_faults fault f a n x inner =
    let outer = refused_below fault a n f x in (
      λ e.
          elim (outer.0 e) [
            | inl out ↦ inl out
            | inr in_it ↦ let h = inner.0 in_it.1 in inr (in_it.0, h.0, h.1)
          ],
      λ h.
          elim h [
            | inl out ↦ outer.1 (inl out)
            | inr in_it ↦ outer.1 (inr (in_it.0, inner.1 (in_it.1, in_it.2)))
          ],
    )

-- refused just where the number is not below n
pub one_fault : {X : Type 0} (fault f : CallFault) (a n : ℕ) (y : X) → (cond (nat_lt a n) (Ok y) (Err f) ≡ Err fault) ↔ ((n ≤ a) × (fault ≡ f))
one_fault fault f a n y =
    let outer = refused_below fault a n f (Ok y) in (
      λ e.
          elim (outer.0 e) [
            | inl out ↦ out
            | inr in_it ↦ absurd (not_ok fault y in_it.1)
          ],
      λ h. outer.1 (inl h),
    )

module _ (s : State) (fault : CallFault) where
  loading_refused : (r : Result Declared LoadFault) → (loading_by r ≡ Err fault) ↔ ((why : LoadFault) × (r ≡ Err why) × (fault ≡ load_fault why))
  loading_refused (Ok t) = (λ e. absurd (cc), λ h. absurd (let none : ⊥ = cc in none))
  loading_refused (Err why) = (λ e. (why, refl, err_is fault (load_fault why) e), λ h. cc)

  -- the routers of the set that are not declared
  abbrev Undeclared : ℕ → ℕ → Type 0
  Undeclared w u = (member w u ≡ true) × (length s.table.routers ≤ u)

  stepping_refused_by :
      (w : ℕ) → w < 2 ^ 32 → (o : Option ℕ) → LeastFrom 32 w (length s.table.routers) o →
      (stepping_by w o ≡ Err fault) ↔ (((v : ℕ) × Lowest (Undeclared w) v × (fault ≡ UndeclaredRouter v)) ⊎ (Empty w × (fault ≡ NoRouterNamed)))
  stepping_refused_by w word (Some v) found =
      let parts = and_parts (member w v) _ found.1 in
      let here : Undeclared w v = (parts.0, grind (arith, nat_tests, parts.1)) in
      let lowest : Lowest (Undeclared w) v = (here, λ u low h. both_ways _ (found.2 u low) (and_from _ _ h.0 (le-leb _ _ h.1))) in (
        λ e. inl (v, lowest, err_is fault (UndeclaredRouter v) e),
        λ h.
            elim h [
              | inl one ↦
                  let u = one.0 in
                  let same : u ≡ v =
                  elim (cases_lt u v) [
                    | inl low ↦ absurd (lowest.1 u low one.1.0)
                    | inr high ↦
                        elim (cases_lt v u) [
                          | inl low ↦ absurd (one.1.1 v low here)
                          | inr other ↦ omega (arith, high, other)
                        ]
                  ] in
                  ap (λ (x : ℕ). Err (UndeclaredRouter x)) (sym same) ∙ ap (λ (f : CallFault). Err f) (sym one.2)
              | inr none ↦ absurd (both_ways _ (none.0 v) parts.0)
            ],
      )
  stepping_refused_by w word None none =
      let no_one : (v : ℕ) → Lowest (Undeclared w) v → ⊥ = λ v h. both_ways _ (none v (member_below 32 w v word h.0.0)) (and_from _ _ h.0.0 (le-leb _ _ h.0.1)) in
      let test = refused_if fault (eqb w 0) NoRouterNamed (Activated w) in (
        λ e. let h = test.0 e in inr (empty_zero w (eqb-true w 0 h.0), h.1),
        λ h.
            elim h [
              | inl one ↦ absurd (no_one one.0 one.1)
              | inr empty ↦ test.1 (eq-eqb w 0 (zero_word w empty.0), empty.1)
            ],
      )

  pub action_refused : (a : Action) → TypedAction a → (coming s a ≡ Err fault) ↔ RefusesAction s a fault
  action_refused (Load bytes) h = loading_refused (table_in bytes.now)
  action_refused (Inject p) h = two_faults fault (UndeclaredPath p) p (length s.table.paths) _ (refused_if fault (member s.injected p) (AlreadyInjected p) _)
  action_refused (Withdraw p) h = two_faults fault (UndeclaredPath p) p (length s.table.paths) _ (refused_unless fault (member s.injected p) (NotInjected p) _)
  action_refused (Restart v) h = one_fault fault (UndeclaredRouter v) v (length s.table.routers) _
  action_refused (Step w) word = stepping_refused_by w word (least_from 32 w (length s.table.routers)) (least_from_is 32 w (length s.table.routers))

  -- a question about a router is refused just where the router is not declared
  of_declared : {X : Type 0} (tells : X → Answer) → ((x : X) → tells x ≡ Refused fault → ⊥) → (v : ℕ) (y : X) → (answered tells (of_router s.table v (Ok y)) ≡ Refused fault) ↔ NoSuchRouter s v fault
  of_declared tells other v y = both (answered_refused fault tells other _) (one_fault fault (UndeclaredRouter v) v (length s.table.routers) y)

  pub question_refused : (kept : Keeping) (q : Question) → (reply kept s q ≡ Refused fault) ↔ RefusesQuestion s q fault
  question_refused kept (Best v) = of_declared _ (λ x e. cc) v _
  question_refused kept (Metric v) = of_declared _ (λ x e. cc) v _
  question_refused kept (Known v) = of_declared _ (λ x e. cc) v _
  question_refused kept (Advertised v) = of_declared _ (λ x e. cc) v _
  question_refused kept Injected = (λ e. cc, λ h. absurd h)
  question_refused kept Settled = (λ e. cc, λ h. absurd h)

  -- a buffer is too short just where it has fewer bytes
  short : {X : Type 0} (needed room : ℕ) (y : X) → (cond (nat_le needed room) (Ok y) (Err (ShortBuffer needed)) ≡ Err fault) ↔ ((room < needed) × (fault ≡ ShortBuffer needed))
  short needed room y =
      let test = refused_unless fault (nat_le needed room) (ShortBuffer needed) y in (
        λ e. let h = test.0 e in (grind (arith, nat_tests, h.0), h.1),
        λ h. test.1 (grind (arith, nat_tests, h.0), h.1),
      )

  pub report_refused : (r : Reported) (room : ℕ) → (report_answer s r room ≡ Refused fault) ↔ RefusesReport s r room fault
  report_refused (Trace v) room =
      both (answered_refused fault _ (λ x e. cc) (trace_at s v room))
      (two_faults fault (UndeclaredRouter v) v (length s.table.routers) _ (short 32 room _))
  report_refused list_report room = both (answered_refused fault _ (λ x e. cc) (list_at s.table s.advertised room)) (short 512 room _)

-- whatever the call is
pub call_refused : (kept : Keeping) (w : World) (fault : CallFault) (call : Call) → Typed call → (answer_to kept w call ≡ Refused fault) ↔ Refuses w call fault
call_refused kept w fault (Act a) h = both (answered_refused fault _ (λ x e. cc) (coming w.network a)) (action_refused w.network fault a h)
call_refused kept w fault Settle h = (λ e. cc, λ h. absurd h)
call_refused kept w fault Reopen h = (λ e. cc, λ h. absurd h)
call_refused kept w fault (Ask q) h = question_refused w.network fault kept q
call_refused kept w fault (Report r part) h = report_refused w.network fault r (length (part_of w.bytes part))
