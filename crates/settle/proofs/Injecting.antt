-- Injecting one path after another. Assumes nothing.
use Rattle.std.specs.Prelude.{⊤}
use Rattle.std.specs.Result.{is_err}
use Rattle.std.proofs.Common.{◌≡◌, ℕ, ◌+◌, ◌-◌, ◌^◌, ◌<◌, ◌≤◌, Bool, true, false, cond, length, Ok, Err, Result, bit_or, sym, refl, ap, ◌∙◌, subst, inl, inr, arith}
use Rattle.std.proofs.lemmas.Bool.{both_ways, cases_lt, lt-ltb, le-ltb}
use Rattle.std.proofs.lemmas.Bool.Decides.{nat_tests}
use Rattle.faults.specs.declared.call.CallFault.{CallFault}
use Rattle.faults.specs.declared.call.CallFault.TheVariants.{UndeclaredPath, AlreadyInjected}
use Rattle.layout.specs.Table.{Declared}
use Rattle.selection.specs.Laws.{Keeping}
use Rattle.sets.specs.Members.{member}
use Rattle.sets.proofs.Operations.{member_first}
use Rattle.sets.proofs.Same.{same_set}
use Rattle.sets.proofs.Single.{member_with}
use Rattle.calls.specs.Calls.{injecting, done}
use Rattle.protocol.specs.Moves.Move.{Injected}
use Rattle.protocol.specs.Network.{State}

-- the paths of a table below p are injected, and no others
pub record InjectedBelow (t : Declared) (p : ℕ) (s : State) : Type 0 where
  pub table : s.table ≡ t
  pub injected : s.injected ≡ 2 ^ p - 1
  pub declared : p ≤ length t.paths

-- with p, the numbers below it are those below its successor
one_more : (p : ℕ) → bit_or (2 ^ p - 1) (2 ^ p) ≡ 2 ^ (p + 1) - 1
one_more p =
    same_set (bit_or (2 ^ p - 1) (2 ^ p)) (2 ^ (p + 1) - 1)
    (λ k. grind (arith, nat_tests, member_with (2 ^ p - 1) p k, member_first p k, member_first (p + 1) k))

-- the next path is injected, or else there is none
module _ (kept : Keeping) (t : Declared) (p : ℕ) (s : State) (below : InjectedBelow t p s) where
  accepted : p < length s.table.paths → injecting s p ≡ Ok (Injected p)
  accepted declared =
      let fresh : member s.injected p ≡ false = ap (λ w. member w p) below.injected ∙ member_first p p ∙ le-ltb p p (omega arith) in
      ap (λ (b : Bool). cond b (cond (member s.injected p) (Err (AlreadyInjected p)) (Ok (Injected p))) (Err (UndeclaredPath p))) (lt-ltb p (length s.table.paths) declared)
      ∙ ap (λ (b : Bool). cond b (Err (AlreadyInjected p)) (Ok (Injected p))) fresh

  refused : length s.table.paths ≤ p → injecting s p ≡ Err (UndeclaredPath p)
  refused past =
      ap (λ (b : Bool). cond b (cond (member s.injected p) (Err (AlreadyInjected p)) (Ok (Injected p))) (Err (UndeclaredPath p))) (le-ltb p (length s.table.paths) past)

  abbrev pub Next : Result ⊤ CallFault × State → Type 0
  Next r = (is_err r.0 ≡ false → InjectedBelow t (p + 1) r.1) × (is_err r.0 ≡ true → InjectedBelow t (length t.paths) r.1)

  pub next : (r : Result ⊤ CallFault × State) → r ≡ done kept s (injecting s p) → Next r
  next r is =
      elim (cases_lt p (length s.table.paths)) [
        | inl declared ↦
            subst Next (sym (is ∙ ap (done kept s) (accepted declared))) (
              λ e. record {
                table = below.table;
                injected = ap (λ w. bit_or w (2 ^ p)) below.injected ∙ one_more p;
                declared = omega (arith, declared, ap (λ (x : Declared). length x.paths) below.table);
              },
              λ e. absurd (both_ways false refl e),
            )
        | inr past ↦
            let all : p ≡ length t.paths = omega (arith, past, below.declared, ap (λ (x : Declared). length x.paths) below.table) in
            subst Next (sym (is ∙ ap (done kept s) (refused past)))
            (λ e. absurd (both_ways true e refl), λ e. subst (λ n. InjectedBelow t n s) all below)
      ]
