-- What the calls come to that change a network.
use Rattle.std.proofs.Common.{◌≡◌, ℕ, ◌-◌, ◌^◌, ◌<◌, true, false, cond, length, bit_and, bit_or, nat_lt, Ok, Err, sym, ap, ◌∙◌, arith}
use Rattle.std.proofs.lemmas.Bool.{cond-true, lt-ltb}
use Rattle.std.proofs.lemmas.Bool.Decides.{nat_tests}
use Rattle.faults.specs.declared.call.CallFault.{CallFault}
use Rattle.packets.specs.Best.{exit_of}
use Rattle.selection.specs.Laws.{Keeping}
use Rattle.sets.specs.Members.{member}
use Rattle.protocol.specs.Moves.{Move, moved, knowing, injected_at, withdrawn_at}
use Rattle.protocol.specs.Moves.Move.{Injected, Withdrawn, Restarted}
use Rattle.protocol.specs.Network.{State, set_of}
use Rattle.calls.specs.Calls.{Coming, injecting, withdrawing, restarting, done}

-- an answer that was given, where one is given only for numbers below n
pub given : {X : Type 0} {n a : ℕ} {x y : X} (fault : CallFault) → Ok y ≡ cond (nat_lt a n) (Ok x) (Err fault) → (a < n) × (y ≡ x)
given fault is = (grind (arith, nat_tests), grind (arith, nat_tests))

module _ (kept : Keeping) (s : State) where
  -- the answer and the network afterwards
  pub ends : {x : State} {m : Move} (come : Coming) → come ≡ Ok m → x ≡ moved kept s m → (Ok tt, x) ≡ done kept s come
  ends come is after = ap (λ (y : State). (Ok tt, y)) after ∙ ap (done kept s) (sym is)

  pub injects : (p : ℕ) {v i k : ℕ} → v ≡ exit_of s.table p → i ≡ bit_or s.injected (2 ^ p) → k ≡ bit_or (set_of s.known v) (2 ^ p) → knowing kept s i v k ≡ injected_at kept s p (exit_of s.table p)
  injects p {v} {i} {k} at injected known = ap (λ (x : ℕ). knowing kept s x v k) injected ∙ ap (knowing kept s (bit_or s.injected (2 ^ p)) v) known ∙ ap (injected_at kept s p) at

  pub withdraws : (p : ℕ) {v i k : ℕ} → v ≡ exit_of s.table p → i ≡ bit_and s.injected (2 ^ 64 - 1 - 2 ^ p) → k ≡ bit_and (set_of s.known v) (2 ^ 64 - 1 - 2 ^ p) → knowing kept s i v k ≡ withdrawn_at kept s p (exit_of s.table p)
  withdraws p {v} {i} {k} at injected known = ap (λ (x : ℕ). knowing kept s x v k) injected ∙ ap (knowing kept s (bit_and s.injected (2 ^ 64 - 1 - 2 ^ p)) v) known ∙ ap (withdrawn_at kept s p) at

  -- a path comes that is declared, and was not there; and one goes that was there
  pub may_inject : (p : ℕ) → p < length s.table.paths → member s.injected p ≡ false → injecting s p ≡ Ok (Injected p)
  may_inject p below fresh = grind (arith, nat_tests)

  pub may_withdraw : (p : ℕ) → p < length s.table.paths → member s.injected p ≡ true → withdrawing s p ≡ Ok (Withdrawn p)
  may_withdraw p below there = grind (arith, nat_tests)

-- a router restarts that is declared
pub may_restart : (s : State) (v : ℕ) → v < length s.table.routers → restarting s v ≡ Ok (Restarted v)
may_restart s v below = cond-true (nat_lt v (length s.table.routers)) _ _ (lt-ltb _ _ below)
