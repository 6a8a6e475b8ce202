-- What happens to a network by a call may come to it.
use Rattle.std.proofs.Common.{◌≡◌, ℕ, ◌^◌, ◌<◌, length, Some, None, Ok, Err, Option, Result, refl, inl, inr}
use Rattle.std.proofs.lemmas.Bool.{both_ways, cases_lt, cond_both, ltb-true, and_from, le-leb}
use Rattle.std.specs.Prelude.{nat_lt, ◌==◌}
use Rattle.faults.specs.declared.call.CallFault.TheVariants.{UndeclaredRouter, NoRouterNamed, AlreadyInjected, NotInjected}
use Rattle.faults.specs.declared.load.LoadFault.{LoadFault}
use Rattle.layout.specs.Reading.{table_in}
use Rattle.layout.specs.Table.{Declared}
use Rattle.layout.specs.WellFormed.{WellFormed}
use Rattle.selection.specs.Laws.{Keeping}
use Rattle.sets.specs.Members.{member, least_from}
use Rattle.sets.proofs.Digits.{member_below}
use Rattle.sets.proofs.LeastFrom.{LeastFrom, least_from_is}
use Rattle.protocol.specs.Consistent.{Declares}
use Rattle.protocol.specs.Moves.Move.{Injected, Withdrawn, Restarted, Activated}
use Rattle.protocol.specs.Moves.{all_of}
use Rattle.protocol.specs.Network.{State}
use Rattle.protocol.specs.Runs.{AllCome}
use Rattle.protocol.specs.Settled.{stretch}
use Rattle.protocol.proofs.Resting.{all_of_below}
use Rattle.protocol.proofs.Running.{below_comes}
use Rattle.calls.specs.Calls.{Coming, coming, loading_by, injecting, withdrawing, restarting, stepping_by, stepping}
use Rattle.calls.specs.Turns.{of_moves, moves_of}
use Rattle.calls.specs.Typed.{TypedAction, Typed}
use Rattle.calls.specs.declared.action.Action.{Action}
use Rattle.calls.specs.declared.action.Action.TheVariants.{Load, Inject, Withdraw, Restart, Step}
use Rattle.calls.specs.declared.call.Call.{Call}
use Rattle.calls.specs.declared.call.Call.TheVariants.{Act, Settle, Reopen, Ask, Report}

-- where the least number past the last router is looked for and none is found, the set names declared routers only
pub none_undeclared : (s : State) (w : ℕ) → w < 2 ^ 32 → LeastFrom 32 w (length s.table.routers) None → Declares s w
none_undeclared s w word none v m =
    elim (cases_lt v (length s.table.routers)) [
      | inl below ↦ below
      | inr past ↦ absurd (both_ways _ (none v (member_below 32 w v word m)) (and_from _ _ m (le-leb _ _ past)))
    ]

module _ (kept : Keeping) (s : State) where
  -- what a call comes to may come
  abbrev pub Comes_by : Coming → Type 0
  Comes_by c = AllCome kept s (of_moves c)

  pub loading_comes : (r : Result Declared LoadFault) → ((t : Declared) → r ≡ Ok t → WellFormed t) → Comes_by (loading_by r)
  unfolding AllCome
  loading_comes (Ok t) sound = (sound t refl, tt)
  loading_comes (Err fault) sound = tt

  pub injecting_comes : (p : ℕ) → Comes_by (injecting s p)
  unfolding AllCome
  injecting_comes p =
      cond_both (nat_lt p (length s.table.paths)) _ _ Comes_by
      (λ declared.
      cond_both (member s.injected p) (Err (AlreadyInjected p)) (Ok (Injected p)) Comes_by (λ injected. tt) (λ new. ((ltb-true _ _ declared, new), tt)))
      (λ undeclared. tt)

  pub withdrawing_comes : (p : ℕ) → Comes_by (withdrawing s p)
  unfolding AllCome
  withdrawing_comes p =
      cond_both (nat_lt p (length s.table.paths)) _ _ Comes_by
      (λ declared. cond_both (member s.injected p) (Ok (Withdrawn p)) (Err (NotInjected p)) Comes_by (λ injected. (injected, tt)) (λ other. tt))
      (λ undeclared. tt)

  pub restarting_comes : (v : ℕ) → Comes_by (restarting s v)
  unfolding AllCome
  restarting_comes v = cond_both (nat_lt v (length s.table.routers)) (Ok (Restarted v)) (Err (UndeclaredRouter v)) Comes_by (λ declared. (ltb-true _ _ declared, tt)) (λ undeclared. tt)

  stepping_comes_by : (w : ℕ) → w < 2 ^ 32 → (o : Option ℕ) → LeastFrom 32 w (length s.table.routers) o → Comes_by (stepping_by w o)
  unfolding AllCome
  stepping_comes_by w word (Some v) found = tt
  stepping_comes_by w word None none = cond_both (w == 0) (Err NoRouterNamed) (Ok (Activated w)) Comes_by (λ empty. tt) (λ some. (none_undeclared s w word none, tt))

  pub stepping_comes : (w : ℕ) → w < 2 ^ 32 → Comes_by (stepping s w)
  stepping_comes w word = stepping_comes_by w word (least_from 32 w (length s.table.routers)) (least_from_is 32 w (length s.table.routers))

  pub settling_comes : AllCome kept s (stretch (all_of (length s.table.routers) 7))
  settling_comes = below_comes kept (all_of (length s.table.routers) 7) s (all_of_below (length s.table.routers) 7)

  pub action_comes : (a : Action) → TypedAction a → Comes_by (coming s a)
  action_comes (Load bytes) reads = loading_comes (table_in bytes.now) (λ t e. (reads.accepted t e).0)
  action_comes (Inject p) h = injecting_comes p
  action_comes (Withdraw p) h = withdrawing_comes p
  action_comes (Restart v) h = restarting_comes v
  action_comes (Step w) word = stepping_comes w word

  pub call_comes : (call : Call) → Typed call → AllCome kept s (moves_of s call)
  unfolding AllCome
  call_comes (Act a) h = action_comes a h
  call_comes Settle h = settling_comes
  call_comes Reopen h = tt
  call_comes (Ask q) h = tt
  call_comes (Report r part) h = tt
