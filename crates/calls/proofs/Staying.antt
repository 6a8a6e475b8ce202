-- After settling, and until it is reopened, a network is settled.
use Rattle.std.proofs.Common.{◌≡◌, true, List, [], ◌∷◌, length, sym, refl, subst, inl, inr}
use Rattle.std.proofs.lemmas.Bool.{both_ways, cases_Bool, not-true, false≢true}
use Rattle.selection.specs.Laws.{Keeping, Laws}
use Rattle.protocol.specs.Moves.{after_all, all_of}
use Rattle.protocol.specs.Network.{State}
use Rattle.protocol.specs.Runs.{AllCome}
use Rattle.protocol.specs.Settled.{Settled, stretch, Rounds}
use Rattle.protocol.proofs.Resting.{all_of_rounds, all_of_below}
use Rattle.protocol.proofs.Running.{Sane, come_front, come_back, all_sane}
use Rattle.protocol.proofs.Settling.{more_after, parted, settles}
use Rattle.calls.specs.Turns.{World, moves_of, offered, Run, next, run}
use Rattle.calls.specs.declared.call.Call.{Call}
use Rattle.calls.specs.declared.call.Call.TheVariants.{Act, Settle, Reopen, Ask, Report}
use Rattle.calls.specs.declared.turn.Turn.{Turn}
use Rattle.calls.proofs.Appending.{goes_through, run_none, rest_of, run_made, run_stops}

module _ {kept : Keeping} (laws : Laws kept) where
  -- seven rounds settle
  pub settle_settles : (s : State) → Sane laws s → Settled kept (after_all kept s (stretch (all_of (length s.table.routers) 7)))
  settle_settles s sane =
      let n = length s.table.routers in
      let parts = parted n 6 1 7 (all_of n 7) refl (all_of_rounds n 7) in
      settles laws s.table sane.0 s.injected (all_of n 7) s.known s.advertised (all_of_below n 7) sane.1
      (subst (Rounds n 6) (sym parts.whole) (more_after n 6 parts.front parts.back parts.first))

  -- what is known of a network where it was settled and not reopened
  abbrev pub Kept : World → Type 0
  Kept w = w.settled ≡ true → Settled kept w.network

  -- a call that is offered keeps it
  pub call_keeps : (w : World) (call : Call) → Sane laws w.network → offered w.settled call ≡ true → Kept w → Kept (next kept w call)
  unfolding after_all
  call_keeps w (Act a) sane offers settled is = absurd (both_ways w.settled (not-true w.settled offers) is)
  call_keeps w Settle sane offers settled is = settle_settles w.network sane
  call_keeps w Reopen sane offers settled is = absurd (false≢true is)
  call_keeps w (Ask q) sane offers settled is = settled is
  call_keeps w (Report r part) sane offers settled is = settled is

  -- and so does a run
  abbrev pub RunKeeps : World → Run → Type 0
  RunKeeps w r = AllCome kept w.network r.moves → Kept r.world

  pub run_keeps : (ts : List Turn) (w : World) → Sane laws w.network → Kept w → RunKeeps w (run kept w ts)
  run_keeps [] w sane settled = subst (RunKeeps w) (sym (run_none kept w)) (λ come. settled)
  run_keeps (t ∷ ts) w sane settled =
      elim (cases_Bool (offered w.settled t.call)) [
        | inl m ↦
            let rest = rest_of kept w t ts in
            let on : RunKeeps w (goes_through kept w t rest) = λ come.
            let sane_there = all_sane laws (moves_of w.network t.call) w.network sane (come_front kept (moves_of w.network t.call) rest.moves w.network come) in
            run_keeps ts (next kept w t.call) sane_there (call_keeps w t.call sane m settled) (come_back kept (moves_of w.network t.call) rest.moves w.network come) in
            subst (RunKeeps w) (sym (run_made kept w t ts m)) on
        | inr stops ↦ subst (RunKeeps w) (sym (run_stops kept w t ts stops)) (λ come. settled)
      ]
