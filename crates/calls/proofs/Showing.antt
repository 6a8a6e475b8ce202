-- What a call leaves in its turn is of the network as it stands then.
use Rattle.std.proofs.Common.{◌≡◌, ℕ, true, List, [], ◌∷◌, ◌++◌, length, get_or, Decides, refl, ap, ◌∙◌}
use Rattle.std.proofs.lemmas.List.{get_or_at}
use Rattle.selection.specs.Laws.{Keeping, Laws}
use Rattle.protocol.specs.Moves.{after_all}
use Rattle.protocol.specs.Runs.{AllCome}
use Rattle.protocol.specs.Settled.{Settled}
use Rattle.protocol.proofs.Running.{Sane}
use Rattle.calls.specs.Calls.{at_rest}
use Rattle.calls.specs.Promise.{run_of, world_of, AllMade, Shown}
use Rattle.calls.specs.Turns.{World, beginning, moves_of, offered, Run, next, turned}
use Rattle.calls.specs.declared.turn.Turn.{Turn}
use Rattle.calls.proofs.Appending.{rest_of, run_made, run_more, length_turns, goes_on}
use Rattle.calls.specs.Typed.{Typed}
use Rattle.calls.proofs.Doing.{refused_moves, refused_bytes, call_does}
use Rattle.calls.proofs.Refusing.{call_refused}

module _ (kept : Keeping) (bytes : List ℕ) (front : List Turn) (t : Turn) (made : AllMade kept bytes front) (offers : offered (world_of kept bytes front).settled t.call ≡ true) where
  -- the call leaves the run where it goes on
  pub world_next : world_of kept bytes (front ++ (t ∷ [])) ≡ next kept (world_of kept bytes front) t.call
  world_next = ap (λ (r : Run). r.world) (run_more kept bytes front t made offers)

  -- and its turn has what it leaves
  pub turn_at : (back : List Turn) (d : Turn) → get_or (run_of kept bytes (front ++ (t ∷ back))).turns (length front) d ≡ turned kept (world_of kept bytes front) t
  turn_at back d =
      let w = world_of kept bytes front in
      ap (λ (ts : List Turn). get_or ts (length front) d)
      ((goes_on kept bytes front (t ∷ back) made).turns ∙ ap (λ (r : Run). (run_of kept bytes front).turns ++ r.turns) (run_made kept w t back offers))
      ∙ get_or_at (run_of kept bytes front).turns (turned kept w t) (rest_of kept w t back).turns d (length front) (length_turns kept front (beginning bytes))

pub shown_turn :
    {kept : Keeping} (laws : Laws kept) (w : World) → Sane laws w.network → (t : Turn) → Typed t.call → AllCome kept w.network (moves_of w.network t.call) →
    Decides (at_rest kept (next kept w t.call).network) (Settled kept (next kept w t.call).network) → Shown kept w (next kept w t.call) t (turned kept w t)
unfolding after_all
shown_turn {kept} laws w sane t typed come tells =
    record {
      outcome = _;
      made = refl;
      call = refl;
      answered = refl;
      advertised = refl;
      settled = tells;
      bytes = refl;
      refuses = λ fault. call_refused kept w fault t.call typed;
      refused = λ fault e. (ap (after_all kept w.network) (refused_moves kept w fault t.call e), refused_bytes kept w fault t.call e);
      does = λ taken. call_does laws w sane t.call come taken;
    }
