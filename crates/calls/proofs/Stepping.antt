-- A run of calls in a loop, one call more at a time.
use Rattle.std.proofs.Common.{◌≡◌, ℕ, ◌+◌, ◌<◌, ◌≤◌, true, false, List, [], ◌∷◌, ◌++◌, length, take, drop, get_or, set, append-nil, append_assoc, sym, refl, ap, ◌∙◌, subst, inl, inr, arith}
use Rattle.std.proofs.lemmas.Bool.{cases_lt}
use Rattle.std.proofs.lemmas.List.{length-take-le, take_all, take_more, drop_more, drop_all, take-append-drop, get_or_at, get_or_default, set_at, set-get_or}
use Rattle.selection.specs.Laws.{Keeping, Laws}
use Rattle.protocol.specs.Moves.{Move, begun, after_all}
use Rattle.protocol.specs.Network.{State}
use Rattle.protocol.specs.Runs.{AllCome}
use Rattle.protocol.specs.Settled.{Settled}
use Rattle.protocol.proofs.Running.{Sane, come_join}
use Rattle.calls.specs.Promise.{run_of, world_of, Plays}
use Rattle.calls.specs.Turns.{World, beginning, moves_of, offered, Run, next, turned, run}
use Rattle.calls.specs.declared.turn.Turn.{Turn}
use Rattle.calls.proofs.Appending.{joined, stops_at, one_more, run_more, run_no_more, length_turns, reaches}
use Rattle.calls.specs.Typed.{Typed}
use Rattle.calls.proofs.Playing.{network_sane, network_settled, plays}

-- the first i calls were made: what the turns hold now, and where the run stands
pub record SoFar (kept : Keeping) (bytes : List ℕ) (turns : List Turn) (i : ℕ) (now : List Turn) (w : World) : Type 0 where
  pub within : i ≤ length turns
  pub made : (run_of kept bytes (take i turns)).made ≡ i
  pub turns_so_far : now ≡ (run_of kept bytes (take i turns)).turns ++ drop i turns
  pub world : w ≡ world_of kept bytes (take i turns)
  pub come : AllCome kept begun (run_of kept bytes (take i turns)).moves
  pub typed : (k : ℕ) (d : Turn) → k < i → Typed (get_or turns k d).call

-- no further call is made
pub record Ended (kept : Keeping) (bytes : List ℕ) (turns : List Turn) (i : ℕ) (now : List Turn) (w : World) : Type 0 where
  pub made : i ≡ (run_of kept bytes turns).made
  pub turns_are : now ≡ (run_of kept bytes turns).turns
  pub world : w ≡ world_of kept bytes turns
  pub plays : Plays kept bytes turns

module _ (kept : Keeping) (bytes : List ℕ) where
  joined_nothing : (r : Run) → r ≡ joined r (stops_at kept r.world [])
  joined_nothing r =
      let none : r.made ≡ r.made + 0 = omega arith in
      ap (λ (n : ℕ). record { turns = r.turns; moves = r.moves; made = n; world = r.world }) none
      ∙ ap (λ (ts : List Turn). record { turns = ts; moves = r.moves; made = r.made + 0; world = r.world }) (sym (append-nil r.turns))
      ∙ ap (λ (ms : List Move). record { turns = r.turns ++ []; moves = ms; made = r.made + 0; world = r.world }) (sym (append-nil r.moves))

  module _ (turns : List Turn) where
    pub so_far_begins : SoFar kept bytes turns 0 turns (beginning bytes)
    unfolding run AllCome
    so_far_begins = record { within = omega arith; made = refl; turns_so_far = refl; world = refl; come = tt; typed = λ k d low. absurd (omega (arith, low)) }

    module _ {i : ℕ} {now : List Turn} {w : World} (so : SoFar kept bytes turns i now w) where
      abbrev first : List Turn
      first = take i turns

      all_made : (run_of kept bytes first).made ≡ length first
      all_made = so.made ∙ sym (length-take-le i turns so.within)

      long : length (run_of kept bytes first).turns ≡ i
      long = length_turns kept first (beginning bytes) ∙ length-take-le i turns so.within

      -- the turns that come next are as they were
      pub not_yet : (d : Turn) → i < length turns → get_or now i d ≡ get_or turns i d
      not_yet d more =
          ap (λ (ts : List Turn). get_or ts i d) (so.turns_so_far ∙ ap (λ (ts : List Turn). (run_of kept bytes first).turns ++ ts) (drop_more turns i d more))
          ∙ get_or_at (run_of kept bytes first).turns (get_or turns i d) (drop (i + 1) turns) d i long

      -- the next call: what its turn and the world are, as the code finds them
      module _ (d : Turn) (more : i < length turns) {after : Turn} {w' : World} where
        -- it is offered and made
        pub one_made :
            offered w.settled (get_or now i d).call ≡ true → Typed (get_or now i d).call → AllCome kept w.network (moves_of w.network (get_or now i d).call) → after ≡ turned kept w (get_or now i d) →
            w' ≡ next kept w (get_or now i d).call → SoFar kept bytes turns (i + 1) (set now i after) w'
        one_made offers typed comes after_is w_is =
            let t = get_or now i d in
            let r = run_of kept bytes first in
            let n = world_of kept bytes first in
            let next_is = not_yet d more in
            let offers' : offered n.settled t.call ≡ true = ap (λ (x : World). offered x.settled t.call) (sym so.world) ∙ offers in
            let run_is : run_of kept bytes (take (i + 1) turns) ≡ one_more kept bytes first t =
            ap (run_of kept bytes) (take_more turns i d more ∙ ap (λ (x : Turn). first ++ (x ∷ [])) (sym next_is)) ∙ run_more kept bytes first t all_made offers' in
            let come_there : AllCome kept (after_all kept begun r.moves) (moves_of n.network t.call ++ []) =
            subst (λ (x : State). AllCome kept x (moves_of n.network t.call ++ [])) (reaches kept bytes first)
            (subst (AllCome kept n.network) (sym (append-nil (moves_of n.network t.call))) (subst (λ (x : World). AllCome kept x.network (moves_of x.network t.call)) so.world comes)) in
            record {
              within = omega arith;
              made = omega (arith, ap (λ (x : Run). x.made) run_is, so.made);
              turns_so_far =
                  ap (λ (ts : List Turn). set ts i after) (so.turns_so_far ∙ ap (λ (ts : List Turn). r.turns ++ ts) (drop_more turns i d more))
                  ∙ set_at r.turns (get_or turns i d) (drop (i + 1) turns) after i long
                  ∙ ap (λ (x : Turn). r.turns ++ (x ∷ drop (i + 1) turns)) (after_is ∙ ap (λ (x : World). turned kept x t) so.world)
                  ∙ sym (append_assoc r.turns (turned kept n t ∷ []) (drop (i + 1) turns))
                  ∙ ap (λ (x : Run). x.turns ++ drop (i + 1) turns) (sym run_is);
              world = w_is ∙ ap (λ (x : World). next kept x t.call) so.world ∙ ap (λ (x : Run). x.world) (sym run_is);
              come = subst (λ (x : Run). AllCome kept begun x.moves) (sym run_is) (come_join kept r.moves (moves_of n.network t.call ++ []) begun so.come come_there);
              typed = λ k e low.
                  elim (cases_lt k i) [
                    | inl before ↦ so.typed k e before
                    | inr past ↦
                        let here : k ≡ i = omega (arith, low, past) in
                        let same : get_or turns k e ≡ t = ap (λ (j : ℕ). get_or turns j e) here ∙ get_or_default turns i e d more ∙ sym next_is in
                        subst (λ (u : Turn). Typed u.call) (sym same) typed
                  ];
            }

      -- where no call is left, or the next one is not offered
      ends_by : Laws kept → (rest : List Turn) → drop i turns ≡ rest → run_of kept bytes turns ≡ joined (run_of kept bytes first) (stops_at kept (world_of kept bytes first) rest) → Ended kept bytes turns i now w
      ends_by laws rest left is =
          let r = run_of kept bytes first in
          let moves : r.moves ≡ (run_of kept bytes turns).moves = sym (append-nil r.moves) ∙ ap (λ (x : Run). x.moves) (sym is) in
          let count : i ≡ (run_of kept bytes turns).made = omega (arith, so.made, ap (λ (x : Run). x.made) is) in
          record {
            made = count;
            turns_are = so.turns_so_far ∙ ap (λ (ts : List Turn). r.turns ++ ts) left ∙ ap (λ (x : Run). x.turns) (sym is);
            world = so.world ∙ ap (λ (x : Run). x.world) (sym is);
            plays = plays laws bytes turns (subst (AllCome kept begun) moves so.come) (λ k e low. so.typed k e (omega (arith, low, count)));
          }

      pub ran_out : Laws kept → length turns ≤ i → Ended kept bytes turns i now w
      ran_out laws all =
          let whole = take_all i turns all in
          ends_by laws [] (drop_all i turns all) (ap (run_of kept bytes) (sym whole) ∙ joined_nothing (run_of kept bytes first))

      module _ (laws : Laws kept) (d : Turn) (more : i < length turns) {after : Turn} {w' : World} where
        -- it is not offered, and nothing was done
        pub none_made : offered w.settled (get_or now i d).call ≡ false → after ≡ get_or now i d → w' ≡ w → Ended kept bytes turns i (set now i after) w'
        none_made stops after_is w_is =
            let t = get_or now i d in
            let left : drop i turns ≡ t ∷ drop (i + 1) turns = drop_more turns i d more ∙ ap (λ (x : Turn). x ∷ drop (i + 1) turns) (sym (not_yet d more)) in
            let whole : turns ≡ first ++ (t ∷ drop (i + 1) turns) = sym (take-append-drop i turns) ∙ ap (λ (ts : List Turn). first ++ ts) left in
            let stops' : offered (world_of kept bytes first).settled t.call ≡ false = ap (λ (x : World). offered x.settled t.call) (sym so.world) ∙ stops in
            let there = ends_by laws (t ∷ drop (i + 1) turns) left (ap (run_of kept bytes) whole ∙ run_no_more kept bytes first t (drop (i + 1) turns) all_made stops') in
            record {
              made = there.made;
              turns_are = ap (set now i) after_is ∙ set-get_or now i d ∙ there.turns_are;
              world = w_is ∙ there.world;
              plays = there.plays;
            }

      -- what a network keeps, it has kept so far
      pub sane_so_far : (laws : Laws kept) → Sane laws w.network
      sane_so_far laws = subst (λ (x : World). Sane laws x.network) (sym so.world) (network_sane laws bytes first so.come)

      pub settled_so_far : Laws kept → w.settled ≡ true → Settled kept w.network
      settled_so_far laws is = subst (λ (x : World). Settled kept x.network) (sym so.world) (network_settled laws bytes first so.come (ap (λ (x : World). x.settled) (sym so.world) ∙ is))
