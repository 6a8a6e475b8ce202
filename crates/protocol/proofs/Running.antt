-- What is promised of whole runs. Assumes nothing.
use Rattle.std.proofs.Common.{◌≡◌, ℕ, List, [], ◌∷◌, ◌++◌, length, sym, refl, ap, ◌∙◌, subst}
use Rattle.selection.specs.Laws.{Keeping, Laws}
use Rattle.protocol.specs.Consistent.{Consistent}
use Rattle.protocol.proofs.Fitting.{Fits}
use Rattle.protocol.specs.Moves.{Move, begun, moved, after_all, activated}
use Rattle.protocol.specs.Moves.Move.{Loaded, Injected, Withdrawn, Restarted, Activated}
use Rattle.costs.specs.Cost.{plain}
use Rattle.layout.specs.Table.{Declared}
use Rattle.packets.specs.Best.{best}
use Rattle.protocol.specs.Network.{State, set_of}
use Rattle.protocol.specs.Packets.{best_of}
use Rattle.protocol.specs.Runs.{Comes, AllCome, reached, Rests}
use Rattle.protocol.specs.Settled.{Settled, stretch, Round, Rounds}
use Rattle.protocol.proofs.Activation.{stays_consistent}
use Rattle.protocol.proofs.Leaving.{all_leave}
use Rattle.protocol.proofs.Moving.{begun_fits, begun_consistent, loaded_consistent, injected_consistent, withdrawn_consistent, restarted_consistent}
use Rattle.protocol.proofs.Quiet.{quiet}
use Rattle.protocol.proofs.Rising.{Below, after}
use Rattle.protocol.proofs.Settling.{settles}
use Rattle.protocol.proofs.Staying.{stays_settled}

pub all_append : (kept : Keeping) (ms ns : List Move) (s : State) → after_all kept s (ms ++ ns) ≡ after_all kept (after_all kept s ms) ns
unfolding after_all
all_append kept [] ns s = refl
all_append kept (m ∷ ms) ns s = all_append kept ms ns (moved kept s m)

pub come_front : (kept : Keeping) (ms ns : List Move) (s : State) → AllCome kept s (ms ++ ns) → AllCome kept s ms
unfolding AllCome
come_front kept [] ns s h = tt
come_front kept (m ∷ ms) ns s h = (h.0, come_front kept ms ns (moved kept s m) h.1)

pub come_back : (kept : Keeping) (ms ns : List Move) (s : State) → AllCome kept s (ms ++ ns) → AllCome kept (after_all kept s ms) ns
unfolding AllCome after_all
come_back kept [] ns s h = h
come_back kept (m ∷ ms) ns s h = come_back kept ms ns (moved kept s m) h.1

pub come_join : (kept : Keeping) (ms ns : List Move) (s : State) → AllCome kept s ms → AllCome kept (after_all kept s ms) ns → AllCome kept s (ms ++ ns)
unfolding AllCome after_all
come_join kept [] ns s h k = k
come_join kept (m ∷ ms) ns s h k = (h.0, come_join kept ms ns (moved kept s m) h.1 k)

-- a stretch leaves the table
pub same_table : (kept : Keeping) (ws : List ℕ) (s : State) → (after kept s ws).table ≡ s.table
unfolding after_all
same_table kept [] s = refl
same_table kept (w ∷ ws) s = same_table kept ws (activated kept s w)

-- a stretch that names declared routers only may come
pub below_comes : (kept : Keeping) (ws : List ℕ) (s : State) → Below (length s.table.routers) ws → AllCome kept s (stretch ws)
unfolding AllCome
below_comes kept [] s few = tt
below_comes kept (w ∷ ws) s few = (few.0, below_comes kept ws (activated kept s w) few.1)

-- a stretch that comes names declared routers only
come_below : (kept : Keeping) (ws : List ℕ) (later : List Move) (s : State) → AllCome kept s (stretch ws ++ later) → Below (length s.table.routers) ws
unfolding AllCome
come_below kept [] later s h = tt
come_below kept (w ∷ ws) later s h = (h.0, come_below kept ws later (activated kept s w) h.1)

module _ {kept : Keeping} (laws : Laws kept) where
  -- a table that fits, and what every network keeps
  abbrev pub Sane : State → Type 0
  Sane s = Fits s.table × Consistent kept s

  pub begun_sane : Sane begun
  begun_sane = (begun_fits laws, begun_consistent laws)

  pub moved_sane : (s : State) (m : Move) → Sane s → Comes s m → Sane (moved kept s m)
  moved_sane s (Loaded t) c h = (record { sound = h.sound; led = h.led; connected = h.connected }, loaded_consistent laws t h)
  moved_sane s (Injected p) c h = (c.0, injected_consistent laws c.0 c.1 p h.0)
  moved_sane s (Withdrawn p) c h = (c.0, withdrawn_consistent laws c.0 c.1 p (c.1.injected_declared p h))
  moved_sane s (Restarted v) c h = (c.0, restarted_consistent laws c.0 c.1 v h)
  moved_sane s (Activated w) c h = (c.0, stays_consistent laws c.1 w h)

  pub all_sane : (ms : List Move) (s : State) → Sane s → AllCome kept s ms → Sane (after_all kept s ms)
  unfolding AllCome after_all
  all_sane [] s c h = c
  all_sane (m ∷ ms) s c h = all_sane ms (moved kept s m) (moved_sane s m c h.0) h.1

  module _ (history : List Move) (come : AllCome kept begun history) where
    module _ (before : List Move) (ws : List ℕ) (later : List Move) (whole : history ≡ before ++ (stretch ws ++ later)) where
      all_come : AllCome kept begun (before ++ (stretch ws ++ later))
      all_come = subst (AllCome kept begun) whole come

      sane_there : Sane (reached kept before)
      sane_there = all_sane before begun begun_sane (come_front kept before (stretch ws ++ later) begun all_come)

      below_there : Below (length (reached kept before).table.routers) ws
      below_there = come_below kept ws later (reached kept before) (come_back kept before (stretch ws ++ later) begun all_come)

      runs_on : (vs : List ℕ) → reached kept (before ++ stretch vs) ≡ after kept (reached kept before) vs
      runs_on vs = all_append kept before (stretch vs) begun

      settles_there : Rounds (length (reached kept before).table.routers) 6 ws → Settled kept (reached kept (before ++ stretch ws))
      settles_there rounds =
          let s = reached kept before in
          subst (Settled kept) (sym (runs_on ws)) (settles laws s.table sane_there.0 s.injected ws s.known s.advertised below_there sane_there.1 rounds)

      same_advertised : Settled kept (reached kept before) → (reached kept (before ++ stretch ws)).advertised ≡ (reached kept before).advertised
      same_advertised settled =
          let s = reached kept before in
          ap (λ (x : State). x.advertised) (runs_on ws) ∙ stays_settled laws s.table sane_there.0 s.injected ws s.known s.advertised below_there sane_there.1 settled

      stays_there :
          Settled kept (reached kept before) →
          ((reached kept (before ++ stretch ws)).advertised ≡ (reached kept before).advertised)
          × ((v : ℕ) → best_of (reached kept (before ++ stretch ws)) v ≡ best_of (reached kept before) v)
      stays_there settled = (
        same_advertised settled,
        λ v.
            ap (λ (t : Declared). best plain t (set_of (reached kept (before ++ stretch ws)).advertised v) v) (ap (λ (x : State). x.table) (runs_on ws) ∙ same_table kept ws (reached kept before))
            ∙ ap (λ (a : List ℕ). best plain (reached kept before).table (set_of a v) v) (same_advertised settled),
      )

      quiet_there :
          Round (length (reached kept before).table.routers) ws →
          ((front back : List ℕ) → ws ≡ front ++ back → (reached kept (before ++ stretch front)).advertised ≡ (reached kept before).advertised) →
          Settled kept (reached kept before)
      quiet_there round unaltered =
          let s = reached kept before in
          quiet laws s.table sane_there.0 s.injected ws s.known s.advertised below_there sane_there.1 round
          (λ front back e. ap (λ (x : State). x.advertised) (sym (runs_on front)) ∙ unaltered front back e)

    pub rests : Rests kept history
    rests =
        record {
          settles = settles_there;
          stays = stays_there;
          quiet = quiet_there;
          leaves = λ before later whole settled.
              let sane = all_sane before begun begun_sane (come_front kept before later begun (subst (AllCome kept begun) whole come)) in
              all_leave laws sane.0 sane.1 settled;
        }
