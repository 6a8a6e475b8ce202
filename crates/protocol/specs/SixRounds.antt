-- A network that needs six rounds to settle, and not one less. Assumes nothing.
use Rattle.std.specs.Prelude.{ℕ, List, [], ◌∷◌, ◌++◌, replicate}
use Rattle.layout.specs.Table.{Declared}
use Rattle.layout.specs.WellFormed.{client, reflector}
use Rattle.layout.specs.declared.link.Link.{Link}
use Rattle.layout.specs.declared.path.ExitPath.{ExitPath}
use Rattle.selection.specs.Laws.{Keeping}
use Rattle.selection.specs.Stages.{keep_five_stage}
use Rattle.protocol.specs.Moves.{Move, begun, all_of}
use Rattle.protocol.specs.Moves.Move.{Loaded, Injected, Withdrawn}
use Rattle.protocol.specs.Runs.{AllCome, reached, Rests}
use Rattle.protocol.specs.Settled.{Settled, stretch}

-- a link of metric 1 between routers a and b
abbrev pub link : ℕ → ℕ → Link
link a b = record { ends = record { a = a; b = b }; metric = 1 }

-- an exit path of router v with a preference
abbrev pub exit_at : ℕ → ℕ → ExitPath
exit_at v preference =
    record {
      exit_point = v;
      neighbour_as = v;
      local_pref = preference;
      as_path_len = 1;
      med = 0;
      exit_cost = 0;
      speaker = v;
    }

-- two clusters of a reflector and a client each; each client has an exit path, and path 0 is preferred
abbrev pub two_clusters : Declared
two_clusters =
    record {
      routers = reflector 0 ∷ client 0 ∷ reflector 1 ∷ client 1 ∷ [];
      links = link 0 1 ∷ link 0 2 ∷ link 2 3 ∷ [];
      sessions = [];
      paths = exit_at 1 200 ∷ exit_at 3 100 ∷ [];
    }

-- both paths are injected, and the network settles
abbrev pub both_injected : List Move
both_injected = Loaded two_clusters ∷ Injected 0 ∷ Injected 1 ∷ stretch (all_of 4 7)

-- then the preferred one is withdrawn
abbrev pub preferred_withdrawn : List Move
preferred_withdrawn = both_injected ++ (Withdrawn 0 ∷ [])

-- and then all four routers step at once, so many times: each time is a round
abbrev pub rounds_after : ℕ → List Move
rounds_after n = preferred_withdrawn ++ stretch (replicate n 0b1111)

-- after five rounds the network is not settled: until the third one router 3 still knows path 0 and
-- keeps its own path to itself, and only in the sixth that path reaches router 1
abbrev pub NotByFive : Type 0
NotByFive = Settled keep_five_stage (reached keep_five_stage (rounds_after 5)) → ⊥

-- after six it is, under whichever rule, by what is promised of a run and nothing else
abbrev pub BySix : Type 0
BySix = (kept : Keeping) → Rests kept (rounds_after 6) → Settled kept (reached kept (rounds_after 6))

-- six rounds settle every network, and here five are too few: no smaller number would do
pub record SixRounds : Type 0 where
  -- all this may come to a network
  pub comes : (kept : Keeping) (n : ℕ) → AllCome kept begun (rounds_after n)
  pub settled : Settled keep_five_stage (reached keep_five_stage both_injected)
  pub not_by_five : NotByFive
  pub by_six : BySix
