-- The worked cases that are proved: one list, and what it is for a case to hold. Assumes nothing.
use Rattle.std.specs.Prelude.{◌≡◌, ℕ, ◌^◌, List, [], ◌∷◌, ◌++◌, length, map, take, Some, None, Ok, Err, Option, Result, bit_or}
use Rattle.std.specs.List.{range_with_len}
use Rattle.calls.specs.Turns.{moves_of}
use Rattle.calls.specs.declared.action.Action.TheVariants.{Inject, Withdraw, Step}
use Rattle.calls.specs.declared.call.Call.{Call}
use Rattle.calls.specs.declared.call.Call.TheVariants.{Act, Settle, Reopen}
use Rattle.costs.specs.Cost.{plain}
use Rattle.faults.specs.Faults.{number_of, place_of}
use Rattle.faults.specs.declared.load.LoadFault.{LoadFault}
use Rattle.layout.specs.Reading.{table_in}
use Rattle.layout.specs.Table.{Declared}
use Rattle.packets.specs.Best.{best, metric}
use Rattle.packets.specs.Ways.{way}
use Rattle.packets.specs.WaysPlain.{links_cost}
use Rattle.protocol.specs.Moves.{loaded, after_all}
use Rattle.protocol.specs.Network.{State}
use Rattle.protocol.specs.Packets.{best_of, way_of}
use Rattle.selection.specs.Laws.{Heritage, Keeping, Laws, declared_of}
use Rattle.selection.specs.Stages.{keep_all, keep_compare_always, keep_five_stage}

pub data Case : Type 0 where
  -- the table of these bytes is refused with this number at this place
  refused : List ℕ → ℕ → ℕ → Case
  -- of these paths of the worked table, these are kept
  keeps : (Declared → Keeping) → List ℕ → List ℕ → Case
  -- what is so kept of the worked table's paths is against heritage, and so is no rule
  breaks : (Declared → Keeping) → Case
  -- of these paths of the worked table, the routers take these, one each, with these metrics
  takes : List ℕ → List ℕ → List ℕ → Case
  -- a packet from a router, where all take their best of these paths, meets these routers and leaves by this path
  meets : List ℕ → ℕ → List ℕ → ℕ → Case
  -- the links from a router over these others, from each to the next, cost so much
  spends : ℕ → List ℕ → ℕ → Case
  -- after these calls on the network of the worked table, in which all paths were injected, the routers know these paths, one set each
  knows : List Call → List (List ℕ) → Case
  -- and then they advertise these
  advertises : List Call → List (List ℕ) → Case
  -- and then they take these best paths of what they advertise, one each, with these metrics
  picks : List Call → List (Option (ℕ × ℕ)) → Case
  -- and then a packet from a router meets these routers and leaves by this path
  sends : List Call → ℕ → List ℕ → ℕ → Case

-- two reflectors with one client each, and three exit paths: of each record the kind, and then the body
abbrev pub worked_table : List ℕ
worked_table =
    0x01 ∷ 0 ∷ 1
    ∷ 0x01 ∷ 0 ∷ 0
    ∷ 0x01 ∷ 1 ∷ 1
    ∷ 0x01 ∷ 1 ∷ 0
    ∷ 0x02 ∷ 0 ∷ 1 ∷ 0 ∷ 10
    ∷ 0x02 ∷ 0 ∷ 2 ∷ 0 ∷ 1
    ∷ 0x02 ∷ 2 ∷ 3 ∷ 0 ∷ 4
    ∷ 0x04 ∷ 1 ∷ 0 ∷ 0 ∷ 0 ∷ 100 ∷ 0 ∷ 0 ∷ 0 ∷ 100 ∷ 2 ∷ 0 ∷ 0 ∷ 0 ∷ 5 ∷ 0 ∷ 0 ∷ 0 ∷ 0 ∷ 0 ∷ 9
    ∷ 0x04 ∷ 3 ∷ 0 ∷ 0 ∷ 0 ∷ 100 ∷ 0 ∷ 0 ∷ 0 ∷ 100 ∷ 2 ∷ 0 ∷ 0 ∷ 0 ∷ 0 ∷ 0 ∷ 0 ∷ 0 ∷ 0 ∷ 0 ∷ 8
    ∷ 0x04 ∷ 1 ∷ 0 ∷ 0 ∷ 0 ∷ 200 ∷ 0 ∷ 0 ∷ 0 ∷ 100 ∷ 2 ∷ 0 ∷ 0 ∷ 0 ∷ 7 ∷ 0 ∷ 3 ∷ 0 ∷ 0 ∷ 0 ∷ 7
    ∷ []

-- the number and the place of a refusal
abbrev pub refusal : Result Declared LoadFault → Option (ℕ × ℕ)
refusal (Ok t) = None
refusal (Err fault) = Some (number_of fault, place_of fault)

-- the set of these numbers
abbrev pub set_of : List ℕ → ℕ
set_of [] = 0
set_of (n ∷ ns) = bit_or (2 ^ n) (set_of ns)

-- the set of the one number, where there is one
abbrev pub one_of : Option ℕ → ℕ
one_of None = 0
one_of (Some p) = 2 ^ p

-- what is kept of a set of the table's paths
abbrev pub kept_of : (Declared → Keeping) → Declared → ℕ → ℕ
kept_of kept t s = kept t t.paths (declared_of t.paths s)

-- the best path of router v among what the five-stage rule keeps, taken for a rule
abbrev pub keep_best : ℕ → Declared → Keeping
keep_best v t xs s = one_of (best plain (record t { paths = xs }) (keep_five_stage xs s) v)

-- the best path of each router, and its metric there
abbrev pub best_paths : Declared → ℕ → List (Option ℕ)
best_paths t s = map (best plain t s) (range_with_len 0 (length t.routers))

abbrev pub best_metric : Declared → ℕ → Option ℕ → Option ℕ
best_metric t v None = None
best_metric t v (Some p) = Some (metric plain t v p)

abbrev pub best_metrics : Declared → ℕ → List (Option ℕ)
best_metrics t s = map (λ v. best_metric t v (best plain t s v)) (range_with_len 0 (length t.routers))

-- the network after one call after another
abbrev pub after_calls : State → List Call → State
after_calls s [] = s
after_calls s (c ∷ cs) = after_calls (after_all keep_five_stage s (moves_of s c)) cs

-- the network of a table, after these calls behind the injections of its three paths
abbrev pub network_after : List Call → Declared → State
network_after calls t =
    after_calls (loaded t) (Act (Inject 0) ∷ Act (Inject 1) ∷ Act (Inject 2) ∷ calls)

-- a path with its metric at router v
abbrev pub with_metric : Declared → ℕ → Option ℕ → Option (ℕ × ℕ)
with_metric t v None = None
with_metric t v (Some p) = Some (p, metric plain t v p)

-- the best path of each router of what it advertises, with its metric there
abbrev pub choices : State → List (Option (ℕ × ℕ))
choices s = map (λ v. with_metric s.table v (best_of s v)) (range_with_len 0 (length s.table.routers))

-- something is so of the worked table
abbrev pub OfWorked : (Declared → Type 0) → Result Declared LoadFault → Type 0
OfWorked P (Ok t) = P t
OfWorked P (Err fault) = ⊥

abbrev pub Holds : Case → Type 0
Holds (refused bytes number place) = refusal (table_in bytes) ≡ Some (number, place)
Holds (keeps kept given answer) = OfWorked (λ t. kept_of kept t (set_of given) ≡ set_of answer) (table_in worked_table)
Holds (breaks kept) =
    OfWorked (λ t. (Heritage (kept t) → ⊥) × (Laws (kept t) → ⊥)) (table_in worked_table)
Holds (takes given paths metrics) = OfWorked (λ t. (best_paths t (set_of given) ≡ map Some paths) × (best_metrics t (set_of given) ≡ map Some metrics)) (table_in worked_table)
Holds (meets given from met path) = OfWorked (λ t. way plain t (set_of given) from ≡ Some (met, path)) (table_in worked_table)
Holds (spends from met metric) = OfWorked (λ t. links_cost plain t from met ≡ metric) (table_in worked_table)
Holds (knows calls sets) = OfWorked (λ t. take (length t.routers) (network_after calls t).known ≡ map set_of sets) (table_in worked_table)
Holds (advertises calls sets) = OfWorked (λ t. take (length t.routers) (network_after calls t).advertised ≡ map set_of sets) (table_in worked_table)
Holds (picks calls found) = OfWorked (λ t. choices (network_after calls t) ≡ found) (table_in worked_table)
Holds (sends calls from met path) = OfWorked (λ t. way_of (network_after calls t) from ≡ Some (met, path)) (table_in worked_table)

-- a step of router 0
abbrev pub one_step : List Call
one_step = Act (Step (set_of (0 ∷ []))) ∷ []

-- and then one of routers 0 and 2
abbrev pub two_steps : List Call
two_steps = one_step ++ (Act (Step (set_of (0 ∷ 2 ∷ []))) ∷ [])

-- and then the network settles
abbrev pub settled_once : List Call
settled_once = two_steps ++ (Settle ∷ [])

-- and then path 1 is withdrawn, and it settles again
abbrev pub settled_again : List Call
settled_again = settled_once ++ (Reopen ∷ Act (Withdraw 1) ∷ Settle ∷ [])

abbrev pub worked : List Case
worked =
    refused [] 8 0
    ∷ refused (0x07 ∷ []) 1 0
    ∷ refused (0x01 ∷ 0x00 ∷ []) 2 0
    ∷ refused (0x01 ∷ 0x00 ∷ 0x00 ∷ []) 9 0
    ∷ keeps (λ _. keep_five_stage) (0 ∷ 1 ∷ 2 ∷ []) (1 ∷ 2 ∷ [])
    ∷ keeps (λ _. keep_five_stage) (0 ∷ 2 ∷ []) (0 ∷ 2 ∷ [])
    ∷ keeps (λ _. keep_compare_always) (0 ∷ 1 ∷ 2 ∷ []) (1 ∷ [])
    ∷ keeps (λ _. keep_compare_always) (0 ∷ 2 ∷ []) (0 ∷ [])
    ∷ keeps (λ _. keep_all) (0 ∷ 2 ∷ 5 ∷ []) (0 ∷ 2 ∷ [])
    ∷ takes (1 ∷ 2 ∷ []) (1 ∷ 2 ∷ 1 ∷ 1 ∷ []) (5 ∷ 3 ∷ 4 ∷ 0 ∷ [])
    ∷ meets (1 ∷ 2 ∷ []) 0 (0 ∷ 2 ∷ 3 ∷ []) 1
    ∷ spends 0 (2 ∷ 3 ∷ []) 5
    ∷ takes (0 ∷ 2 ∷ []) (0 ∷ 0 ∷ 0 ∷ 0 ∷ []) (10 ∷ 0 ∷ 11 ∷ 15 ∷ [])
    ∷ keeps (keep_best 1) (0 ∷ 1 ∷ 2 ∷ []) (2 ∷ [])
    ∷ keeps (keep_best 1) (0 ∷ 2 ∷ []) (0 ∷ [])
    ∷ keeps (keep_best 1) [] []
    ∷ breaks (keep_best 1)
    ∷ knows one_step ((0 ∷ 2 ∷ []) ∷ (0 ∷ 2 ∷ []) ∷ [] ∷ (1 ∷ []) ∷ [])
    ∷ picks one_step (Some (0, 10) ∷ Some (0, 0) ∷ None ∷ Some (1, 0) ∷ [])
    ∷ knows two_steps ((0 ∷ 2 ∷ []) ∷ (0 ∷ 2 ∷ []) ∷ (0 ∷ 1 ∷ 2 ∷ []) ∷ (1 ∷ []) ∷ [])
    ∷ advertises two_steps ((0 ∷ 2 ∷ []) ∷ (0 ∷ 2 ∷ []) ∷ (1 ∷ 2 ∷ []) ∷ (1 ∷ []) ∷ [])
    ∷ advertises settled_once ((1 ∷ 2 ∷ []) ∷ (1 ∷ 2 ∷ []) ∷ (1 ∷ 2 ∷ []) ∷ (1 ∷ 2 ∷ []) ∷ [])
    ∷ picks settled_once (Some (1, 5) ∷ Some (2, 3) ∷ Some (1, 4) ∷ Some (1, 0) ∷ [])
    ∷ sends settled_once 0 (0 ∷ 2 ∷ 3 ∷ []) 1
    ∷ advertises settled_again ((0 ∷ 2 ∷ []) ∷ (0 ∷ 2 ∷ []) ∷ (0 ∷ 2 ∷ []) ∷ (0 ∷ 2 ∷ []) ∷ [])
    ∷ picks settled_again (Some (0, 10) ∷ Some (0, 0) ∷ Some (0, 11) ∷ Some (0, 15) ∷ [])
    ∷ []
