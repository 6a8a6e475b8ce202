-- The checks of the routers and links as a whole. Assumes nothing.
use Rattle.std.specs.Prelude.{ℕ, ◌*◌, ◌<◌, Bool, cond, not, ◌&&◌, List, [], ◌∷◌, map, length, take, Some, None, Ok, Err, Option, Result, ◌==◌, slice_index}
use Rattle.std.specs.List.{list_any, position, range_with_len}
use Rattle.faults.specs.declared.graph.GraphFault.{GraphFault}
use Rattle.faults.specs.declared.graph.GraphFault.TheVariants.{NoRouter, NoReflector, NotJoined}
use Rattle.layout.specs.Checks.{is_client}
use Rattle.layout.specs.Table.{Declared}
use Rattle.layout.specs.declared.link.Link.{Link}
use Rattle.layout.specs.declared.router.Router.{Router}

-- whether a router is a reflector of a cluster
abbrev pub reflects : ℕ → Router → Bool
reflects c r = not (is_client r.role) && r.cluster == c

-- whether a cluster has a reflector
abbrev pub has_reflector : ℕ → List Router → Bool
has_reflector c routers = list_any (reflects c) routers

abbrev pub unled : List Router → Router → Bool
unled routers r = is_client r.role && not (has_reflector r.cluster routers)

-- each router is labelled, at first by its own number; a link gives the label of its one end to all that share that of its other end
abbrev pub relabelled : ℕ → ℕ → ℕ → ℕ
relabelled old new label = cond (label == old) new label

abbrev pub merged : List ℕ → Link → List ℕ
merged labels l = map (relabelled (slice_index labels l.ends.b) (slice_index labels l.ends.a)) labels

abbrev pub merged_all : List ℕ → List Link → List ℕ
merged_all labels [] = labels
merged_all labels (l ∷ links) = merged_all (merged labels l) links

-- both ends of a link are numbers that have a label
abbrev pub Labellable : Link → Type 0
Labellable l = (l.ends.a < 32) × (l.ends.b < 32)

-- routers that links join, and no others, have one label
abbrev pub labels : List Link → List ℕ
labels links = merged_all (range_with_len 0 32) links

abbrev pub cut_off : List ℕ → ℕ → Bool
cut_off ls label = not (label == slice_index ls 0)

-- the record of router v begins at byte 3 v, since routers come first
abbrev pub router_place : ℕ → ℕ
router_place v = 3 * v

abbrev pub graph_check : Declared → Option ℕ → Option ℕ → Result Declared GraphFault
graph_check t None None = Ok t
graph_check t None (Some v) = Err (NotJoined (router_place v))
graph_check t (Some v) o = Err (NoReflector (router_place v))

-- what is declared, or the first rule that it breaks as a whole
abbrev pub whole : Declared → Result Declared GraphFault
whole t =
    cond (length t.routers == 0) (Err NoRouter)
    (graph_check t (position (unled t.routers) t.routers) (position (cut_off (labels t.links)) (take (length t.routers) (labels t.links))))
