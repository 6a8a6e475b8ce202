-- The checks of a record against what was declared before it, and what it adds. Assumes nothing.
use Rattle.std.specs.Prelude.{ℕ, Bool, true, false, cond, not, ◌&&◌, ◌||◌, List, map, length, Ok, Err, Result, ◌==◌, nat_le, nat_lt, slice_index_or}
use Rattle.std.specs.List.{list_any}
use Rattle.faults.specs.declared.table.TableFault.{TableFault}
use Rattle.faults.specs.declared.table.TableFault.TheVariants.{TooMany, OutOfRange, BadPair, BadSession}
use Rattle.records.specs.declared.kind.Kind.{Kind}
use Rattle.records.specs.declared.kind.Kind.TheVariants.{Router as router_kind, Link as link_kind, Session as session_kind, Path as path_kind}
use Rattle.layout.specs.Bodies.{byte, two, pair_in, adding}
use Rattle.layout.specs.Table.{Declared}
use Rattle.layout.specs.Rules.{most, count}
use Rattle.layout.specs.WellFormed.{link_ends, session_ends, client}
use Rattle.layout.specs.declared.link.Pair.{Pair}
use Rattle.layout.specs.declared.router.Role.{Role}
use Rattle.layout.specs.declared.router.Role.TheVariants.{Client, Reflector}
use Rattle.layout.specs.declared.router.Router.{Router}

abbrev pub is_client : Role → Bool
is_client Client = true
is_client Reflector = false

abbrev pub same_pair : Pair → Pair → Bool
same_pair p q = (p.a == q.a && p.b == q.b) || (p.a == q.b && p.b == q.a)

-- whether p is one of the pairs again
abbrev pub repeats : Pair → List Pair → Bool
repeats p earlier = list_any (same_pair p) earlier

abbrev pub wrong_pair : Pair → List Pair → Bool
wrong_pair p earlier = p.a == p.b || repeats p earlier

abbrev pub clients_alike : Router → Router → Bool
clients_alike r q = is_client r.role && (is_client q.role && r.cluster == q.cluster)

-- whether a pair is two clients of one cluster
abbrev pub clients_of_one : List Router → Pair → Bool
clients_of_one routers p =
    nat_lt p.a (length routers) && (nat_lt p.b (length routers) && clients_alike (slice_index_or routers p.a (client 0)) (slice_index_or routers p.b (client 0)))

abbrev pub out_of_range : Declared → Kind → List ℕ → Bool
out_of_range t router_kind body = nat_le 32 (byte body 0) || nat_le 2 (byte body 1)
out_of_range t link_kind body = nat_le (length t.routers) (byte body 0) || (nat_le (length t.routers) (byte body 1) || two body 2 == 0)
out_of_range t session_kind body = nat_le (length t.routers) (byte body 0) || nat_le (length t.routers) (byte body 1)
out_of_range t path_kind body = nat_le (length t.routers) (byte body 0) || byte body 9 == 0

abbrev pub bad_pair : Declared → Kind → List ℕ → Bool
bad_pair t router_kind body = false
bad_pair t link_kind body = wrong_pair (pair_in body) (map link_ends t.links)
bad_pair t session_kind body = wrong_pair (pair_in body) (map session_ends t.sessions)
bad_pair t path_kind body = false

abbrev pub bad_session : Declared → Kind → List ℕ → Bool
bad_session t router_kind body = false
bad_session t link_kind body = false
bad_session t session_kind body = not (clients_of_one t.routers (pair_in body))
bad_session t path_kind body = false

-- what is declared with one record more, or the first rule that the record breaks
abbrev pub declaring : Declared → ℕ → Kind → List ℕ → Result Declared TableFault
declaring t place k body =
    cond (nat_le (most k) (count t k)) (Err (TooMany place))
    (cond (out_of_range t k body) (Err (OutOfRange place))
    (cond (bad_pair t k body) (Err (BadPair place))
    (cond (bad_session t k body) (Err (BadSession place))
    (Ok (adding t k body)))))
