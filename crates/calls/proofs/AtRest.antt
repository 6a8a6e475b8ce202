-- The test for a settled network tells whether it is settled.
use Rattle.std.proofs.Common.{◌≡◌, ℕ, ◌<◌, ◌≤◌, true, List, length, get_or, take, Decides, sym, ◌∙◌, arith}
use Rattle.std.specs.Prelude.{◌==◌}
use Rattle.std.specs.List.{list_all}
use Rattle.std.proofs.lemmas.Bool.{eqb-true, eq-eqb}
use Rattle.std.proofs.lemmas.List.{get_or-take, length-take-le}
use Rattle.std.proofs.lemmas.List.Elements.{All-get_or, All-from_get_or}
use Rattle.std.proofs.lemmas.List.Sums.{AllPass-from_list_all, list_all-from_AllPass}
use Rattle.selection.specs.Laws.{Keeping}
use Rattle.protocol.specs.Consistent.{Consistent}
use Rattle.protocol.specs.Network.{State}
use Rattle.protocol.specs.Settled.{Settled}
use Rattle.calls.specs.Calls.{at_rest}

-- of the first n numbers of a list, whether each is m
all_are : (m n : ℕ) (xs : List ℕ) → n ≤ length xs → Decides (list_all (λ x. x == m) (take n xs)) ((v : ℕ) → v < n → get_or xs v 0 ≡ m)
all_are m n xs short =
    let long = length-take-le n xs short in (
      λ all v below.
          sym (get_or-take n xs v 0 below)
          ∙ eqb-true _ m (All-get_or (λ x. (x == m) ≡ true) (take n xs) v 0 (omega (arith, long, below)) (AllPass-from_list_all (λ x. x == m) (take n xs) all)),
      λ each.
          list_all-from_AllPass (λ x. x == m) (take n xs)
          (All-from_get_or (λ x. (x == m) ≡ true) (take n xs) 0 (λ v l. let below : v < n = omega (arith, long, l) in eq-eqb _ m (get_or-take n xs v 0 below ∙ each v below))),
    )

pub tells : (kept : Keeping) {s : State} → Consistent kept s → Decides (at_rest kept s) (Settled kept s)
tells kept {s} c = all_are (kept s.table.paths s.injected) (length s.table.routers) s.advertised (omega (arith, c.few_routers, c.all_advertised))
