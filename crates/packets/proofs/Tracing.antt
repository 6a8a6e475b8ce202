-- One router after another: a packet on its way, and the routers that it met so far. Assumes nothing.
use Rattle.std.proofs.Common.{◌≡◌, ℕ, ◌+◌, ◌<◌, ◌≤◌, List, [], ◌∷◌, ◌++◌, length, drop, set, Some, None, Option, sym, refl, ap, ◌∙◌, subst, arith}
use Rattle.std.proofs.lemmas.List.{append_assoc, drop_more, length-append, length_push, set_at}
use Rattle.costs.specs.Cost.{Cost, CostLaws}
use Rattle.layout.specs.Table.{Declared}
use Rattle.selection.specs.Laws.{Offered}
use Rattle.packets.specs.Best.{exit_of, best}
use Rattle.packets.specs.Hops.{hop}
use Rattle.packets.specs.Ways.{way}
use Rattle.packets.specs.WaysPlain.{Way, out, on}
use Rattle.packets.proofs.Following.{best_choosing, leaves, met_short}
use Rattle.packets.proofs.Leaving.{Measured, hop_below}
use Rattle.packets.proofs.NextHops.{hop_from}

module _ {C : Type 0} (cost : Cost C) (t : Declared) where
  -- a packet from router v is at a router, and `count` routers that it met stand at the front of a buffer
  pub record Tracing (s v at count : ℕ) (before now : List ℕ) : Type 0 where
    pub below : at < length t.routers
    pub done : List ℕ
    pub counted : length done ≡ count
    pub held : now ≡ done ++ drop count before
    pub rest : List ℕ
    pub path : ℕ
    pub goes : Way cost t (best cost t s) at rest path
    pub whole : way cost t s v ≡ Some (done ++ (at ∷ rest), path)
    pub short : length (done ++ (at ∷ rest)) ≤ length t.routers

module _ {C : Type 0} (cost : Cost C) (laws : CostLaws cost) (t : Declared) (measured : Measured cost t) (s q : ℕ) (offered : Offered t.paths s q) (v : ℕ) (before : List ℕ) (room : length t.routers ≤ length before) where
  abbrev choice : ℕ → Option ℕ
  choice = best cost t s

  pub tracing_begins : v < length t.routers → Tracing cost t s v v 0 before before
  tracing_begins hv =
      let way = leaves cost laws t measured s v hv q offered in
      record {
        below = hv;
        done = [];
        counted = refl;
        held = refl;
        rest = way.0;
        path = way.1;
        goes = way.3.goes;
        whole = way.2;
        short = met_short cost laws t measured s choice (best_choosing cost laws t measured s q offered) v way.0 way.1 hv way.3.goes;
      }

  module _ (at count : ℕ) (now : List ℕ) (tracing : Tracing cost t s v at count before now) where
    -- there is room for one more
    pub tracing_room : count < length t.routers
    tracing_room = omega (arith, tracing.short, length-append tracing.done (at ∷ tracing.rest), tracing.counted)

    -- the buffer with the router that the packet is at
    written : set now count at ≡ (tracing.done ++ at ∷ []) ++ drop (count + 1) before
    written =
        let lt : count < length before = omega (arith, tracing_room) in
        ap (λ xs. set xs count at) (tracing.held ∙ ap (λ xs. tracing.done ++ xs) (drop_more before count 0 lt)) ∙ set_at tracing.done _ (drop (count + 1) before) at count tracing.counted
        ∙ sym (append_assoc tracing.done (at ∷ []) (drop (count + 1) before))

    -- each router on the way takes a path
    stuck : (rest : List ℕ) (path : ℕ) → Way cost t choice at rest path → choice at ≡ None → ⊥
    stuck rest path (out x p e own) none = let never : ◌≡◌ {A = ℕ} 0 1 = cc in omega arith
    stuck rest path (on x p w more end e ne next way) none = let never : ◌≡◌ {A = ℕ} 0 1 = cc in omega arith

    pub tracing_goes : choice at ≡ None → ⊥
    tracing_goes none = stuck tracing.rest tracing.path tracing.goes none

    module _ (p : ℕ) (takes : choice at ≡ Some p) where
      -- where its own path is taken, the packet has left
      pub record Out : Type 0 where
        pub met : List ℕ
        pub whole : way cost t s v ≡ Some (met, p)
        pub counted : length met ≡ count + 1
        pub held : set now count at ≡ met ++ drop (length met) before

      is_out : exit_of t p ≡ at → (rest : List ℕ) (path : ℕ) → Way cost t choice at rest path → way cost t s v ≡ Some (tracing.done ++ (at ∷ rest), path) → Out
      is_out own rest path (out x r e mine) whole =
          let same : r ≡ p = cc in
          let long = length_push tracing.done at ∙ ap (λ k. k + 1) tracing.counted in
          record { met = tracing.done ++ at ∷ []; whole = whole ∙ ap (λ y. Some (tracing.done ++ (at ∷ []), y)) same; counted = long; held = written ∙ ap (λ k. (tracing.done ++ at ∷ []) ++ drop k before) (sym long) }
      is_out own rest path (on x r w more end e ne next way) whole =
          let same : p ≡ r = cc in
          absurd (ne (subst (λ y. exit_of t y ≡ at) same own))

      pub tracing_out : exit_of t p ≡ at → Out
      tracing_out own = is_out own tracing.rest tracing.path tracing.goes tracing.whole

      module _ (other : exit_of t p ≡ at → ⊥) where
        -- the next hop is the next router on the way
        pub record Onward : Type 0 where
          pub next : ℕ
          pub hops : hop cost t at (exit_of t p) ≡ Some next
          pub further : Tracing cost t s v next (count + 1) before (set now count at)

        is_on : (rest : List ℕ) (path : ℕ) → Way cost t choice at rest path → way cost t s v ≡ Some (tracing.done ++ (at ∷ rest), path) → length (tracing.done ++ (at ∷ rest)) ≤ length t.routers → Onward
        is_on rest path (out x r e own) whole short =
            let same : r ≡ p = cc in
            absurd (other (subst (λ y. exit_of t y ≡ at) same own))
        is_on rest path (on x r w more end e ne next way) whole short =
            let same : r ≡ p = cc in
            let hw = hop_below cost laws t measured s choice (best_choosing cost laws t measured s q offered) at r w next in
            let moved = append_assoc tracing.done (at ∷ []) (w ∷ more) in
            record {
              next = w;
              hops = subst (λ y. hop cost t at (exit_of t y) ≡ Some w) same (hop_from cost laws t at (exit_of t r) w hw next);
              further = record {
                below = hw;
                done = tracing.done ++ at ∷ [];
                counted = length_push tracing.done at ∙ ap (λ k. k + 1) tracing.counted;
                held = written;
                rest = more;
                path = end;
                goes = way;
                whole = whole ∙ ap (λ xs. Some (xs, end)) (sym moved);
                short = subst (λ xs. length xs ≤ length t.routers) (sym moved) short;
              };
            }

        pub tracing_on : Onward
        tracing_on = is_on tracing.rest tracing.path tracing.goes tracing.whole tracing.short
