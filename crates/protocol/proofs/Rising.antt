-- A fact that spreads from router to router holds of all after three rounds. Assumes nothing.
use Rattle.std.proofs.Common.{◌≡◌, ℕ, zero, suc, ◌+◌, ◌<◌, true, false, List, [], ◌∷◌, ◌++◌, ◌⊎◌, sym, refl, ap, ◌∙◌, subst, inl, inr, arith}
use Rattle.std.proofs.lemmas.Bool.{both_ways, cases_Bool, or_cases, false≢true}
use Rattle.layout.specs.Table.{Declared}
use Rattle.selection.specs.Laws.{Keeping}
use Rattle.sets.specs.Members.{member}
use Rattle.protocol.specs.Network.{State}
use Rattle.protocol.specs.Moves.{activated, after_all}
use Rattle.protocol.specs.Settled.{stretch, named, Rounds}
use Rattle.protocol.specs.Settled.Rounds.{begins, then}

-- every set of the stretch has numbers below n only
abbrev pub Below : ℕ → List ℕ → Type 0
Below n [] = Unit {0}
Below n (w ∷ ws) = ((v : ℕ) → member w v ≡ true → v < n) × Below n ws

pub below_front : (n : ℕ) (vs ws : List ℕ) → Below n (vs ++ ws) → Below n vs
below_front n [] ws h = tt
below_front n (v ∷ vs) ws h = (h.0, below_front n vs ws h.1)

pub below_back : (n : ℕ) (vs ws : List ℕ) → Below n (vs ++ ws) → Below n ws
below_back n [] ws h = h
below_back n (v ∷ vs) ws h = below_back n vs ws h.1

-- the network of a table and its injected paths, by what its routers know and advertise
abbrev pub at : Declared → ℕ → List ℕ → List ℕ → State
at t i known advertised = record { table = t; injected = i; known = known; advertised = advertised }

-- the network after a stretch
abbrev pub after : Keeping → State → List ℕ → State
after kept s ws = after_all kept s (stretch ws)

pub after_append : (kept : Keeping) (s : State) (vs ws : List ℕ) → after kept s (vs ++ ws) ≡ after kept (after kept s vs) ws
unfolding after_all
after_append kept s [] ws = refl
after_append kept s (v ∷ vs) ws = after_append kept (activated kept s v) vs ws

-- a stretch leaves the table and the injected paths
pub after_is : (kept : Keeping) (t : Declared) (i : ℕ) (ws : List ℕ) (k a : List ℕ) → after kept (at t i k a) ws ≡ at t i (after kept (at t i k a) ws).known (after kept (at t i k a) ws).advertised
unfolding after_all
after_is kept t i [] k a = refl
after_is kept t i (w ∷ ws) k a = after_is kept t i ws (activated kept (at t i k a) w).known (activated kept (at t i k a) w).advertised

pub later : (w : ℕ) (ws : List ℕ) (v : ℕ) → member w v ≡ false → named (w ∷ ws) v ≡ true → named ws v ≡ true
later w ws v m is =
    elim (or_cases (member w v) (named ws v) is) [
      | inl yes_here ↦ absurd (both_ways _ m yes_here)
      | inr there ↦ there
    ]

module _
    (kept : Keeping) (t : Declared) (i n : ℕ) (level : ℕ → ℕ)
    -- what holds of the network all along, and the fact that spreads
    (Ok : List ℕ → List ℕ → Type 0) (Good : List ℕ → ℕ → Type 0)
    (goes_on : (k a : List ℕ) (w : ℕ) → ((v : ℕ) → member w v ≡ true → v < n) → Ok k a → Ok (activated kept (at t i k a) w).known (activated kept (at t i k a) w).advertised)
    -- an activated router has it, if all routers of lower levels did; others keep it
    (fresh :
    (k a : List ℕ) (w v : ℕ) → ((u : ℕ) → member w u ≡ true → u < n) → Ok k a → v < n → member w v ≡ true →
    ((u : ℕ) → u < n → level u < level v → Good k u) → Good (activated kept (at t i k a) w).known v)
    (stays : (k a : List ℕ) (w v : ℕ) → ((u : ℕ) → member w u ≡ true → u < n) → Ok k a → v < n → member w v ≡ false → Good k v → Good (activated kept (at t i k a) w).known v)
  where
    -- all routers up to a level have it
    abbrev pub Up : ℕ → List ℕ → Type 0
    Up l k = (v : ℕ) → v < n → level v < l → Good k v

    -- a level that has it keeps it
    up_stays : (l : ℕ) (k a : List ℕ) (w : ℕ) → ((v : ℕ) → member w v ≡ true → v < n) → Ok k a → Up l k → Up l (activated kept (at t i k a) w).known
    up_stays l k a w few ok up v below low =
        elim (cases_Bool (member w v)) [
          | inl m ↦ fresh k a w v few ok below m (λ u b lower. up u b (omega (arith, lower, low)))
          | inr m ↦ stays k a w v few ok below m (up v below low)
        ]

    -- where the levels below have it, a router that is named has it afterwards
    spreads :
        (l : ℕ) (ws : List ℕ) (k a : List ℕ) → Below n ws → Ok k a → Up l k → (v : ℕ) → v < n → level v < suc l → (named ws v ≡ true) ⊎ Good k v →
        Good (after kept (at t i k a) ws).known v
    unfolding after_all
    spreads l [] k a few ok up v below low (inl is) = absurd (false≢true is)
    spreads l [] k a few ok up v below low (inr good) = good
    spreads l (w ∷ ws) k a few ok up v below low h =
        spreads l ws (activated kept (at t i k a) w).known (activated kept (at t i k a) w).advertised few.1
        (goes_on k a w few.0 ok) (up_stays l k a w few.0 ok up) v below low
        (elim (cases_Bool (member w v)) [
          | inl m ↦ inr (fresh k a w v few.0 ok below m (λ u b lower. up u b (omega (arith, lower, low))))
          | inr m ↦
              elim h [
                | inl is ↦ inl (later w ws v m is)
                | inr good ↦ inr (stays k a w v few.0 ok below m good)
              ]
        ])

    ok_after : (ws : List ℕ) (k a : List ℕ) → Below n ws → Ok k a → Ok (after kept (at t i k a) ws).known (after kept (at t i k a) ws).advertised
    unfolding after_all
    ok_after [] k a few ok = ok
    ok_after (w ∷ ws) k a few ok = ok_after ws (activated kept (at t i k a) w).known (activated kept (at t i k a) w).advertised few.1 (goes_on k a w few.0 ok)

    up_after : (l : ℕ) (ws : List ℕ) (k a : List ℕ) → Below n ws → Ok k a → Up l k → Up l (after kept (at t i k a) ws).known
    unfolding after_all
    up_after l [] k a few ok up = up
    up_after l (w ∷ ws) k a few ok up =
        up_after l ws (activated kept (at t i k a) w).known (activated kept (at t i k a) w).advertised few.1 (goes_on k a w few.0 ok) (up_stays l k a w few.0 ok up)

    -- what holds after a number of rounds: so many levels more have the fact
    abbrev pub Risen : State → ℕ → Type 0
    Risen s l = Ok s.known s.advertised × Up l s.known

    pub rises_by :
        (m : ℕ) (ws : List ℕ) → Rounds n m ws → (l : ℕ) (k a : List ℕ) → Below n ws → Ok k a → Up l k → Risen (after kept (at t i k a) ws) (l + m)
    rises_by zero ws (begins _) l k a few ok up = (ok_after ws k a few ok, λ v below low. up_after l ws k a few ok up v below (omega (arith, low)))
    rises_by (suc m) _ (then round ws _ r rs) l k a few ok up =
        let first = below_front n round ws few in
        let s = after kept (at t i k a) round in
        let here : Ok s.known s.advertised = ok_after round k a first ok in
        let up_one : Up (suc l) s.known = λ v below low. spreads l round k a first ok up v below low (inl (r v below)) in
        let rest : Risen (after kept (at t i s.known s.advertised) ws) (suc l + m) = rises_by m ws rs (suc l) s.known s.advertised (below_back n round ws few) here up_one in
        let same : after kept (at t i s.known s.advertised) ws ≡ after kept (at t i k a) (round ++ ws) = ap (λ x. after kept x ws) (sym (after_is kept t i round k a)) ∙ sym (after_append kept (at t i k a) round ws) in
        let moved : Risen (after kept (at t i k a) (round ++ ws)) (suc l + m) = subst (λ x. Risen x (suc l + m)) same rest in
        (moved.0, λ v below low. moved.1 v below (omega (arith, low)))
