-- The network that needs six rounds, and not one less. Assumes nothing.
use Rattle.std.proofs.Common.{◌≡◌, ℕ, zero, suc, ◌<◌, true, false, ltb, List, [], ◌∷◌, length, sym, refl, ap, ◌∙◌, subst, arith}
use Rattle.std.specs.Prelude.{replicate, slice_index_or}
use Rattle.std.specs.List.{list_all}
use Rattle.std.proofs.lemmas.Bool.{lt-ltb, ltb-true, or_left}
use Rattle.std.proofs.lemmas.List.Sums.{AllPass-from_list_all}
use Rattle.layout.specs.Encoding.{encoded}
use Rattle.layout.specs.Table.{Declared}
use Rattle.layout.specs.WellFormed.{WellFormed}
use Rattle.layout.proofs.Promised.{reads}
use Rattle.layout.proofs.Records.{Bytes}
use Rattle.selection.specs.Laws.{Keeping}
use Rattle.selection.specs.Stages.{keep_five_stage, joined, some, those}
use Rattle.sets.specs.Members.{member}
use Rattle.sets.proofs.Operations.{member_first}
use Rattle.protocol.specs.Moves.{begun, for_each, after_all, all_of}
use Rattle.protocol.specs.Moves.Move.{Loaded, Injected, Withdrawn}
use Rattle.protocol.specs.Network.{State, set_of}
use Rattle.protocol.specs.Runs.{AllCome, reached}
use Rattle.protocol.specs.Settled.{Settled, stretch, Rounds}
use Rattle.protocol.specs.Settled.Rounds.{begins, then}
use Rattle.protocol.specs.SixRounds.{two_clusters, both_injected, preferred_withdrawn, rounds_after, NotByFive, BySix, SixRounds}
use Rattle.protocol.proofs.Resting.{all_of_below}
use Rattle.protocol.proofs.Rising.{Below, after}
use Rattle.protocol.proofs.Running.{all_append, come_join, below_comes, same_table}
use Rattle.protocol.proofs.Stretches.{same_injected}

-- what holds of four routers holds of all
four : (P : ℕ → Type 0) → P 0 → P 1 → P 2 → P 3 → (v : ℕ) → v < 4 → P v
four P a b c d zero l = a
four P a b c d (suc zero) l = b
four P a b c d (suc (suc zero)) l = c
four P a b c d (suc (suc (suc zero))) l = d
four P a b c d (suc (suc (suc (suc n)))) l = absurd (omega (arith, l))

-- the table is well-formed, as reading its bytes tells
are_bytes : (bs : List ℕ) → list_all (λ b. ltb b 256) bs ≡ true → Bytes bs
are_bytes bs h k d l = ltb-true (slice_index_or bs k d) 256 (AllPass-from_list_all (λ b. ltb b 256) bs h k d l)

well_formed : WellFormed two_clusters
well_formed = ((reads (encoded two_clusters) (are_bytes (encoded two_clusters) refl)).accepted two_clusters refl).0

settled_first : Settled keep_five_stage (reached keep_five_stage both_injected)
unfolding member joined some those for_each after_all all_of
settled_first = four (λ v. set_of (reached keep_five_stage both_injected).advertised v ≡ keep_five_stage two_clusters.paths 0b11) refl refl refl refl

-- client 1 has heard of nothing after five rounds
told : set_of (reached keep_five_stage (rounds_after 5)).advertised 1 ≡ 0
unfolding member joined some those for_each after_all all_of
told = refl

pub not_by_five : NotByFive
unfolding member joined some those for_each after_all all_of
not_by_five settled = absurd (omega (arith, sym told ∙ settled 1 (omega arith)))

-- all four at once are a round, and so many times are so many
all_named : (v : ℕ) → member 0b1111 v ≡ ltb v 4
all_named v = member_first 4 v

all_rounds : (n : ℕ) → Rounds 4 n (replicate n 0b1111)
all_rounds zero = begins []
all_rounds (suc n) = then (0b1111 ∷ []) (replicate n 0b1111) n (λ v below. or_left (member 0b1111 v) false (all_named v ∙ lt-ltb v 4 below)) (all_rounds n)

all_below : (n : ℕ) → Below 4 (replicate n 0b1111)
all_below zero = tt
all_below (suc n) = (λ v m. ltb-true v 4 (sym (all_named v) ∙ m), all_below n)

module _ (kept : Keeping) where
  -- the network in which both paths are injected, and no router has made a step
  start : State
  start = reached kept (Loaded two_clusters ∷ Injected 0 ∷ Injected 1 ∷ [])

  start_table : start.table ≡ two_clusters
  unfolding start after_all
  start_table = refl

  start_injected : start.injected ≡ 0b11
  unfolding start after_all
  start_injected = refl

  start_comes : AllCome kept begun (Loaded two_clusters ∷ Injected 0 ∷ Injected 1 ∷ [])
  unfolding AllCome member
  start_comes = (well_formed, ((omega arith, refl), ((omega arith, refl), tt)))

  -- the network before the withdrawal
  steps_on : reached kept both_injected ≡ after kept start (all_of 4 7)
  unfolding start
  steps_on = all_append kept (Loaded two_clusters ∷ Injected 0 ∷ Injected 1 ∷ []) (stretch (all_of 4 7)) begun

  settled_table : (reached kept both_injected).table ≡ two_clusters
  settled_table = ap (λ (x : State). x.table) steps_on ∙ same_table kept (all_of 4 7) start ∙ start_table

  settled_injected : (reached kept both_injected).injected ≡ 0b11
  settled_injected = ap (λ (x : State). x.injected) steps_on ∙ same_injected kept (all_of 4 7) start ∙ start_injected

  settling_comes : AllCome kept begun both_injected
  unfolding start
  settling_comes =
      come_join kept (Loaded two_clusters ∷ Injected 0 ∷ Injected 1 ∷ []) (stretch (all_of 4 7)) begun start_comes
      (below_comes kept (all_of 4 7) start (subst (λ (t : Declared). Below (length t.routers) (all_of 4 7)) (sym start_table) (all_of_below 4 7)))

  -- a withdrawal leaves the table, and may come where the path is injected
  withdrawn_table : (s : State) (p : ℕ) → (after_all kept s (Withdrawn p ∷ [])).table ≡ s.table
  unfolding after_all
  withdrawn_table s p = refl

  withdrawn_comes : (s : State) (p : ℕ) → member s.injected p ≡ true → AllCome kept s (Withdrawn p ∷ [])
  unfolding AllCome
  withdrawn_comes s p m = (m, tt)

  table_there : (reached kept preferred_withdrawn).table ≡ two_clusters
  table_there = ap (λ (x : State). x.table) (all_append kept both_injected (Withdrawn 0 ∷ []) begun) ∙ withdrawn_table (reached kept both_injected) 0 ∙ settled_table

  path_0 : member 0b11 0 ≡ true
  unfolding member
  path_0 = refl

  withdrawal_comes : AllCome kept begun preferred_withdrawn
  withdrawal_comes = come_join kept both_injected (Withdrawn 0 ∷ []) begun settling_comes (withdrawn_comes (reached kept both_injected) 0 (ap (λ i. member i 0) settled_injected ∙ path_0))

  all_come : (n : ℕ) → AllCome kept begun (rounds_after n)
  all_come n =
      come_join kept preferred_withdrawn (stretch (replicate n 0b1111)) begun withdrawal_comes
      (below_comes kept (replicate n 0b1111) (reached kept preferred_withdrawn)
      (subst (λ (t : Declared). Below (length t.routers) (replicate n 0b1111)) (sym table_there) (all_below n)))

pub by_six : BySix
by_six kept rests =
    rests.settles preferred_withdrawn (replicate 6 0b1111) [] refl
    (subst (λ (t : Declared). Rounds (length t.routers) 6 (replicate 6 0b1111)) (sym (table_there kept)) (all_rounds 6))

pub six_rounds : SixRounds
six_rounds = record { comes = all_come; settled = settled_first; not_by_five = not_by_five; by_six = by_six }
