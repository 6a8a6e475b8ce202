-- The list of a settled network where every path is injected. Assumes nothing.
use Rattle.std.proofs.Common.{◌≡◌, ℕ, zero, suc, ◌-◌, ◌^◌, ◌<◌, ◌≤◌, Bool, cond, List, ◌++◌, length, drop, Ok, Err, Result, sym, refl, ap, ◌∙◌, arith}
use Rattle.std.proofs.lemmas.Bool.{le-leb}
use Rattle.faults.specs.declared.call.CallFault.TheVariants.{ShortBuffer}
use Rattle.faults.specs.declared.load.LoadFault.{LoadFault}
use Rattle.layout.specs.Table.{Declared}
use Rattle.listing.specs.Listing.{line_of, lines_of, listing, list_at, list_bytes}
use Rattle.protocol.specs.Moves.{for_each}
use Rattle.protocol.specs.Network.{State, set_of}
use Rattle.protocol.specs.Settled.{Settled}
use Rattle.protocol.proofs.Activation.{for_each_at}
use Rattle.selection.specs.Stages.{keep_five_stage}
use Rattle.settle.specs.Report.{AllInjected, kept_of_all, report, report_length, report_bytes}

-- the lines turn on what the listed routers advertise
same_lines : (t : Declared) (a b : List ℕ) (n : ℕ) → ((v : ℕ) → v < n → set_of a v ≡ set_of b v) → lines_of t a n ≡ lines_of t b n
unfolding lines_of
same_lines t a b zero same = refl
same_lines t a b (suc n) same =
    ap (λ (xs : List ℕ). xs ++ line_of t n (set_of a n)) (same_lines t a b n (λ v l. same v (omega arith)))
    ∙ ap (λ (w : ℕ). lines_of t b n ++ line_of t n w) (same n (omega arith))

module _ (t : Declared) (s : State) (few : length s.table.routers ≤ 32) (all : AllInjected t s) (settled : Settled keep_five_stage s) where
  listing_is : listing s.table s.advertised ≡ report t
  listing_is =
      same_lines s.table s.advertised (for_each (λ v. kept_of_all s.table)) (length s.table.routers)
      (λ v below.
      settled v below
      ∙ ap (keep_five_stage s.table.paths) (all.injected ∙ ap (λ (u : Declared). 2 ^ length u.paths - 1) (sym all.table))
      ∙ sym (for_each_at (λ u. kept_of_all s.table) v (omega (arith, few, below))))
      ∙ ap report all.table

  module _ (r : Result Declared LoadFault) (read : r ≡ Ok t) (before : List ℕ) (room : 512 ≤ length before) where
    pub listed_length : list_at s.table s.advertised (length before) ≡ report_length r
    listed_length =
        ap (λ (b : Bool). cond b (Ok (length (listing s.table s.advertised))) (Err (ShortBuffer 512))) (le-leb 512 (length before) room)
        ∙ ap (λ (xs : List ℕ). Ok (length xs)) listing_is ∙ sym (ap report_length read)

    pub listed_bytes : list_bytes s.table s.advertised before ≡ report_bytes r before
    listed_bytes =
        ap (λ (b : Bool). cond b (listing s.table s.advertised ++ drop (length (listing s.table s.advertised)) before) before) (le-leb 512 (length before) room)
        ∙ ap (λ (xs : List ℕ). xs ++ drop (length xs) before) listing_is ∙ sym (ap (λ (x : Result Declared LoadFault). report_bytes x before) read)
