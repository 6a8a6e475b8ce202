-- The path of the lowest rank is the best. Assumes nothing.
use Rattle.std.proofs.Common.{◌≡◌, ℕ, ◌+◌, ◌*◌, ◌^◌, ◌<◌, ◌≤◌, Bool, true, false, cond, not, ◌&&◌, ◌||◌, eqb, leb, ltb, List, length, Some, None, Ok, sym, ap, ◌∙◌, ap₂, subst, arith}
use Rattle.std.proofs.lemmas.Bool.{cond-true, cond-false, lt-ltb, le-ltb, and_parts}
use Rattle.std.proofs.lemmas.Bool.Decides.{nat_tests}
use Rattle.costs.specs.Cost.{plain}
use Rattle.distances.specs.Answered.{row_answer}
use Rattle.layout.specs.Table.{Declared, path_at}
use Rattle.layout.specs.WellFormed.{WellFormed}
use Rattle.layout.specs.declared.path.ExitPath.{ExitPath}
use Rattle.packets.specs.Best.{exit_of, speaker_of, metric, the_better, takes_first, best}
use Rattle.packets.proofs.Passed.{Passed, passed_ends, passed_more, passed_none}
use Rattle.selection.specs.Laws.{AllDeclared}
use Rattle.selection.proofs.Taking.{Taken}
use Rattle.sets.specs.Members.{member, Empty, Least}
use Rattle.forwarding.specs.Ranks.{rank_of}
use Rattle.forwarding.proofs.Rows.{row_near, row_sum}

abbrev rank_from : Bool → ℕ → ℕ → ℕ
rank_from own metric speaker = (cond own 0 (2 ^ 31) + metric) * 2 ^ 32 + speaker

-- whether p is nearer than q, or as near and of a lower speaker
abbrev sooner : ℕ → ℕ → ℕ → ℕ → Bool
sooner mp mq sp sq = not (leb mq mp) || (leb mp mq && ltb sp sq)

-- the router's own exits come first, then the nearer, then the lower speaker
lower_rank : (own_p own_q : Bool) (mp mq sp sq : ℕ) → mp < 2 ^ 31 → mq < 2 ^ 31 → sp < 2 ^ 32 → sq < 2 ^ 32 → ltb (rank_from own_p mp sp) (rank_from own_q mq sq) ≡ cond own_p (not own_q || sooner mp mq sp sq) (not own_q && sooner mp mq sp sq)
lower_rank true true mp mq sp sq np nq fp fq = grind (arith, nat_tests)
lower_rank true false mp mq sp sq np nq fp fq = grind (arith, nat_tests)
lower_rank false true mp mq sp sq np nq fp fq = grind (arith, nat_tests)
lower_rank false false mp mq sp sq np nq fp fq = grind (arith, nat_tests)

module _ (t : Declared) (v : ℕ) where
  abbrev rank_at : ℕ → ℕ
  rank_at p = rank_from (eqb (exit_of t p) v) (metric plain t v p) (speaker_of t p)

  -- the rank of path p, in which its metric and its speaker have room
  pub record Ranked (p rank : ℕ) : Type 0 where
    pub is : rank ≡ rank_at p
    pub near : metric plain t v p ≤ 32 * 65535
    pub narrow : speaker_of t p < 2 ^ 32

  pub ranked : WellFormed t → (row : List ℕ) → Ok row ≡ row_answer t v → (p : ℕ) (x : ExitPath) (rank : ℕ) → p < length t.paths → x ≡ path_at t.paths p → rank ≡ rank_of v row x → x.speaker < 2 ^ 32 → Ranked p rank
  ranked w row told p x rank lt at is narrow =
      let sum = row_sum t w v row told p lt in
      record {
        is = is ∙ ap (rank_of v row) at ∙ ap (λ (m : ℕ). rank_from (eqb (exit_of t p) v) m (speaker_of t p)) sum;
        near = omega (arith, sum, row_near t w v row told p lt);
        narrow = subst (λ (y : ExitPath). y.speaker < 2 ^ 32) at narrow;
      }

  taken_lower : (p q rank lowest : ℕ) → Ranked p rank → Ranked q lowest → ltb rank lowest ≡ takes_first plain t v p q
  taken_lower p q rank lowest of_p of_q =
      ap₂ ltb of_p.is of_q.is
      ∙ lower_rank (eqb (exit_of t p) v) (eqb (exit_of t q) v) _ _ _ _ (omega (arith, of_p.near)) (omega (arith, of_q.near)) of_p.narrow of_q.narrow

  -- of the empty set there is no best path
  pub none_found : (s : ℕ) → Empty s → None ≡ best plain t s v
  none_found s none = passed_ends (takes_first plain t v) (length t.paths) s s None (passed_none (takes_first plain t v) (length t.paths) s) none

  -- `first` is the best of the paths of s that are no longer in rest, and `lowest` is its rank
  pub record Found (s rest first lowest : ℕ) : Type 0 where
    pub passed : Passed (takes_first plain t v) (length t.paths) s rest (Some first)
    pub low : Ranked first lowest

  -- the least of s is gone through first
  pub found_first : (s p r : ℕ) → Least s p → Taken s p r → p < length t.paths → (rank : ℕ) → Ranked p rank → Found s r p rank
  found_first s p r least taken lt rank here = record {
    passed = passed_more (takes_first plain t v) (length t.paths) s s None (passed_none (takes_first plain t v) (length t.paths) s) p r least taken lt;
    low = here;
  }

  module _ (s rest first lowest : ℕ) (so : Found s rest first lowest) where
    pub found_ends : Empty rest → Some first ≡ best plain t s v
    found_ends none = passed_ends (takes_first plain t v) (length t.paths) s rest (Some first) so.passed none

    -- what is gone through next is declared, where all of s is
    pub found_declared : AllDeclared t.paths s → (p : ℕ) → Least rest p → p < length t.paths
    found_declared all p least = all p (and_parts (member s p) (leb so.passed.bound p) (sym (so.passed.left p) ∙ least.0)).0

    module _ (p r : ℕ) (least : Least rest p) (taken : Taken rest p r) (lt : p < length t.paths) (rank : ℕ) (here : Ranked p rank) where
      more : Passed (takes_first plain t v) (length t.paths) s r (Some (the_better (takes_first plain t v) p (Some first)))
      more = passed_more (takes_first plain t v) (length t.paths) s rest (Some first) so.passed p r least taken lt

      asked : takes_first plain t v p first ≡ ltb rank lowest
      asked = sym (taken_lower p first rank lowest here so.low)

      pub found_lower : rank < lowest → Found s r p rank
      found_lower less = record {
        passed = subst (λ (q : ℕ). Passed (takes_first plain t v) (length t.paths) s r (Some q)) (cond-true _ p first (asked ∙ lt-ltb rank lowest less)) more;
        low = here;
      }

      pub found_higher : lowest ≤ rank → Found s r first lowest
      found_higher le = record {
        passed = subst (λ (q : ℕ). Passed (takes_first plain t v) (length t.paths) s r (Some q)) (cond-false _ p first (asked ∙ le-ltb rank lowest le)) more;
        low = so.low;
      }
