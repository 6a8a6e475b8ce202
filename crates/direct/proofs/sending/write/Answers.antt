use Rattle.std.proofs.Common.{rules, ◌≡◌, ℕ, suc, slice_set, List, ◌+◌, ◌++◌, ◌∷◌, [], take, map, Ok, Err, sym, ap, ◌∙◌, arith}
use Rattle.std.proofs.Math.Seq.{take-suc-set}
use Rattle.std.proofs.lemmas.Bool.Decides.{nat_tests}
use Rattle.std.proofs.lemmas.List.FromFn.{map-range_with_len_more}
use Rattle.std.specs.Option.{unwrap_or}
use Rattle.std.specs.List.{range_with_len}
use Rattle.costs.specs.Cost.{plain}
use Rattle.distances.specs.Answered.{declared_by, of_router}
use Rattle.forwarding.proofs.Refused.{best_where_declared}
use Rattle.packets.specs.Best.{best}
use Rattle.direct.proofs.sending.write.Goals as goal

pub loop-router-preserved : goal.loop-router-preserved
loop-router-preserved c =
    let t = declared_by c.args.distances.now in
    let s = c.args.set in
    let v = c.loop-router.router in
    let byte : ℕ → ℕ = λ w. unwrap_or (best plain t s w) 255 in
    let next : v + 1 ≡ suc v = omega arith in
    let told : Ok c.in_ok-best.field-0 ≡ of_router t v (Ok (best plain t s v)) = c.in_ok-best.ensures.value ∙ best_where_declared t s c.requires.all v in
    let found : c.in_ok-best.field-0 ≡ best plain t s v = grind (arith, nat_tests, told) in
    let written : c.unwrap_or.result ≡ byte v =
    c.unwrap_or.ensures ∙ ap (λ o. unwrap_or o 255) found in (
      search rules,
      ap (λ n. take n (slice_set c.loop-router.routers v c.unwrap_or.result)) next
          ∙ take-suc-set c.loop-router.routers v c.unwrap_or.result (search rules)
          ∙ ap (λ (ys : List ℕ). ys ++ c.unwrap_or.result ∷ []) c.loop-router.invariant.1
          ∙ ap (λ x. map byte (range_with_len 0 v) ++ x ∷ []) written
          ∙ sym (map-range_with_len_more byte 0 v v (omega arith)),
    )

-- the router is declared and so are all paths of the set, so no best path is refused
pub returns-in_err-best : goal.returns-in_err-best
returns-in_err-best c =
    let t = declared_by c.args.distances.now in
    let v = c.loop-router.router in
    let told : Err c.in_err-best.field-0.0 ≡ of_router t v (Ok (best plain t c.args.set v)) = c.in_err-best.ensures.value ∙ best_where_declared t c.args.set c.requires.all v in
    absurd (let clash : ⊥ = grind (arith, nat_tests, told) in clash)
