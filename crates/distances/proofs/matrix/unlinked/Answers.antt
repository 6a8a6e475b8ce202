use Rattle.std.proofs.Common.{◌^◌, ◌-◌, [], ap, ◌∙◌, arith, get_or, replicate}
use Rattle.std.proofs.lemmas.List.{get_or-replicate}
use Rattle.distances.proofs.matrix.unlinked.Goals as goal

pub loop-v-init : goal.loop-v-init
loop-v-init c = (
  λ a b la lb. absurd (omega arith),
  λ a b le la lb. ap (λ row. get_or row b 0) (get_or-replicate 32 a (replicate 32 (2 ^ 32 - 1)) [] la) ∙ get_or-replicate 32 b (2 ^ 32 - 1) 0 lb,
)
