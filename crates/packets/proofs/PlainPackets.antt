-- Under the plain metric, the distances of a well-formed table are what the theorems on packets rest on. Assumes nothing.
use Rattle.std.proofs.Common.{◌≡◌, ℕ, ◌+◌, ◌*◌, ◌<◌, ◌≤◌, length, arith}
use Rattle.std.proofs.lemmas.List.Elements.{All-get_or}
use Rattle.std.proofs.lemmas.Bool.{lt-leb}
use Rattle.costs.specs.Cost.{plain}
use Rattle.costs.specs.Least.{distance}
use Rattle.costs.proofs.Near.{plain_distance, plain_near}
use Rattle.layout.specs.Table.{Declared, path_at}
use Rattle.layout.specs.WellFormed.{PathFits, WellFormed}
use Rattle.packets.specs.Best.{exit_of, metric}
use Rattle.packets.proofs.Leaving.{Measured}

module _ (t : Declared) (w : WellFormed t) (v p : ℕ) (hv : v < length t.routers) (hp : p < length t.paths) where
  fits : PathFits (length t.routers) (path_at t.paths p)
  fits = All-get_or (PathFits (length t.routers)) t.paths p _ hp w.sound.paths_fit

  -- the sum fits in 32 bits
  pub sum_near : distance plain t v (exit_of t p) + (path_at t.paths p).exit_cost ≤ 32 * 65535
  sum_near = omega (arith, plain_near t w v (exit_of t p) hv fits.at_router, fits.cost)

  -- so the metric is the sum
  pub metric_sum : metric plain t v p ≡ distance plain t v (exit_of t p) + (path_at t.paths p).exit_cost
  metric_sum = omega (arith, sum_near)

  pub metric_near : metric plain t v p ≤ 32 * 65535
  metric_near = omega (arith, sum_near)

pub plain_measured : (t : Declared) → WellFormed t → Measured plain t
plain_measured t w = record {
  links_fit = w.sound.links_fit;
  paths_fit = w.sound.paths_fit;
  distances = plain_distance t w;
  reached = λ v p hv hp. lt-leb _ _ (omega (arith, metric_near t w v p hv hp));
}
