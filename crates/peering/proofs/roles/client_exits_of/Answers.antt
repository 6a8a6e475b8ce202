use Rattle.std.proofs.Common.{◌≡◌, ℕ, ◌<◌, Bool, List, sym, ap, ◌∙◌, arith}
use Rattle.layout.specs.Table.{path_at}
use Rattle.layout.specs.declared.path.ExitPath.{ExitPath}
use Rattle.packets.specs.Best.{exit_of}
use Rattle.sets.specs.Members.{member}
use Rattle.tables.specs.Accepted.{declared}
use Rattle.peering.specs.Peered.{client_by}
use Rattle.peering.proofs.Gathering.{gather_more, gather_same}
use Rattle.peering.proofs.roles.client_exits_of.Goals as goal
use Rattle.peering.proofs.roles.client_exits_of.Goals.{then-is_client_of, else-is_client_of}

-- one path further on
pub loop-p-preserved : goal.loop-p-preserved
loop-p-preserved c k =
    let t = declared c.args.table.now in
    let test : ℕ → Bool = λ p. client_by t (exit_of t p) c.args.v in
    let low : c.loop-p.p < 64 = omega (arith, c.loop-p-test.true, c.paths-path-items.ensures.few) in
    let told : c.is_client_of.result ≡ test c.loop-p.p = c.is_client_of.ensures ∙ ap (λ (xs : List ExitPath). client_by t (path_at xs c.loop-p.p).exit_point c.args.v) c.paths-path-items.ensures.value in
    elim c.if-is_client_of.branch [
      | then-is_client_of w ↦
          ap (λ (s : ℕ). member s k) w.exits-is
          ∙ gather_more test c.loop-p.exits c.loop-p.p c.loop-p.invariant w.with-exits.result 64 low (sym told ∙ w.if-is_client_of.true) w.with-exits.ensures.members k
      | else-is_client_of w ↦
          ap (λ (s : ℕ). member s k) w.exits-is ∙ gather_same test c.loop-p.exits c.loop-p.p c.loop-p.invariant (sym told ∙ w.if-is_client_of.false) k
    ]
