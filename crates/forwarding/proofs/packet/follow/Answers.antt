use Rattle.std.proofs.Common.{◌≡◌, ◌+◌, set, Some, Ok, sym, ap, ◌∙◌, subst, arith}
use Rattle.std.proofs.lemmas.List.{set-get_or}
use Rattle.distances.specs.Answered.{declared_by}
use Rattle.forwarding.proofs.Traced.{Traced, setting, exit_read, traced_begins, traced_out, traced_on, traced_none, traced_within, hop_not_refused}
use Rattle.forwarding.proofs.packet.follow.Goals as goal

pub loop-before-init : goal.loop-before-init
loop-before-init c = traced_begins (setting c.args.distances.now c.requires.declared c.requires.room)

pub returns-in_default : goal.returns-in_default
returns-in_default c =
    let none = traced_none (setting c.args.distances.now c.requires.declared c.requires.room) c.loop-before.invariant c.in_ok-path.ensures.value c.in_default.is in
    record { value = ap Ok none.0; bytes = set-get_or c.loop-before.met c.loop-before.before 0 ∙ none.1 }

pub returns-then-exit_point-at : goal.returns-then-exit_point-at
returns-then-exit_point-at c =
    let exit = exit_read c.args.distances.now _ _ c.paths-paths.ensures.value c.table.ensures c.in-Some.path in
    let out = traced_out (setting c.args.distances.now c.requires.declared c.requires.room) c.loop-before.at c.in_ok-path.ensures.value c.in-Some.is c.loop-before.invariant exit c.if-exit_point-at.true in
    record { value = ap Ok out.0; bytes = out.1 }

pub returns-in_err-next : goal.returns-in_err-next
returns-in_err-next c =
    let exit = exit_read c.args.distances.now _ _ c.paths-paths.ensures.value c.table.ensures c.in-Some.path in
    absurd (hop_not_refused (setting c.args.distances.now c.requires.declared c.requires.room) c.loop-before.at c.in_ok-path.ensures.value c.in-Some.is c.loop-before.invariant exit c.in_err-next.ensures.value)

pub loop-before-preserved : goal.loop-before-preserved
loop-before-preserved c =
    let exit = exit_read c.args.distances.now _ _ c.paths-paths.ensures.value c.table.ensures c.in-Some.path in
    let on = traced_on (setting c.args.distances.now c.requires.declared c.requires.room) c.loop-before.at c.in_ok-path.ensures.value c.in-Some.is c.loop-before.invariant exit c.if-exit_point-at.false c.in_ok-next.ensures.value in
    let some : Some on.0 ≡ Some c.in-Some-2.next = sym on.1 ∙ c.in-Some-2.is in
    let next : on.0 ≡ c.in-Some-2.next = cc in
    subst (λ x. Traced (declared_by c.args.distances.now) c.args.set c.args.router c.args.met.now x (c.loop-before.before + 1) (set c.loop-before.met c.loop-before.before c.loop-before.at)) next on.2

pub returns : goal.returns
returns c =
    absurd (omega (arith, traced_within (setting c.args.distances.now c.requires.declared c.requires.room) c.loop-before.invariant, c.loop-before-test.false, c.loop-before.auto.met))
