use Rattle.std.proofs.Common.{◌≡◌, cond, length, Ok, Err, ◌∙◌, sym, refl, inl, inr, arith}
use Rattle.std.specs.Prelude.{nat_le}
use Rattle.std.proofs.lemmas.Grind.{common_steps}
use Rattle.distances.specs.Answered.{declared_by, distances_from, of_router}
use Rattle.layout.proofs.Certain.{known_well_formed}
use Rattle.faults.specs.declared.call.CallFault.TheVariants.{ShortBuffer}
use Rattle.costs.specs.Cost.{plain}
use Rattle.packets.specs.Ways.{way}
use Rattle.forwarding.specs.Answers.{told}
use Rattle.forwarding.proofs.Refused.{no_room, no_router_told, refused_for_path, through, trace_refuses, traced}
use Rattle.forwarding.proofs.Rows.{answered}
use Rattle.forwarding.proofs.Traced.{leaves_here, leaves_always}
use Rattle.forwarding.proofs.packet.trace.Goals as goal

pub returns-in-Some-clause-refuses : goal.returns-in-Some-clause-refuses
returns-in-Some-clause-refuses c fault =
    let t = declared_by c.args.distances.now in
    let v = c.args.router in
    let s = c.args.set in
    let room = length c.args.met.now in
    through (refused_for_path t s c.lowest_undeclared.ensures.value c.in-Some.is (of_router t v (cond (nat_le 32 room) (Ok (told (way plain t s v))) (Err (ShortBuffer 32)))))
    (trace_refuses t s (inl (c.in-Some.path, sym c.lowest_undeclared.ensures.value ∙ c.in-Some.is)) v room fault)

pub returns-in-Some-clause-leaves : goal.returns-in-Some-clause-leaves
returns-in-Some-clause-leaves c = leaves_here c.args.distances.now c.args.set c.args.router

pub returns-in-Some-clause-however : goal.returns-in-Some-clause-however
returns-in-Some-clause-however c = leaves_always c.args.distances.now c.args.set

pub returns-in_err-row : goal.returns-in_err-row
returns-in_err-row c =
    let t = declared_by c.args.distances.now in
    let is : c.from_residual.result ≡ Err c.in_err-row.field-0.0 = grind (arith, common_steps) in
    let end = no_router_told t c.args.set c.in_default.ensures.none c.args.router c.args.met.now (distances_from t c.args.router) c.in_err-row.ensures.value is in
    record {
      value = end.0;
      bytes = end.1;
      asked = rw is tt;
      refuses = λ fault. through end.0 (trace_refuses t c.args.set (inr c.in_default.ensures.none) c.args.router (length c.args.met.now) fault);
      unchanged = rw is refl;
      leaves = leaves_here c.args.distances.now c.args.set c.args.router;
      however = leaves_always c.args.distances.now c.args.set;
    }

pub returns-then-met-lt-MOST_MET : goal.returns-then-met-lt-MOST_MET
returns-then-met-lt-MOST_MET c =
    let t = declared_by c.args.distances.now in
    let lt = (answered t c.args.router _ (distances_from t c.args.router) c.in_ok-row.ensures.value).0 in
    let end = no_room t c.args.set c.in_default.ensures.none c.args.router c.args.met.now lt c.if-met-lt-MOST_MET.true in
    record {
      value = end.0;
      bytes = end.1;
      asked = tt;
      refuses = λ fault. through end.0 (trace_refuses t c.args.set (inr c.in_default.ensures.none) c.args.router (length c.args.met.now) fault);
      unchanged = refl;
      leaves = leaves_here c.args.distances.now c.args.set c.args.router;
      however = leaves_always c.args.distances.now c.args.set;
    }

pub overflow_cast-router : goal.overflow_cast-router
overflow_cast-router c =
    let t = declared_by c.args.distances.now in
    let lt = (answered t c.args.router _ (distances_from t c.args.router) c.in_ok-row.ensures.value).0 in
    omega (arith, lt, (known_well_formed t c.args.distances.now.table.sound).sound.few_routers)

pub returns : goal.returns
returns c =
    let t = declared_by c.args.distances.now in
    let lt = (answered t c.args.router _ (distances_from t c.args.router) c.in_ok-row.ensures.value).0 in
    let end = traced t c.args.set c.in_default.ensures.none c.args.router c.args.met.now lt (omega (arith, c.if-met-lt-MOST_MET.false)) in
    record {
      value = c.follow.ensures.value ∙ end.0.0;
      bytes = c.follow.ensures.bytes ∙ end.0.1;
      asked = rw c.follow.ensures.value end.1;
      refuses = λ fault. through (c.follow.ensures.value ∙ end.0.0) (trace_refuses t c.args.set (inr c.in_default.ensures.none) c.args.router (length c.args.met.now) fault);
      unchanged = rw c.follow.ensures.value tt;
      leaves = leaves_here c.args.distances.now c.args.set c.args.router;
      however = leaves_always c.args.distances.now c.args.set;
    }
