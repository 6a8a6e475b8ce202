use Rattle.std.proofs.Common.{◌≡◌, ◌<◌, length, sym, subst, arith, add-one}
use Rattle.std.proofs.lemmas.Grind.{common_steps}
use Rattle.distances.specs.Answered.{declared_by}
use Rattle.protocol.specs.Network.{set_of}
use Rattle.selection.specs.Laws.{AllDeclared}
use Rattle.listing.specs.Listing.{lines_of}
use Rattle.listing.proofs.lines.write_lines.Goals as goal

pub loop-router-init : goal.loop-router-init
unfolding lines_of
loop-router-init c = grind (arith, common_steps)

pub loop-router-preserved : goal.loop-router-preserved
unfolding lines_of
loop-router-preserved c = rw add-one (grind (arith, common_steps))

pub add_line-requires-clause-all : goal.add_line-requires-clause-all
add_line-requires-clause-all c =
    let t = declared_by c.args.distances.now in
    let at : c.set-item.result ≡ set_of c.args.advertised.now c.loop-router.router = grind (arith, common_steps) in
    let lt : c.loop-router.router < length t.routers = grind (arith, common_steps) in
    subst (AllDeclared t.paths) (sym at) (c.requires.all c.loop-router.router lt)
