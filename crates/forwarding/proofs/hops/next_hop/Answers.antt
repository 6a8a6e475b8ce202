use Rattle.std.proofs.Common.{rules, ◌≡◌, length, sym, ◌∙◌, subst}
use borrow.Author.Tests.{tests}
use Rattle.std.proofs.lemmas.Iterator.{YieldsList-from_slice}
use Rattle.std.proofs.lemmas.Iterator.Adapters.{serves_from_places}
use Rattle.std.proofs.lemmas.Iterator.Consumers.{YieldsList-from_filter_map, min_from_yields_List}
use Rattle.std.proofs.lemmas.List.Elements.{All-get_or}
use Rattle.std.proofs.lemmas.Iterator.Adapters.{option_map_id}
use Rattle.costs.specs.Cost.{plain}
use Rattle.costs.specs.Least.{distance}
use Rattle.costs.proofs.Plain.{plain_laws}
use Rattle.distances.specs.Answered.{declared_by}
use Rattle.layout.specs.WellFormed.{LinkFits}
use Rattle.layout.proofs.Certain.{known_well_formed}
use Rattle.packets.specs.Hops.{HopIs, hop, lead_along}
use Rattle.packets.proofs.NextHops.{hop_is, hop_from}
use Rattle.packets.proofs.PlainPackets.{plain_measured}
use Rattle.forwarding.proofs.Rows.{both_answered, both_answers}
use Rattle.forwarding.proofs.LowestHop.{lowest_is}
use Rattle.forwarding.proofs.hops.next_hop.Goals as goal

pub min-requires-clause-can : goal.min-requires-clause-can
min-requires-clause-can c =
    let t = declared_by c.args.distances.now in
    let w = known_well_formed t c.args.distances.now.table.sound in
    let told = both_answered t c.args.from c.args.towards _ (distance plain t c.args.from c.args.towards) c.in_ok-whole.ensures.value in (
      tt,
      tt,
      serves_from_places (YieldsList-from_slice t.links cc) (λ x q k. search rules) (λ x k lt at.
          let fits = subst (LinkFits (length t.routers)) (sym at) (All-get_or (LinkFits (length t.routers)) t.links k x.now lt w.sound.links_fit) in
          search (rules, fits, told)),
    )

pub returns : goal.returns
returns c =
    let t = declared_by c.args.distances.now in
    let w = known_well_formed t c.args.distances.now.table.sound in
    let v = c.args.from in
    let e = c.args.towards in
    let told = both_answered t v e _ (distance plain t v e) c.in_ok-whole.ensures.value in
    let measured = plain_measured t w in
    let is : c.min.result ≡ hop plain t v e =
    sym (option_map_id c.min.result)
    ∙ min_from_yields_List c.filter_map-leading.result c.min.result c.min.ensures.ran (YieldsList-from_filter_map _ (lead_along plain t v e) (YieldsList-from_slice t.links cc) c.filter_map-leading.ensures.closure (λ x r q k. search (rules, tests)))
    ∙ lowest_is t v e w in
    record {
      value = both_answers t v e _ _ told.0 told.1 is;
      plain = subst (HopIs plain t v e) (sym is) (hop_is plain plain_laws t measured.links_fit measured.distances v e told.0 told.1);
      only = λ w lt next. is ∙ hop_from plain plain_laws t v e w lt next;
    }
