use Rattle.std.proofs.Common.{rules, ◌≡◌, length, Some, Ok, sym, refl, ◌∙◌, inl, inr, arith}
use Rattle.std.proofs.lemmas.Bool.Decides.{nat_tests}
use Rattle.distances.specs.Answered.{declared_by}
use Rattle.forwarding.proofs.Refused.{refused_for_path, through}
use Rattle.selection.specs.Undeclared.{lowest_undeclared}
use Rattle.listing.specs.Listing.{list_at, listing, named_by}
use Rattle.listing.specs.Refusals.{NoStray}
use Rattle.listing.proofs.Strays.{list_bytes_where_declared, list_refuses, list_where_declared, no_stray_below}
use Rattle.listing.proofs.lines.list.Goals as goal

pub returns-in-Some-clause-refuses : goal.returns-in-Some-clause-refuses
returns-in-Some-clause-refuses c fault =
    let t = declared_by c.args.distances.now in
    let told = c.args.advertised.now in
    let names : c.named-named.result ≡ named_by told (length t.routers) = search rules in
    let is : lowest_undeclared t.paths (named_by told (length t.routers)) ≡ Some c.in-Some.path = search (rules, names, c.least_from.ensures.value, c.in-Some.is) in
    let room = length c.args.buffer.now in
    through (refused_for_path t (named_by told (length t.routers)) {o = lowest_undeclared t.paths (named_by told (length t.routers))} refl is (list_at t told room))
    (list_refuses t told (inl (c.in-Some.path, is)) room fault)

pub returns-then-buffer-lt-MOST_BYTES-clause-value : goal.returns-then-buffer-lt-MOST_BYTES-clause-value
returns-then-buffer-lt-MOST_BYTES-clause-value c =
    let t = declared_by c.args.distances.now in
    let told = c.args.advertised.now in
    let names : c.named-named.result ≡ named_by told (length t.routers) = search rules in
    let many : length c.paths.result.now ≡ length t.paths = search rules in
    let none : NoStray t told = no_stray_below t told names many (c.least_from.ensures.below c.in_default.is) in
    grind (arith, nat_tests, c.if-buffer-lt-MOST_BYTES.true) ∙ sym (list_where_declared t told none (length c.args.buffer.now))

pub returns-then-buffer-lt-MOST_BYTES-clause-bytes : goal.returns-then-buffer-lt-MOST_BYTES-clause-bytes
returns-then-buffer-lt-MOST_BYTES-clause-bytes c =
    let t = declared_by c.args.distances.now in
    let told = c.args.advertised.now in
    let names : c.named-named.result ≡ named_by told (length t.routers) = search rules in
    let many : length c.paths.result.now ≡ length t.paths = search rules in
    let none : NoStray t told = no_stray_below t told names many (c.least_from.ensures.below c.in_default.is) in
    grind (arith, nat_tests, c.if-buffer-lt-MOST_BYTES.true) ∙ sym (list_bytes_where_declared t told none c.args.buffer.now)

pub returns-then-buffer-lt-MOST_BYTES-clause-refuses : goal.returns-then-buffer-lt-MOST_BYTES-clause-refuses
returns-then-buffer-lt-MOST_BYTES-clause-refuses c fault =
    let t = declared_by c.args.distances.now in
    let told = c.args.advertised.now in
    let names : c.named-named.result ≡ named_by told (length t.routers) = search rules in
    let many : length c.paths.result.now ≡ length t.paths = search rules in
    let none : NoStray t told = no_stray_below t told names many (c.least_from.ensures.below c.in_default.is) in
    through (returns-then-buffer-lt-MOST_BYTES-clause-value c) (list_refuses t told (inr none) (length c.args.buffer.now) fault)

pub write_lines-requires-clause-all : goal.write_lines-requires-clause-all
write_lines-requires-clause-all c =
    let t = declared_by c.args.distances.now in
    let told = c.args.advertised.now in
    let names : c.named-named.result ≡ named_by told (length t.routers) = search rules in
    let many : length c.paths.result.now ≡ length t.paths = search rules in
    let none : NoStray t told = no_stray_below t told names many (c.least_from.ensures.below c.in_default.is) in
    none

pub returns-clause-value : goal.returns-clause-value
returns-clause-value c =
    let t = declared_by c.args.distances.now in
    let told = c.args.advertised.now in
    let names : c.named-named.result ≡ named_by told (length t.routers) = search rules in
    let many : length c.paths.result.now ≡ length t.paths = search rules in
    let none : NoStray t told = no_stray_below t told names many (c.least_from.ensures.below c.in_default.is) in
    c.write_lines.ensures.value ∙ sym (list_where_declared t told none (length c.args.buffer.now))

pub returns-clause-bytes : goal.returns-clause-bytes
returns-clause-bytes c =
    let t = declared_by c.args.distances.now in
    let told = c.args.advertised.now in
    let names : c.named-named.result ≡ named_by told (length t.routers) = search rules in
    let many : length c.paths.result.now ≡ length t.paths = search rules in
    let none : NoStray t told = no_stray_below t told names many (c.least_from.ensures.below c.in_default.is) in
    c.write_lines.ensures.bytes ∙ sym (list_bytes_where_declared t told none c.args.buffer.now)

pub returns-clause-asked : goal.returns-clause-asked
returns-clause-asked c =
    let t = declared_by c.args.distances.now in
    let told = c.args.advertised.now in
    let names : c.named-named.result ≡ named_by told (length t.routers) = search rules in
    let many : length c.paths.result.now ≡ length t.paths = search rules in
    let none : NoStray t told = no_stray_below t told names many (c.least_from.ensures.below c.in_default.is) in
    let done : c.write_lines.result ≡ Ok (length (listing t told)) = c.write_lines.ensures.value ∙ grind (arith, nat_tests, c.if-buffer-lt-MOST_BYTES.false) in
    rw done (none, omega (arith, c.if-buffer-lt-MOST_BYTES.false))

pub returns-clause-refuses : goal.returns-clause-refuses
returns-clause-refuses c fault =
    let t = declared_by c.args.distances.now in
    let told = c.args.advertised.now in
    let names : c.named-named.result ≡ named_by told (length t.routers) = search rules in
    let many : length c.paths.result.now ≡ length t.paths = search rules in
    let none : NoStray t told = no_stray_below t told names many (c.least_from.ensures.below c.in_default.is) in
    through (returns-clause-value c) (list_refuses t told (inr none) (length c.args.buffer.now) fault)

pub returns-clause-unchanged : goal.returns-clause-unchanged
returns-clause-unchanged c =
    let done : c.write_lines.result ≡ Ok (length (listing (declared_by c.args.distances.now) c.args.advertised.now)) = c.write_lines.ensures.value ∙ grind (arith, nat_tests, c.if-buffer-lt-MOST_BYTES.false) in
    rw done tt
