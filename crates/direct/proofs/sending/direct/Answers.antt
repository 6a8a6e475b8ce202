use Rattle.std.proofs.Common.{rules, ◌≡◌, ℕ, List, ◌<◌, ◌^◌, ◌++◌, length, drop, None, sym, refl, ap, ◌∙◌, subst, arith}
use Rattle.std.proofs.lemmas.List.FromFn.{length-map-range_with_len}
use Rattle.layout.specs.Table.{Declared}
use Rattle.selection.specs.Stages.{keep_five_stage}
use Rattle.selection.specs.Undeclared.{lowest_undeclared}
use Rattle.selection.specs.Laws.{AllDeclared}
use Rattle.tables.specs.Accepted.{declared}
use Rattle.direct.specs.Answers.{bytes_sent}
use Rattle.direct.proofs.Promised.{short_buffer, all_written, undeclared_path, kept_declared, kept_same, ends}
use Rattle.direct.proofs.sending.direct.Goals as goal

-- what is kept is declared
pub write-requires-clause-all : goal.write-requires-clause-all
write-requires-clause-all c =
    let t = declared c.in_ok-table.table in
    let word : c.args.injected < 2 ^ 64 = c.ranges.injected.fits in
    let is : c.least_from.result ≡ lowest_undeclared t.paths c.args.injected = search rules in
    let none : lowest_undeclared t.paths c.args.injected ≡ None = sym is ∙ c.in_default.is in
    let kept : c.advertised-kept.result ≡ keep_five_stage t.paths c.args.injected =
    search (rules, kept_same t c.args.injected word none) in
    let all : AllDeclared t.paths c.advertised-kept.result =
    subst (AllDeclared t.paths) (sym kept) (kept_declared t c.args.injected word none) in
    subst (λ (d : Declared). AllDeclared d.paths c.advertised-kept.result) (sym c.of.ensures.same) all

pub returns-in-Some : goal.returns-in-Some
returns-in-Some c =
    let t = declared c.in_ok-table.table in
    let word : c.args.injected < 2 ^ 64 = c.ranges.injected.fits in
    let is : c.least_from.result ≡ lowest_undeclared t.paths c.args.injected = search rules in
    let out = undeclared_path c.args.bytes.now c.args.injected word c.args.buffer.now t c.least_from.result c.in-Some.path c.in_ok-table.ensures.value is c.in-Some.is in
    let end = ends c.args.bytes.now c.args.injected word c.args.buffer.now t c.in_ok-table.ensures.value c.in_ok-table.ensures.promise _ out refl refl in
    record { value = end.0; bytes = end.1; promise = end.2.0; tells = end.2.1 }

pub returns-then-buffer-lt-MOST_ROUTERS : goal.returns-then-buffer-lt-MOST_ROUTERS
returns-then-buffer-lt-MOST_ROUTERS c =
    let t = declared c.in_ok-table.table in
    let word : c.args.injected < 2 ^ 64 = c.ranges.injected.fits in
    let is : c.least_from.result ≡ lowest_undeclared t.paths c.args.injected = search rules in
    let out = short_buffer c.args.bytes.now c.args.injected word c.args.buffer.now t c.least_from.result c.in_ok-table.ensures.value is c.in_default.is c.if-buffer-lt-MOST_ROUTERS.true in
    let end = ends c.args.bytes.now c.args.injected word c.args.buffer.now t c.in_ok-table.ensures.value c.in_ok-table.ensures.promise _ out refl refl in
    record { value = end.0; bytes = end.1; promise = end.2.0; tells = end.2.1 }

pub returns : goal.returns
returns c =
    let t = declared c.in_ok-table.table in
    let word : c.args.injected < 2 ^ 64 = c.ranges.injected.fits in
    let is : c.least_from.result ≡ lowest_undeclared t.paths c.args.injected = search rules in
    let out = all_written c.args.bytes.now c.args.injected word c.args.buffer.now t c.least_from.result c.in_ok-table.ensures.value is c.in_default.is (omega (arith, c.if-buffer-lt-MOST_ROUTERS.false)) in
    let kept : c.advertised-kept.result ≡ keep_five_stage t.paths c.args.injected =
    search (rules, kept_same t c.args.injected word (sym is ∙ c.in_default.is)) in
    let routers : c.write.new.routers ≡ bytes_sent t (keep_five_stage t.paths c.args.injected) =
    c.write.ensures.bytes ∙ ap (λ d. bytes_sent d c.advertised-kept.result) c.of.ensures.same ∙ ap (bytes_sent t) kept in
    let as_many : length c.routers-count.result.now ≡ length (bytes_sent t (keep_five_stage t.paths c.args.injected)) =
    ap length c.routers-count.ensures.value ∙ sym (length-map-range_with_len _ 0 (length t.routers)) in
    let bytes : c.write.new.routers ++ drop (length c.routers-count.result.now) c.args.buffer.now ≡ bytes_sent t (keep_five_stage t.paths c.args.injected) ++ drop (length (bytes_sent t (keep_five_stage t.paths c.args.injected))) c.args.buffer.now =
    ap (λ n. c.write.new.routers ++ drop n c.args.buffer.now) as_many ∙ ap (λ (ys : List ℕ). ys ++ drop (length (bytes_sent t (keep_five_stage t.paths c.args.injected))) c.args.buffer.now) routers in
    let end = ends c.args.bytes.now c.args.injected word c.args.buffer.now t c.in_ok-table.ensures.value c.in_ok-table.ensures.promise _ out c.write.ensures.done bytes in
    record { value = end.0; bytes = end.1; promise = end.2.0; tells = end.2.1 }
