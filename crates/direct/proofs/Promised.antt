-- What the direct call answers and writes is what it promises. Assumes nothing.
use Rattle.std.proofs.Common.{◌≡◌, ℕ, ◌<◌, ◌≤◌, ◌^◌, Bool, true, false, cond, List, ◌++◌, length, get_or, drop, length-append, Some, None, Ok, Err, Decides, Option, Result, sym, refl, ap, ◌∙◌, subst, arith}
use Rattle.std.proofs.lemmas.Bool.{both_ways, false_from_ne_true}
use Rattle.std.proofs.lemmas.Bool.Decides.{nat_tests}
use Rattle.std.proofs.lemmas.List.{get_or_append_left, length-drop}
use Rattle.std.proofs.lemmas.List.FromFn.{length-map-range_with_len, get_or-map-range_with_len}
use Rattle.std.proofs.lemmas.Slice.{drop-append-drop}
use Rattle.std.specs.Option.{unwrap_or}
use Rattle.std.specs.Prelude.{⊤, nat_le}
use Rattle.costs.specs.Cost.{plain}
use Rattle.costs.proofs.Plain.{plain_laws}
use Rattle.faults.specs.Faults.{call_place_of}
use Rattle.faults.specs.declared.call.CallFault.{CallFault}
use Rattle.faults.specs.declared.call.CallFault.TheVariants.{Load, UndeclaredPath, ShortBuffer}
use Rattle.faults.specs.declared.load.LoadFault.{LoadFault}
use Rattle.layout.specs.Promise.{Reads}
use Rattle.layout.specs.Table.{Declared}
use Rattle.layout.specs.WellFormed.{WellFormed}
use Rattle.packets.specs.Best.{best}
use Rattle.packets.specs.BestPlain.{BestIs}
use Rattle.packets.proofs.BestPaths.{best_is}
use Rattle.selection.specs.Laws.{AllDeclared, declared_of, Offered}
use Rattle.selection.specs.Plain.{FiveStageKeeps}
use Rattle.selection.specs.Stages.{keep_five_stage}
use Rattle.selection.specs.Undeclared.{lowest_undeclared}
use Rattle.selection.proofs.DeclaredPart.{declared_same}
use Rattle.selection.proofs.PlainTerms.{five_stage_plain}
use Rattle.selection.proofs.RuleLaws.{five_stage_laws}
use Rattle.selection.proofs.Undeclared.{LowestIs, plain_undeclared}
use Rattle.sets.specs.Members.{member, Empty}
use Rattle.sets.proofs.Digits.{member_below}
use Rattle.sets.proofs.LeastFrom.{least_from_is}
use Rattle.direct.specs.Answers.{bytes_sent, worked_out_by, worked_out, without_bytes, laid_over}
use Rattle.direct.specs.Promise.{IsTable, Sends, Sent, Refused, Directs}
use Rattle.direct.specs.Tells.{DirectTells}
use Rattle.direct.proofs.Telling.{direct_tells}

-- a table, and paths that it declares
module _ (t : Declared) (w : WellFormed t) (injected : ℕ) (all : AllDeclared t.paths injected) where
  abbrev kept : ℕ
  kept = keep_five_stage t.paths injected

  keeps : (p : ℕ) → Decides (member kept p) (FiveStageKeeps t.paths injected p)
  keeps p = subst (λ s. Decides (member (keep_five_stage t.paths s) p) (FiveStageKeeps t.paths injected p)) (declared_same t.paths injected all) (five_stage_plain t.paths injected p)

  -- what is kept is injected, and so declared
  kept_offered : (p : ℕ) → member kept p ≡ true → Offered t.paths injected p
  kept_offered p is =
      let in_s = five_stage_laws.within t.paths injected all p is in
      (all p in_s, in_s)

  sends_by : (v : ℕ) (o : Option ℕ) → BestIs plain t kept v o → Sends t injected kept v (unwrap_or o 255)
  sends_by v None none =
      let empty : Empty injected = five_stage_laws.nonempty t.paths injected all (λ p. false_from_ne_true _ (λ is. none p ((kept_offered p is).0, is))) in
      record { nowhere = λ e. refl; nothing = λ e. empty; best = λ q is. absurd (both_ways _ (empty q) is) }
  sends_by v (Some p) b =
      let small : p < 64 = omega (arith, b.0.0.0, w.sound.few_paths) in
      let there = kept_offered p b.0.0.1 in
      record { nowhere = λ e. absurd (both_ways _ (e p) there.1); nothing = λ e. absurd (omega (arith, small, e)); best = λ q is. b }

  module _ (before : List ℕ) (room : 32 ≤ length before) where
    abbrev after : List ℕ
    after = bytes_sent t kept ++ drop (length (bytes_sent t kept)) before

    each : length (bytes_sent t kept) ≡ length t.routers
    each = length-map-range_with_len (λ v. unwrap_or (best plain t kept v) 255) 0 (length t.routers)

    byte : (v : ℕ) → v < length t.routers → get_or after v 0 ≡ unwrap_or (best plain t kept v) 255
    byte v lt =
        get_or_append_left (bytes_sent t kept) (drop (length (bytes_sent t kept)) before) 0 v (omega (arith, each, lt))
        ∙ get_or-map-range_with_len (λ u. unwrap_or (best plain t kept u) 255) 0 (length t.routers) v v 0 lt (omega arith)

    all_sent : Sent t injected before after
    all_sent =
        record {
          kept = kept;
          keeps = keeps;
          sends = λ v lt. subst (Sends t injected kept v) (sym (byte v lt)) (sends_by v (best plain t kept v) (best_is plain plain_laws t kept v));
          as_long = omega (arith, length-append (bytes_sent t kept) (drop (length (bytes_sent t kept)) before), length-drop (length (bytes_sent t kept)) before, each, room, w.sound.few_routers);
          behind = subst (λ n. drop (length t.routers) (bytes_sent t kept ++ drop n before) ≡ drop (length t.routers) before) (sym each) (drop-append-drop (length t.routers) before (bytes_sent t kept) (length t.routers) (omega arith) each);
        }

-- a table, and any paths
module _ (t : Declared) (injected : ℕ) (word : injected < 2 ^ 64) where
  lowest_is : LowestIs t.paths injected (lowest_undeclared t.paths injected)
  lowest_is = plain_undeclared t.paths injected word (lowest_undeclared t.paths injected) (least_from_is 64 injected (length t.paths))

  -- where none is undeclared, what is kept is declared
  pub kept_declared : lowest_undeclared t.paths injected ≡ None → AllDeclared t.paths (keep_five_stage t.paths injected)
  kept_declared none =
      let all : AllDeclared t.paths injected = subst (LowestIs t.paths injected) none lowest_is in
      λ p is. all p (five_stage_laws.within t.paths injected all p is)

  -- where none is undeclared, what is kept of the declared ones is what is kept of all
  pub kept_same : lowest_undeclared t.paths injected ≡ None → keep_five_stage t.paths (declared_of t.paths injected) ≡ keep_five_stage t.paths injected
  kept_same none = ap (keep_five_stage t.paths) (declared_same t.paths injected (subst (LowestIs t.paths injected) none lowest_is))

module _ (bs : List ℕ) (injected : ℕ) (word : injected < 2 ^ 64) (before : List ℕ) where
  -- what an answer and a buffer keep, and so tell
  abbrev pub Kept : Result ⊤ CallFault → List ℕ → Type 0
  Kept answer after = Directs bs injected before after answer × DirectTells bs injected before after answer

  pub kept_of : (answer : Result ⊤ CallFault) (after : List ℕ) → Directs bs injected before after answer → Kept answer after
  kept_of answer after keeps = (keeps, direct_tells bs injected before after answer keeps)

  abbrev Promised : Result (List ℕ) CallFault → Type 0
  Promised r = Directs bs injected before (laid_over r before) (without_bytes r)

  -- what a call is accepted for
  Accepted : Type 0
  Accepted = (t : Declared) × IsTable bs t × AllDeclared t.paths injected × (32 ≤ length before)

  refusal : (fault : CallFault) → Refused bs injected (length before) fault → call_place_of fault ≤ 2272 → (Accepted → ⊥) → Promised (Err fault)
  unfolding Accepted
  refusal fault h near no_other =
      record {
        accepted = λ said. cc;
        accepts = λ t is all room. absurd (no_other (t, is, all, room));
        refused = λ other said. (let same : fault ≡ other = cc in (refl, subst (Refused bs injected (length before)) same h));
        near = λ other said. (let same : fault ≡ other = cc in subst (λ f. call_place_of f ≤ 2272) same near);
      }

  -- the bytes are those of table t, and of no other
  module _ (t : Declared) (is : IsTable bs t) (one : (u : Declared) → IsTable bs u → t ≡ u) where
    by_room : (all : AllDeclared t.paths injected) (b : Bool) → nat_le 32 (length before) ≡ b → Promised (cond b (Ok (bytes_sent t (keep_five_stage t.paths injected))) (Err (ShortBuffer 32)))
    unfolding Accepted
    by_room all true enough =
        let room : 32 ≤ length before = grind (arith, nat_tests, enough) in
        record {
          accepted = λ said. (t, is, all, room, all_sent t is.0 injected all before room);
          accepts = λ u is_u all_u room_u. refl;
          refused = λ fault said. cc;
          near = λ fault said. cc;
        }
    by_room all false short =
        let few : length before < 32 = grind (arith, nat_tests, short) in
        refusal (ShortBuffer 32) (t, is, all, few, refl) (omega arith) (λ other. omega (arith, few, other.3))

    by_paths : (o : Option ℕ) → LowestIs t.paths injected o → Promised (worked_out_by t injected (length before) o)
    unfolding Accepted
    by_paths (Some p) lowest =
        refusal (UndeclaredPath p) (t, is, lowest) (omega (arith, member_below 64 injected p word lowest.0.0))
        (λ other.
        let all : AllDeclared t.paths injected = subst (λ (u : Declared). AllDeclared u.paths injected) (sym (one other.0 other.1)) other.2 in
        omega (arith, all p lowest.0.0, lowest.0.1))
    by_paths None all = by_room all (nat_le 32 (length before)) refl

  by_table : (r : Result Declared LoadFault) → Reads bs r → Promised (worked_out r injected (length before))
  unfolding Accepted
  by_table (Err fault) reads = refusal (Load fault) (reads.refused fault refl) (reads.near fault refl) (λ other. let said = reads.accepts other.0 other.1.0 other.1.1 in cc)
  by_table (Ok t) reads =
      by_paths t (reads.accepted t refl) (λ u is. let said = reads.accepts u is.0 is.1 in cc) (lowest_undeclared t.paths injected) (lowest_is t injected word)

  module _ {r : Result Declared LoadFault} where
    -- what is worked out where the table was read
    of_table : (t : Declared) (o : Option ℕ) → Ok t ≡ r → o ≡ lowest_undeclared t.paths injected → worked_out r injected (length before) ≡ worked_out_by t injected (length before) o
    of_table t o read is = ap (λ x. worked_out x injected (length before)) (sym read) ∙ ap (worked_out_by t injected (length before)) (sym is)

    -- the three ways in which a call ends whose table was read
    pub undeclared_path : (t : Declared) (o : Option ℕ) (p : ℕ) → Ok t ≡ r → o ≡ lowest_undeclared t.paths injected → o ≡ Some p → worked_out r injected (length before) ≡ Err (UndeclaredPath p)
    undeclared_path t o p read is some = of_table t o read is ∙ ap (worked_out_by t injected (length before)) some

    pub short_buffer : (t : Declared) (o : Option ℕ) → Ok t ≡ r → o ≡ lowest_undeclared t.paths injected → o ≡ None → length before < 32 → worked_out r injected (length before) ≡ Err (ShortBuffer 32)
    short_buffer t o read is none short = of_table t o read is ∙ grind (arith, nat_tests)

    pub all_written : (t : Declared) (o : Option ℕ) → Ok t ≡ r → o ≡ lowest_undeclared t.paths injected → o ≡ None → 32 ≤ length before → worked_out r injected (length before) ≡ Ok (bytes_sent t (keep_five_stage t.paths injected))
    all_written t o read is none room = of_table t o read is ∙ grind (arith, nat_tests)

    -- an answer and a buffer that are what is worked out are what is promised
    pub ends :
        {answer : Result ⊤ CallFault} {after : List ℕ} (t : Declared) →
        Ok t ≡ r → Reads bs (Ok t) → (is : Result (List ℕ) CallFault) → worked_out r injected (length before) ≡ is → answer ≡ without_bytes is → after ≡ laid_over is before →
        (answer ≡ without_bytes (worked_out r injected (length before))) × (after ≡ laid_over (worked_out r injected (length before)) before) × Kept answer after
    ends {answer} {after} t read reads is out value bytes = (
      value ∙ ap without_bytes (sym out),
      bytes ∙ ap (λ x. laid_over x before) (sym out),
      kept_of answer after
          (subst (λ x. Directs bs injected before x answer) (sym bytes)
          (subst (Directs bs injected before (laid_over is before)) (sym value)
          (subst Promised out (by_table r (subst (Reads bs) read reads))))),
    )
