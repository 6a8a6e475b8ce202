-- The fault of a record has the smallest number that the record breaks, and a record without a fault breaks none. Assumes nothing.
use Rattle.std.proofs.Common.{◌≡◌, ℕ, ◌<◌, ◌≤◌, false, leb, ◌⊎◌, List, length, take, Some, Ok, Err, Result, sym, refl, ap, ◌∙◌, subst, ⊎_elim, arith}
use Rattle.std.proofs.lemmas.List.{length-take-le}
use Rattle.std.proofs.lemmas.Bool.{cases_Bool, cond-true, cond-false, leb-true, leb-false, not-false}
use Rattle.std.proofs.lemmas.Bool.Decides.{not_from_Decides}
use Rattle.faults.specs.Faults.{number_of, place_of}
use Rattle.faults.specs.declared.load.LoadFault.TheVariants.{Record, Table}
use Rattle.faults.specs.declared.record.RecordFault.{RecordFault}
use Rattle.faults.specs.declared.record.RecordFault.TheVariants.{UnknownKind, CutShort, KindFalls}
use Rattle.faults.specs.declared.table.TableFault.{TableFault}
use Rattle.records.specs.Kinds.{body_length, kind_of}
use Rattle.records.specs.declared.kind.Kind.{Kind}
use Rattle.records.specs.declared.kind.Kind.TheVariants.{Router as router_kind, Link as link_kind, Session as session_kind, Path as path_kind}
use Rattle.layout.specs.Bodies.{pair_in, adding}
use Rattle.layout.specs.Checks.{out_of_range, bad_pair, bad_session, declaring}
use Rattle.layout.specs.Promise.{Lowest}
use Rattle.layout.specs.Rules.{most, count, latest, OutOfRange, BadPair, BadSession, OfKind, Breaks, unknown_kind, cut_short, kind_falls, too_many, out_of_range as breaks_range, bad_pair as breaks_pair, bad_session as breaks_session}
use Rattle.layout.specs.Table.{Declared}
use Rattle.layout.proofs.Adding.{Local, Good}
use Rattle.layout.proofs.Checks.{decides_range, decides_pair, decides_session, decides_clients}
use Rattle.layout.proofs.KindBytes.{same_kind, kind_is, known, unknown, Found, Refused}
use Rattle.layout.proofs.Records.{Bytes}

module _ (t : Declared) (b : ℕ) (more : List ℕ) where
  -- which rules below number n are kept
  pub record Keeps (n : ℕ) : Type 0 where
    pub one : 1 < n → (b ≡ 0) ⊎ (4 < b) → ⊥
    pub two : 2 < n → OfKind b more (λ k body. length more < body_length k) → ⊥
    pub three : 3 < n → b < latest t → ⊥
    pub four : 4 < n → OfKind b more (λ k body. most k ≤ count t k) → ⊥
    pub five : 5 < n → OfKind b more (OutOfRange t) → ⊥
    pub six : 6 < n → OfKind b more (BadPair t) → ⊥
    pub seven : 7 < n → OfKind b more (BadSession t) → ⊥

  pub none_below : (n : ℕ) → Keeps n → (m : ℕ) → m < n → Breaks t b more m → ⊥
  none_below n h m lt (unknown_kind r) = h.one lt r
  none_below n h m lt (cut_short r) = h.two lt r
  none_below n h m lt (kind_falls r) = h.three lt r
  none_below n h m lt (too_many r) = h.four lt r
  none_below n h m lt (breaks_range r) = h.five lt r
  none_below n h m lt (breaks_pair r) = h.six lt r
  none_below n h m lt (breaks_session r) = h.seven lt r

  -- there is one kind only
  of_kind : (k : Kind) (P : Kind → List ℕ → Type 0) → kind_of b ≡ Some k → OfKind b more P → P k (take (body_length k) more)
  of_kind k P e h = subst (λ (j : Kind). P j (take (body_length j) more)) (same_kind _ _ (sym h.1 ∙ e)) h.2

  module _ (before place : ℕ) (follows : before ≡ latest t) where
    pub refused_lowest : (fault : RecordFault) → Refused before place b more fault → (place_of (Record fault) ≡ place) × Lowest (Breaks t b more) (number_of (Record fault))
    refused_lowest (UnknownKind p) h = (
      h.0,
      (
        unknown_kind (unknown b h.1),
        none_below 1 (record { one = λ lt r. omega arith; two = λ lt r. omega arith; three = λ lt r. omega arith; four = λ lt r. omega arith; five = λ lt r. omega arith; six = λ lt r. omega arith; seven = λ lt r. omega arith }),
      ),
    )
    refused_lowest (CutShort p) h = (
      h.0,
      (
        cut_short (h.1, h.2, h.3),
        none_below 2 (record { one = λ lt r. known b h.1 h.2 r; two = λ lt r. omega arith; three = λ lt r. omega arith; four = λ lt r. omega arith; five = λ lt r. omega arith; six = λ lt r. omega arith; seven = λ lt r. omega arith }),
      ),
    )
    refused_lowest (KindFalls p) h = (
      h.0,
      (
        kind_falls (omega (arith, kind_is b h.1 h.2, h.4)),
        none_below 3 (record {
          one = λ lt r. known b h.1 h.2 r;
          two = λ lt r. omega (arith, of_kind h.1 (λ j body. length more < body_length j) h.2 r, h.3);
          three = λ lt r. omega arith;
          four = λ lt r. omega arith;
          five = λ lt r. omega arith;
          six = λ lt r. omega arith;
          seven = λ lt r. omega arith;
        }),
      ),
    )

    module _ (p : ℕ) (k : Kind) (body : List ℕ) (f : Found before place b more p k body) (bytes : Bytes body) where
      -- what one more record comes to
      abbrev pub DeclaringTells : Result Declared TableFault → Type 0
      DeclaringTells (Ok u) = (u ≡ adding t k body) × Good t k body
      DeclaringTells (Err fault) = (place_of (Table fault) ≡ place) × Lowest (Breaks t b more) (number_of (Table fault))

      holds : (P : Kind → List ℕ → Type 0) → P k body → OfKind b more P
      holds P h = (k, f.kind, subst (P k) f.cut h)

      keeps : (P : Kind → List ℕ → Type 0) → (P k body → ⊥) → OfKind b more P → ⊥
      keeps P no_such h = no_such (subst (P k) (sym f.cut) (of_kind k P f.kind h))

      -- the first three rules are kept by what was found
      kept_one : (b ≡ 0) ⊎ (4 < b) → ⊥
      kept_one r = known b k f.kind r

      kept_two : OfKind b more (λ j _. length more < body_length j) → ⊥
      kept_two r = omega (arith, of_kind k (λ j _. length more < body_length j) f.kind r, f.whole)

      kept_three : b < latest t → ⊥
      kept_three r = omega (arith, kind_is b k f.kind, f.rises)

      long : length body ≡ body_length k
      long = ap length f.cut ∙ length-take-le (body_length k) more f.whole

      session_local : (j : Kind) → bad_session t j body ≡ false → Local t j body
      session_local router_kind e = tt
      session_local link_kind e = tt
      session_local session_kind e = (decides_clients t.routers (pair_in body)).0 (not-false _ e)
      session_local path_kind e = tt

      pub declaring_tells : DeclaringTells (declaring t p k body)
      declaring_tells =
          ⊎_elim
          (λ full. subst DeclaringTells (sym (cond-true _ _ _ full)) (
            f.at_place,
            (
              too_many (holds (λ j _. most j ≤ count t j) (leb-true _ _ full)),
              none_below 4 (record { one = λ lt. kept_one; two = λ lt. kept_two; three = λ lt. kept_three; four = λ lt r. omega arith; five = λ lt r. omega arith; six = λ lt r. omega arith; seven = λ lt r. omega arith }),
            ),
          ))
          (λ roomy.
          let four = keeps (λ j _. most j ≤ count t j) (λ h. omega (arith, leb-false (most k) (count t k) roomy)) in
          subst DeclaringTells (sym (cond-false _ _ _ roomy)) (⊎_elim
          (λ off. subst DeclaringTells (sym (cond-true _ _ _ off)) (
            f.at_place,
            (
              breaks_range (holds (OutOfRange t) ((decides_range t k body).0 off)),
              none_below 5 (record { one = λ lt. kept_one; two = λ lt. kept_two; three = λ lt. kept_three; four = λ lt. four; five = λ lt r. omega arith; six = λ lt r. omega arith; seven = λ lt r. omega arith }),
            ),
          ))
          (λ in_range.
          let range = not_from_Decides _ (decides_range t k body) in_range in
          let five = keeps (OutOfRange t) range in
          subst DeclaringTells (sym (cond-false _ _ _ in_range)) (⊎_elim
          (λ bad. subst DeclaringTells (sym (cond-true _ _ _ bad)) (
            f.at_place,
            (
              breaks_pair (holds (BadPair t) ((decides_pair t k body).0 bad)),
              none_below 6 (record { one = λ lt. kept_one; two = λ lt. kept_two; three = λ lt. kept_three; four = λ lt. four; five = λ lt. five; six = λ lt r. omega arith; seven = λ lt r. omega arith }),
            ),
          ))
          (λ good.
          let pair = not_from_Decides _ (decides_pair t k body) good in
          let six = keeps (BadPair t) pair in
          subst DeclaringTells (sym (cond-false _ _ _ good)) (⊎_elim
          (λ bad. subst DeclaringTells (sym (cond-true _ _ _ bad)) (
            f.at_place,
            (
              breaks_session (holds (BadSession t) ((decides_session t k body).0 bad)),
              none_below 7 (record { one = λ lt. kept_one; two = λ lt. kept_two; three = λ lt. kept_three; four = λ lt. four; five = λ lt. five; six = λ lt. six; seven = λ lt r. omega arith }),
            ),
          ))
          (λ local. subst DeclaringTells (sym (cond-false _ _ _ local)) (
            refl,
            record {
              rises = omega (arith, f.rises);
              long = long;
              bytes = bytes;
              room = leb-false (most k) (count t k) roomy;
              range = range;
              pair = pair;
              session = session_local k local;
            },
          ))
          (cases_Bool (bad_session t k body))))
          (cases_Bool (bad_pair t k body))))
          (cases_Bool (out_of_range t k body))))
          (cases_Bool (leb (most k) (count t k)))
