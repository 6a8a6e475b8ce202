-- Kind bytes, and what stands at a place whose byte is known. Assumes nothing.
use Rattle.std.proofs.Common.{◌≡◌, ℕ, ◌<◌, ◌≤◌, ltb, ◌⊎◌, List, ◌∷◌, ◌++◌, length, take, Some, None, Option, sym, refl, ap, ◌∙◌, subst, inl, inr, ⊎_elim, arith}
use Rattle.std.proofs.lemmas.List.{length-append, take_at}
use Rattle.std.proofs.lemmas.Bool.{cases_eq, cases_Bool, cond-true, cond-false, ne_eqb, le-ltb, ltb-true, ltb-false}
use Rattle.faults.specs.declared.record.RecordFault.{RecordFault}
use Rattle.faults.specs.declared.record.RecordFault.TheVariants.{UnknownKind, CutShort, KindFalls}
use Rattle.records.specs.Kinds.{kind_byte, body_length, kind_of}
use Rattle.records.specs.Readings.{Reading, ended, found, refused, reading_kind, reading_at}
use Rattle.records.specs.declared.kind.Kind.{Kind}
use Rattle.records.specs.declared.kind.Kind.TheVariants.{Router, Link, Session, Path}

pub kind_of_byte : (k : Kind) → kind_of (kind_byte k) ≡ Some k
kind_of_byte Router = refl
kind_of_byte Link = refl
kind_of_byte Session = refl
kind_of_byte Path = refl

pub no_kind : (b : ℕ) → (b ≡ 0) ⊎ (4 < b) → kind_of b ≡ None
no_kind b h =
    let one : b ≡ 1 → ⊥ = λ e. ⊎_elim (λ z. omega arith) (λ z. omega arith) h in
    let two : b ≡ 2 → ⊥ = λ e. ⊎_elim (λ z. omega arith) (λ z. omega arith) h in
    let three : b ≡ 3 → ⊥ = λ e. ⊎_elim (λ z. omega arith) (λ z. omega arith) h in
    let four : b ≡ 4 → ⊥ = λ e. ⊎_elim (λ z. omega arith) (λ z. omega arith) h in
    cond-false _ _ _ (ne_eqb b 1 one) ∙ cond-false _ _ _ (ne_eqb b 2 two) ∙ cond-false _ _ _ (ne_eqb b 3 three) ∙ cond-false _ _ _ (ne_eqb b 4 four)

pub kind_cases : (b : ℕ) → ((k : Kind) × (b ≡ kind_byte k)) ⊎ ((b ≡ 0) ⊎ (4 < b))
kind_cases b =
    ⊎_elim (λ e. inl (Router, e))
    (λ one. ⊎_elim (λ e. inl (Link, e))
    (λ two. ⊎_elim (λ e. inl (Session, e))
    (λ three. ⊎_elim (λ e. inl (Path, e))
    (λ four. inr (⊎_elim (λ e. inl e) (λ z. inr (omega arith)) (cases_eq b 0)))
    (cases_eq b 4))
    (cases_eq b 3))
    (cases_eq b 2))
    (cases_eq b 1)

some_not_none : (k : Kind) → ◌≡◌ {A = Option Kind} (Some k) None → ⊥
some_not_none k e = let z : ◌≡◌ {A = ℕ} 0 1 = cc in omega arith

pub same_kind : (j k : Kind) → ◌≡◌ {A = Option Kind} (Some j) (Some k) → j ≡ k
same_kind j k e = cc

pub kind_is : (b : ℕ) (k : Kind) → kind_of b ≡ Some k → b ≡ kind_byte k
kind_is b k e =
    ⊎_elim (λ h. h.1 ∙ ap kind_byte (same_kind _ _ (sym (kind_of_byte h.0) ∙ ap kind_of (sym h.1) ∙ e))) (λ h. absurd (some_not_none k (sym e ∙ no_kind b h))) (kind_cases b)

pub known : (b : ℕ) (k : Kind) → kind_of b ≡ Some k → (b ≡ 0) ⊎ (4 < b) → ⊥
known b k e h = some_not_none k (sym e ∙ no_kind b h)

pub unknown : (b : ℕ) → kind_of b ≡ None → (b ≡ 0) ⊎ (4 < b)
unknown b e = ⊎_elim (λ h. absurd (some_not_none h.0 (sym (kind_of_byte h.0) ∙ ap kind_of (sym h.1) ∙ e))) (λ h. h) (kind_cases b)

-- what was found, and what is known of it
pub record Found (before place b : ℕ) (more : List ℕ) (p : ℕ) (k : Kind) (body : List ℕ) : Type 0 where
  pub at_place : p ≡ place
  pub kind : kind_of b ≡ Some k
  pub whole : body_length k ≤ length more
  pub rises : before ≤ kind_byte k
  pub cut : body ≡ take (body_length k) more

-- why it was refused
abbrev pub Refused : ℕ → ℕ → ℕ → List ℕ → RecordFault → Type 0
Refused before place b more (UnknownKind p) = (p ≡ place) × (kind_of b ≡ None)
Refused before place b more (CutShort p) = (p ≡ place) × (k : Kind) × (kind_of b ≡ Some k) × (length more < body_length k)
Refused before place b more (KindFalls p) = (p ≡ place) × (k : Kind) × (kind_of b ≡ Some k) × (body_length k ≤ length more) × (kind_byte k < before)

abbrev pub Read : ℕ → ℕ → ℕ → List ℕ → Reading → Type 0
Read before place b more ended = ⊥
Read before place b more (found p k body) = Found before place b more p k body
Read before place b more (refused fault) = Refused before place b more fault

read_kind : (before place b : ℕ) (more : List ℕ) (o : Option Kind) → kind_of b ≡ o → Read before place b more (reading_kind before place more o)
read_kind before place b more None e = (refl, e)
read_kind before place b more (Some k) e =
    ⊎_elim
    (λ short. subst (Read before place b more) (sym (cond-true _ _ _ short)) (refl, k, e, ltb-true _ _ short))
    (λ long. subst (Read before place b more) (sym (cond-false _ _ _ long)) (⊎_elim
    (λ falls. subst (Read before place b more) (sym (cond-true _ _ _ falls)) (refl, k, e, ltb-false _ _ long, ltb-true _ _ falls))
    (λ rises. subst (Read before place b more) (sym (cond-false _ _ _ rises)) (record { at_place = refl; kind = e; whole = ltb-false _ _ long; rises = ltb-false _ _ rises; cut = refl }))
    (cases_Bool (ltb (kind_byte k) before))))
    (cases_Bool (ltb (length more) (body_length k)))

pub read : (before place b : ℕ) (more : List ℕ) → Read before place b more (reading_at before place (b ∷ more))
read before place b more = read_kind before place b more (kind_of b) refl

-- a whole record of a kind that does not fall
pub reading_whole : (before place : ℕ) (k : Kind) (body rest : List ℕ) → length body ≡ body_length k → before ≤ kind_byte k → reading_at before place (kind_byte k ∷ (body ++ rest)) ≡ found place k body
reading_whole before place k body rest long rises =
    let whole : body_length k ≤ length (body ++ rest) = omega (arith, length-append body rest) in
    ap (reading_kind before place (body ++ rest)) (kind_of_byte k) ∙ cond-false _ _ _ (le-ltb _ _ whole) ∙ cond-false _ _ _ (le-ltb _ _ rises) ∙ ap (found place k) (take_at body rest _ long)
