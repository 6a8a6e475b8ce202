-- What a caller may rest on follows from what the direct call promises. Assumes nothing.
use Rattle.std.proofs.Common.{◌≡◌, ◌+◌, ◌-◌, ℕ, ◌≤◌, true, List, length, get_or, Ok, Err, Result, inl, inr, sym, refl, ap, ◌∙◌, arith}
use Rattle.std.proofs.lemmas.List.{get_or-drop}
use Rattle.std.specs.Prelude.{⊤, ◌⊎◌, OnErr, IfErr}
use Rattle.faults.specs.Faults.{number_of, call_number_of, call_place_of}
use Rattle.faults.specs.declared.call.CallFault.{CallFault}
use Rattle.faults.specs.declared.call.CallFault.TheVariants.{Load, UndeclaredPath, UndeclaredRouter, NoRouterNamed, AlreadyInjected, NotInjected, ShortBuffer}
use Rattle.faults.specs.declared.graph.GraphFault.TheVariants.{NoRouter, NoReflector, NotJoined}
use Rattle.faults.specs.declared.load.LoadFault.{LoadFault}
use Rattle.faults.specs.declared.load.LoadFault.TheVariants.{Record, Table, Graph}
use Rattle.faults.specs.declared.record.RecordFault.TheVariants.{UnknownKind, CutShort, KindFalls}
use Rattle.faults.specs.declared.table.TableFault.TheVariants.{TooMany, OutOfRange, BadPair, BadSession}
use Rattle.layout.specs.Reading.{table_in}
use Rattle.layout.specs.Table.{Declared}
use Rattle.layout.proofs.Accepts.{table_accepted}
use Rattle.selection.specs.Laws.{Offered}
use Rattle.selection.specs.Plain.{FiveStageKeeps}
use Rattle.sets.specs.Members.{member}
use Rattle.direct.specs.Promise.{IsTable, Sends, Sent, Refused, Directs}
use Rattle.direct.specs.Tells.{IsOnlyTable, Picks, Told, DirectTells}

-- bytes are those of one table at most
same_table : (bs : List ℕ) (t u : Declared) → IsTable bs t → IsTable bs u → u ≡ t
same_table bs t u of_t of_u =
    let e = sym (table_accepted u of_u.0) ∙ ap table_in (sym of_u.1 ∙ of_t.1) ∙ table_accepted t of_t.0 in cc

only_table : (bs : List ℕ) (t : Declared) → IsTable bs t → IsOnlyTable bs t
only_table bs t is = (is, λ u other. same_table bs t u is other)

module _ (t : Declared) (injected : ℕ) (before after : List ℕ) (sent : Sent t injected before after) where
  kept_offered : (q : ℕ) → FiveStageKeeps t.paths injected q → Offered t.paths sent.kept q
  kept_offered q keeps = (keeps.shortest.offered.0, (sent.keeps q).1 keeps)

  picked : (v p : ℕ) → Sends t injected sent.kept v p → (q : ℕ) → member injected q ≡ true → Picks t injected v p
  picked v p sends q there =
      let best = sends.best q there in
      let kept = (sent.keeps p).0 best.0.0.1 in
      record {
        offered = kept.shortest.offered;
        kept = kept;
        own_first = λ x keeps here.
            elim best.0.1 [
              | inl own ↦ own
              | inr none ↦ absurd (none x (kept_offered x keeps) here)
            ];
        own = λ x keeps here. best.1 x (kept_offered x keeps, inl here);
        others = λ away x keeps.
            best.1 x (
              kept_offered x keeps,
              elim best.0.1 [
                | inl own ↦ absurd (away own)
                | inr none ↦ inr none
              ],
            );
      }

  sent_tells : Told t injected before after
  sent_tells = record {
    nowhere = λ v lt. ((sent.sends v lt).nothing, (sent.sends v lt).nowhere);
    picks = λ v q lt there. picked v (get_or after v 0) (sent.sends v lt) q there;
    behind = λ k le.
        let n = length t.routers in
        let here : n + (k - n) ≡ k = omega (arith, le) in
        ap (λ j. get_or after j 0) (sym here)
        ∙ sym (get_or-drop n after (k - n) 0)
        ∙ ap (λ (ys : List ℕ). get_or ys (k - n) 0) sent.behind
        ∙ get_or-drop n before (k - n) 0
        ∙ ap (λ j. get_or before j 0) here;
    as_long = sent.as_long;
  }

-- the number of a table's fault
pub load_number : (fault : LoadFault) → (1 ≤ number_of fault) × (number_of fault ≤ 10)
load_number (Record (UnknownKind place)) = (omega arith, omega arith)
load_number (Record (CutShort place)) = (omega arith, omega arith)
load_number (Record (KindFalls place)) = (omega arith, omega arith)
load_number (Table (TooMany place)) = (omega arith, omega arith)
load_number (Table (OutOfRange place)) = (omega arith, omega arith)
load_number (Table (BadPair place)) = (omega arith, omega arith)
load_number (Table (BadSession place)) = (omega arith, omega arith)
load_number (Graph NoRouter) = (omega arith, omega arith)
load_number (Graph (NoReflector place)) = (omega arith, omega arith)
load_number (Graph (NotJoined place)) = (omega arith, omega arith)

module _ (bs : List ℕ) (injected : ℕ) (before after : List ℕ) where
  number_told : (fault : CallFault) → Refused bs injected (length before) fault → (call_number_of fault ≤ 11) ⊎ (call_number_of fault ≡ 16)
  number_told (Load fault) why = inl (omega (arith, load_number fault))
  number_told (UndeclaredPath p) why = inl (omega arith)
  number_told (UndeclaredRouter v) why = absurd why
  number_told NoRouterNamed why = absurd why
  number_told (AlreadyInjected p) why = absurd why
  number_told (NotInjected p) why = absurd why
  number_told (ShortBuffer needed) why = inr refl

  module _ (r : Result ⊤ CallFault) (directs : Directs bs injected before after r) where
    on_refusal : (a : Result ⊤ CallFault) → r ≡ a → OnErr a (after ≡ before)
    on_refusal (Ok done) is = tt
    on_refusal (Err fault) is = (directs.refused fault is).0

    numbers_of : (a : Result ⊤ CallFault) → r ≡ a → IfErr a (λ fault. (call_number_of fault ≤ 11) ⊎ (call_number_of fault ≡ 16))
    numbers_of (Ok done) is = tt
    numbers_of (Err fault) is = number_told fault (directs.refused fault is).1

    places_of : (a : Result ⊤ CallFault) → r ≡ a → IfErr a (λ fault. call_place_of fault ≤ 2272)
    places_of (Ok done) is = tt
    places_of (Err fault) is = directs.near fault is

    pub direct_tells : DirectTells bs injected before after r
    direct_tells = record {
      in_order = directs.accepts;
      accepted = λ is.
          let a = directs.accepted is in
          (a.0, only_table bs a.0 a.1, a.2, a.3, sent_tells a.0 injected before after a.4);
      leaves = on_refusal r refl;
      table = λ fault is. (directs.refused (Load fault) is).1;
      path = λ p is.
          let why = (directs.refused (UndeclaredPath p) is).1 in
          (why.0, only_table bs why.0 why.1, why.2.0.0, why.2.0.1, λ q lt there. grind (arith, why.2.1 q lt, there));
      buffer = λ needed is.
          let why = (directs.refused (ShortBuffer needed) is).1 in
          (why.0, only_table bs why.0 why.1, why.2, why.3, why.4);
      numbers = numbers_of r refl;
      places = places_of r refl;
    }
