-- What the promise on the reading of a table tells an operator: drawn from the promise alone, of any bytes and any answer.
-- Assumes nothing.
use Rattle.std.proofs.Common.{◌≡◌, ℕ, ◌*◌, ◌<◌, ◌≤◌, ◌⊎◌, List, [], ◌∷◌, ◌++◌, length, take, drop, Ok, Err, All, Result, sym, refl, ap, ◌∙◌, inl, inr, ⊎_elim, arith}
use Rattle.std.specs.List.{flat_map}
use Rattle.std.proofs.lemmas.Bool.{cases_lt}
use Rattle.std.proofs.lemmas.List.Elements.{All-head}
use Rattle.std.proofs.lemmas.List.{length-append, take_at, drop_at}
use Rattle.faults.specs.Faults.{number_of, place_of}
use Rattle.faults.specs.declared.graph.GraphFault.TheVariants.{NoRouter, NoReflector, NotJoined}
use Rattle.faults.specs.declared.load.LoadFault.{LoadFault}
use Rattle.faults.specs.declared.load.LoadFault.TheVariants.{Record, Table, Graph}
use Rattle.layout.specs.Answer.{FirstRule, FirstRouter, AnswerTells}
use Rattle.layout.specs.Encoding.{router_bytes, link_bytes, session_bytes, path_bytes, encoded}
use Rattle.layout.specs.Promise.{Lowest, BrokenRecord, BrokenWhole, Unled, CutOff, Broken, Reads}
use Rattle.layout.specs.Rules.{Breaks}
use Rattle.layout.specs.Table.{Declared}
use Rattle.layout.specs.WellFormed.{Led, LinkFits, SessionFits, PathFits, Sound}
use Rattle.layout.specs.declared.router.Router.{Router}
use Rattle.layout.proofs.Chains.{chain_join, chain_back}
use Rattle.layout.proofs.Lengths.{length_joined, router_place_is}

not_both : (r : Result Declared LoadFault) (t : Declared) (fault : LoadFault) → r ≡ Ok t → r ≡ Err fault → ⊥
not_both r t fault e f = let z : ◌≡◌ {A = ℕ} 0 1 = cc in omega arith

same_table : (r : Result Declared LoadFault) (t u : Declared) → r ≡ Ok t → r ≡ Ok u → t ≡ u
same_table r t u e f = cc

-- of numbers of which P holds, the lowest is at most each
at_most_each : (P : ℕ → Type 0) (v : ℕ) → Lowest P v → (w : ℕ) → P w → v ≤ w
at_most_each P v low w p = ⊎_elim (λ lt. absurd (low.1 w lt p)) (λ le. le) (cases_lt w v)

no_elements : {X : Type 0} (xs : List X) → length xs ≡ 0 → xs ≡ []
no_elements [] e = refl
no_elements (x ∷ xs) e = absurd (omega arith)

none_fits : {X : Type 0} (P : X → Type 0) → ((x : X) → P x → ⊥) → (xs : List X) → All P xs → xs ≡ []
none_fits P never [] all = refl
none_fits P never (x ∷ xs) all = absurd (never x (All-head P x xs all))

-- without a router there is nothing
no_bytes : (t : Declared) → Sound t → length t.routers ≡ 0 → encoded t ≡ []
no_bytes t s none =
    let routers = no_elements t.routers none in
    let links = none_fits (LinkFits (length t.routers)) (λ l h. omega (arith, h.0.0, none)) t.links s.links_fit in
    let sessions = none_fits (SessionFits t.routers) (λ x h. omega (arith, h.0.0, none)) t.sessions s.sessions_fit in
    let paths = none_fits (PathFits (length t.routers)) (λ p h. omega (arith, h.at_router, none)) t.paths s.paths_fit in
    λ i. flat_map router_bytes (routers i) ++ (flat_map link_bytes (links i) ++ (flat_map session_bytes (sessions i) ++ flat_map path_bytes (paths i)))

-- a router's record stands within the bytes
router_within : (t : Declared) (v : ℕ) → v < length t.routers → 3 * v < length (encoded t)
router_within t v below =
    simp length-append (omega (arith, below, length_joined router_bytes 3 (λ _. refl) t.routers))

module _ (bs : List ℕ) where
  record_within : (fault : LoadFault) → BrokenRecord bs fault → place_of fault < length bs
  record_within fault h = omega (arith, h.place, ap length h.split, length-append (encoded h.before) (h.kind ∷ h.more))

  record_first : (fault : LoadFault) → BrokenRecord bs fault → FirstRule bs (place_of fault) (number_of fault)
  record_first fault h = (
    h.before,
    h.kind,
    h.more,
    h.sound,
    ap (take (place_of fault)) h.split ∙ take_at (encoded h.before) (h.kind ∷ h.more) (place_of fault) (sym h.place),
    ap (drop (place_of fault)) h.split ∙ drop_at (encoded h.before) (h.kind ∷ h.more) (place_of fault) (sym h.place),
    h.smallest.0,
    at_most_each (Breaks h.before h.kind h.more) (number_of fault) h.smallest,
  )

  of_record : (fault : LoadFault) → Broken bs fault → number_of fault ≤ 7 → FirstRule bs (place_of fault) (number_of fault)
  of_record (Record fault) h low = record_first (Record fault) h
  of_record (Table fault) h low = record_first (Table fault) h
  of_record (Graph NoRouter) h low = absurd (omega arith)
  of_record (Graph (NoReflector place)) h low = absurd (omega arith)
  of_record (Graph (NotJoined place)) h low = absurd (omega arith)

  no_router : BrokenWhole bs NoRouter → bs ≡ []
  no_router h = h.split ∙ no_bytes h.table h.sound h.breaks

  unled : (place : ℕ) → BrokenWhole bs (NoReflector place) → FirstRouter bs place (λ t v. Unled t.routers v)
  unled place h =
      let b = h.breaks in (
        h.table,
        b.1,
        h.sound,
        h.split,
        b.2 ∙ sym (router_place_is h.table.routers b.1 (omega (arith, b.3.0.1.0))),
        b.3.0,
        at_most_each (Unled h.table.routers) b.1 b.3,
      )

  led_none : (routers : List Router) → Led routers → (w : ℕ) → Unled routers w → ⊥
  led_none routers led w h = let found = led w h.0 h.1 in h.2 found.0 found.1

  cut_off : (place : ℕ) → BrokenWhole bs (NotJoined place) → FirstRouter bs place (λ t v. CutOff t v × ((w : ℕ) → Unled t.routers w → ⊥))
  cut_off place h =
      let b = h.breaks in (
        h.table,
        b.2,
        h.sound,
        h.split,
        b.3 ∙ sym (router_place_is h.table.routers b.2 (omega (arith, b.4.0.0))),
        (b.4.0, led_none h.table.routers b.1),
        λ w p. at_most_each (CutOff h.table) b.2 b.4 w p.0,
      )

  within : (fault : LoadFault) → Broken bs fault → (place_of fault < length bs) ⊎ (bs ≡ [])
  within (Record fault) h = inl (record_within (Record fault) h)
  within (Table fault) h = inl (record_within (Table fault) h)
  within (Graph NoRouter) h = inr (no_router h)
  within (Graph (NoReflector place)) h =
      let f = unled place h in
      inl (omega (arith, f.4, ap length f.3, router_within f.0 f.1 f.5.1.0))
  within (Graph (NotJoined place)) h =
      let f = cut_off place h in
      inl (omega (arith, f.4, ap length f.3, router_within f.0 f.1 f.5.0.0))

small_number : (fault : LoadFault) → number_of fault ≤ 10
small_number fault = search arith

pub answer_tells : (bs : List ℕ) (r : Result Declared LoadFault) → Reads bs r → AnswerTells bs r
answer_tells bs r h =
    record {
      same_bytes = λ t e cs other. (other.accepted t refl).1 ∙ sym (h.accepted t e).1;
      served = λ t e v c client_there.
          let well = (h.accepted t e).0 in
          let found = well.led v c client_there in
          (found.0, found.1, chain_join (chain_back (well.connected v client_there.0)) (well.connected found.0 found.1.0));
      no_table = λ fault e t well same. not_both r t fault (h.accepts t well same) e;
      one_table = λ t u well_t well_u e f. same_table r t u (h.accepts t well_t e) (h.accepts u well_u f);
      within = λ fault e. within bs fault (h.refused fault e);
      of_record = λ fault e. of_record bs fault (h.refused fault e);
      no_router = λ e. no_router bs (h.refused (Graph NoRouter) e);
      unled = λ place e. unled bs place (h.refused (Graph (NoReflector place)) e);
      cut_off = λ place e. cut_off bs place (h.refused (Graph (NotJoined place)) e);
      coded = λ fault e. omega (arith, h.near fault e, small_number fault);
    }
