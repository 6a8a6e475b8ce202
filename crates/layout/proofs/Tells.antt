-- Reading on from a sound front tells of the whole. Assumes nothing.
use Rattle.std.proofs.Common.{◌≡◌, ℕ, zero, suc, ◌+◌, ◌<◌, ◌≤◌, List, [], ◌∷◌, ◌++◌, length, drop, Ok, Err, Result, sym, refl, ap, ◌∙◌, subst, append_assoc, append-nil, arith}
use Rattle.std.proofs.lemmas.List.Elements.{All-tail, All-take}
use Rattle.std.proofs.lemmas.List.{length-append, take-append-drop}
use Rattle.faults.specs.Faults.{place_of}
use Rattle.faults.specs.declared.graph.GraphFault.{GraphFault}
use Rattle.faults.specs.declared.graph.GraphFault.TheVariants.{NoRouter, NoReflector, NotJoined}
use Rattle.faults.specs.declared.load.LoadFault.{LoadFault}
use Rattle.faults.specs.declared.load.LoadFault.TheVariants.{Graph}
use Rattle.faults.specs.declared.table.TableFault.{TableFault}
use Rattle.records.specs.Kinds.{kind_byte, body_length}
use Rattle.records.specs.Readings.{Reading, ended, found, refused, reading_at}
use Rattle.records.specs.declared.kind.Kind.{Kind}
use Rattle.layout.specs.Bodies.{adding}
use Rattle.layout.specs.Checks.{declaring}
use Rattle.layout.specs.Encoding.{encoded}
use Rattle.layout.specs.Graph.{whole}
use Rattle.layout.specs.Promise.{Broken, BreaksWhole}
use Rattle.layout.specs.Reading.{of_graph, of_table, of_record, read_from}
use Rattle.layout.specs.Rules.{latest}
use Rattle.layout.specs.Table.{Declared}
use Rattle.layout.specs.WellFormed.{Sound, WellFormed}
use Rattle.layout.proofs.Adding.{Good, added}
use Rattle.layout.proofs.KindBytes.{kind_is, Found, Read, read}
use Rattle.layout.proofs.Lengths.{router_place_is, encoded_near}
use Rattle.layout.proofs.Records.{Bytes}
use Rattle.layout.proofs.Verdicts.{refused_lowest, DeclaringTells, declaring_tells}
use Rattle.layout.proofs.Whole.{WholeTells, whole_tells}

module _ (bs : List ℕ) where
  -- what an answer says of the bytes
  abbrev pub Tells : Result Declared LoadFault → Type 0
  Tells (Ok u) = WellFormed u × (bs ≡ encoded u)
  Tells (Err fault) = Broken bs fault × (place_of fault ≤ 2272)

  -- where the reading stands: t has been read, and the rest is to come behind a body of `skip` bytes
  pub record Front (t : Declared) (before place skip : ℕ) (rest : List ℕ) : Type 0 where
    pub sound : Sound t
    pub follows : before ≡ latest t
    pub at_place : place ≡ length (encoded t)
    pub within : skip ≤ length rest
    pub bytes : Bytes rest
    pub split : bs ≡ encoded t ++ drop skip rest

  graph_near : (t : Declared) → Sound t → (fault : GraphFault) → BreaksWhole t fault → place_of (Graph fault) ≤ 2272
  graph_near t s NoRouter h = omega arith
  graph_near t s (NoReflector place) h = omega (arith, h.2, router_place_is t.routers h.1 (omega (arith, h.3.0.1.0)), h.3.0.1.0, s.few_routers)
  graph_near t s (NotJoined place) h = omega (arith, h.3, router_place_is t.routers h.2 (omega (arith, h.4.0.0)), h.4.0.0, s.few_routers)

  graph_told : (t : Declared) (s : Sound t) → bs ≡ encoded t → (r : Result Declared GraphFault) → WholeTells t s r → Tells (of_graph r)
  graph_told t s split (Ok u) h = (subst WellFormed (sym h.0) h.1, split ∙ ap encoded (sym h.0))
  graph_told t s split (Err fault) h = (record { table = t; sound = s; split = split; breaks = h }, graph_near t s fault h)

  drop_none : (skip : ℕ) → ◌≡◌ {A = List ℕ} (drop skip []) []
  drop_none zero = refl
  drop_none (suc skip) = refl

  -- reading on from a front tells
  abbrev Told : List ℕ → Type 0
  Told rest = (skip : ℕ) (t : Declared) (before place : ℕ) → Front t before place skip rest → Tells (read_from skip t before place rest)

  module _ (b : ℕ) (more : List ℕ) (on : Told more) (t : Declared) (before place : ℕ) (f : Front t before place zero (b ∷ more)) where
    near : place ≤ 2272
    near = omega (arith, encoded_near t f.sound, f.at_place)

    -- the front one record on
    pub front_on : (p : ℕ) (k : Kind) (body : List ℕ) → Found before place b more p k body → Good t k body → Front (adding t k body) (kind_byte k) (place + 1 + body_length k) (body_length k) more
    front_on p k body found_there good =
        let a = added t k body f.sound good in
        let rest : (kind_byte k ∷ body) ++ drop (body_length k) more ≡ b ∷ more = (λ i. sym (kind_is b k found_there.kind) i ∷ (ap (λ l. l ++ drop (body_length k) more) found_there.cut ∙ take-append-drop (body_length k) more) i) in
        record {
          sound = a.sound;
          follows = sym a.last;
          at_place = omega (arith, f.at_place, ap length a.bytes, length-append (encoded t) (kind_byte k ∷ body), good.long);
          within = found_there.whole;
          bytes = All-tail (λ x. x < 256) b more f.bytes;
          split = f.split ∙ ap (λ l. encoded t ++ l) (sym rest) ∙ sym (append_assoc (encoded t) (kind_byte k ∷ body) (drop (body_length k) more)) ∙ ap (λ l. l ++ drop (body_length k) more) (sym a.bytes);
        }

    declared_told : (p : ℕ) (k : Kind) (body : List ℕ) (there : Found before place b more p k body) (bytes : Bytes body) (r : Result Declared TableFault) → DeclaringTells t b more before place f.follows p k body there bytes r → Tells (of_table r (λ u. read_from (body_length k) u (kind_byte k) (place + 1 + body_length k) more))
    declared_told p k body there bytes (Ok u) h =
        subst (λ v. Tells (read_from (body_length k) v (kind_byte k) (place + 1 + body_length k) more)) (sym h.0) (on (body_length k) (adding t k body) (kind_byte k) (place + 1 + body_length k) (front_on p k body there h.1))
    declared_told p k body there bytes (Err fault) h = (
      record { before = t; kind = b; more = more; sound = f.sound; split = f.split; place = h.0 ∙ f.at_place; smallest = h.1 },
      omega (arith, h.0, near),
    )

    record_told : (r : Reading) → Read before place b more r → Tells (of_record r t (λ k u. read_from (body_length k) u (kind_byte k) (place + 1 + body_length k) more))
    record_told ended h = absurd h
    record_told (found p k body) h =
        let bytes : Bytes body = subst Bytes (sym h.cut) (All-take (λ x. x < 256) (body_length k) more (All-tail (λ x. x < 256) b more f.bytes)) in
        declared_told p k body h bytes (declaring t p k body) (declaring_tells t b more before place f.follows p k body h bytes)
    record_told (refused fault) h =
        let v = refused_lowest t b more before place f.follows fault h in (
          record { before = t; kind = b; more = more; sound = f.sound; split = f.split; place = v.0 ∙ f.at_place; smallest = v.1 },
          omega (arith, v.0, near),
        )

  pub told : (rest : List ℕ) → Told rest
  told [] skip t before place f = graph_told t f.sound (f.split ∙ ap (λ l. encoded t ++ l) (drop_none skip) ∙ append-nil (encoded t)) (whole t) (whole_tells t f.sound)
  told (b ∷ more) (suc skip) t before place f = told more skip t before place (record { sound = f.sound; follows = f.follows; at_place = f.at_place; within = omega (arith, f.within); bytes = All-tail (λ x. x < 256) b more f.bytes; split = f.split })
  told (b ∷ more) zero t before place f = record_told b more (told more) t before place f (reading_at before place (b ∷ more)) (read before place b more)
