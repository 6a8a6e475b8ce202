-- The reading of a table, one record after another. Assumes nothing.
use Rattle.std.proofs.Common.{◌≡◌, ℕ, ◌+◌, ◌<◌, List, [], ◌∷◌, drop, Ok, Err, sym, refl, ap, ◌∙◌, subst, one-add, arith}
use Rattle.std.proofs.lemmas.List.Elements.{All-drop, All-tail, All-take}
use Rattle.faults.specs.declared.load.LoadFault.TheVariants.{Table}
use Rattle.faults.specs.declared.table.TableFault.{TableFault}
use Rattle.records.specs.Kinds.{kind_byte, body_length}
use Rattle.records.specs.Readings.{ended, found, reading_at, Standing, reading, passing}
use Rattle.records.specs.declared.kind.Kind.{Kind}
use Rattle.layout.specs.Bodies.{adding}
use Rattle.layout.specs.Checks.{declaring}
use Rattle.layout.specs.Graph.{whole}
use Rattle.layout.specs.Reading.{of_graph, read_from, table_in}
use Rattle.layout.specs.Table.{Declared, nothing}
use Rattle.layout.proofs.KindBytes.{Found, Read, read}
use Rattle.layout.proofs.Promised.{nothing_sound}
use Rattle.layout.proofs.Records.{Bytes}
use Rattle.layout.proofs.Steps.{read_ended, read_fault, read_on, ended_not_found}
use Rattle.layout.proofs.Tells.{Front, front_on, told}
use Rattle.layout.proofs.Verdicts.{DeclaringTells, declaring_tells}

-- t has been read, and what is left tells the same as all
pub record Progress (bs : List ℕ) (t : Declared) (s : Standing) : Type 0 where
  pub front : Front bs t s.before s.place 0 s.rest
  pub same : read_from 0 t s.before s.place s.rest ≡ table_in bs

pub begun : (bs : List ℕ) → Bytes bs → Progress bs nothing (record { before = 0; place = 0; rest = bs })
begun bs bytes = record {
  front = record { sound = nothing_sound; follows = refl; at_place = refl; within = omega arith; bytes = bytes; split = refl };
  same = refl;
}

found_in : (before place : ℕ) (rest : List ℕ) (p : ℕ) (k : Kind) (body : List ℕ) → reading_at before place rest ≡ found p k body → (b : ℕ) × (more : List ℕ) × (rest ≡ b ∷ more) × Found before place b more p k body
found_in before place [] p k body e = absurd (ended_not_found p k body e)
found_in before place (b ∷ more) p k body e = (b, more, refl, subst (Read before place b more) e (read before place b more))

module _ (bs : List ℕ) (t : Declared) (s : Standing) (h : Progress bs t s) where
  pub ends : ended ≡ reading s → of_graph (whole t) ≡ table_in bs
  ends e = sym (read_ended t s.before s.place s.rest (sym e)) ∙ h.same

  module _ (p : ℕ) (k : Kind) (body : List ℕ) (there : found p k body ≡ reading s) where
    pub breaks : (fault : TableFault) → Err fault ≡ declaring t p k body → Err (Table fault) ≡ table_in bs
    breaks fault e = sym (read_fault t s.before s.place p k body s.rest fault (sym there) (sym e)) ∙ h.same

    at_place : s.place ≡ p
    at_place = sym (found_in s.before s.place s.rest p k body (sym there)).3.at_place

    -- over the first byte and the body
    front_behind : (b : ℕ) (more : List ℕ) → Front bs t s.before s.place 0 (b ∷ more) → Found s.before s.place b more p k body → (u : Declared) → Ok u ≡ declaring t p k body → Front bs u (kind_byte k) (s.place + 1 + body_length k) 0 (drop (1 + body_length k) (b ∷ more))
    front_behind b more f at u e =
        let bytes : Bytes body = subst Bytes (sym at.cut) (All-take (λ x. x < 256) (body_length k) more (All-tail (λ x. x < 256) b more f.bytes)) in
        let tells : DeclaringTells t b more s.before s.place f.follows p k body at bytes (Ok u) = subst (DeclaringTells t b more s.before s.place f.follows p k body at bytes) (sym e) (declaring_tells t b more s.before s.place f.follows p k body at bytes) in
        let next = front_on bs b more (told bs more) t s.before s.place f p k body at tells.1 in
        let here : Front bs (adding t k body) (kind_byte k) (s.place + 1 + body_length k) 0 (drop (body_length k) more) = record { sound = next.sound; follows = next.follows; at_place = next.at_place; within = omega arith; bytes = All-drop (λ x. x < 256) (body_length k) more (All-tail (λ x. x < 256) b more f.bytes); split = next.split } in
        subst (λ n. Front bs u (kind_byte k) (s.place + 1 + body_length k) 0 (drop n (b ∷ more))) (sym (one-add (body_length k)))
        (subst (λ v. Front bs v (kind_byte k) (s.place + 1 + body_length k) 0 (drop (body_length k) more)) (sym tells.0) here)

    pub goes_on : (u : Declared) → Ok u ≡ declaring t p k body → Progress bs u (passing s (found p k body))
    goes_on u e =
        let f = found_in s.before s.place s.rest p k body (sym there) in
        let next : Front bs u (kind_byte k) (s.place + 1 + body_length k) 0 (drop (1 + body_length k) s.rest) =
        subst (λ rest. Front bs u (kind_byte k) (s.place + 1 + body_length k) 0 (drop (1 + body_length k) rest)) (sym f.2) (front_behind f.0 f.1 (subst (Front bs t s.before s.place 0) f.2 h.front) f.3 u e) in
        let on = sym (read_on t s.before s.place p k body s.rest u (sym there) (sym e)) ∙ h.same in
        record {
          front = subst (λ q. Front bs u (kind_byte k) (q + 1 + body_length k) 0 (drop (1 + body_length k) s.rest)) at_place next;
          same = ap (λ q. read_from 0 u (kind_byte k) (q + 1 + body_length k) (drop (1 + body_length k) s.rest)) (sym at_place) ∙ on;
        }
