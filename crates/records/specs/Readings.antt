-- What stands next in a run of records. Assumes nothing.
use Rattle.std.specs.Prelude.{ℕ, ◌+◌, cond, List, [], ◌∷◌, length, take, drop, Some, None, Ok, Err, Option, Result, nat_lt}
use Rattle.records.specs.Kinds.{kind_byte, byte_before, body_length, kind_of}
use Rattle.faults.specs.declared.record.RecordFault.{RecordFault}
use Rattle.faults.specs.declared.record.RecordFault.TheVariants.{UnknownKind, CutShort, KindFalls}
use Rattle.records.specs.declared.kind.Kind.{Kind}
use Rattle.records.specs.declared.kind.Kind.TheVariants.{Router as router_kind, Link as link_kind, Session as session_kind, Path as path_kind}
use Rattle.records.specs.declared.reader.Reader.{Reader}
use Rattle.records.specs.declared.record.Record.{Record}
use Rattle.records.specs.declared.record.Record.TheVariants.{Router, Link, Session, Path}
use Rattle.records.specs.declared.record.Placed.{Placed}

-- the bytes are at an end, a record stands there, or its bytes break a rule of the record layer
pub data Reading : Type 0 where
  ended : Reading
  found : ℕ → Kind → List ℕ → Reading
  refused : RecordFault → Reading

-- a record of a known kind, at a place: it must be whole, and its kind not lower than the one before
abbrev pub reading_kind : ℕ → ℕ → List ℕ → Option Kind → Reading
reading_kind before place more None = refused (UnknownKind place)
reading_kind before place more (Some k) =
    cond (nat_lt (length more) (body_length k)) (refused (CutShort place))
    (cond (nat_lt (kind_byte k) before) (refused (KindFalls place))
    (found place k (take (body_length k) more)))

-- what stands next, from the kind byte before (0 before the first record), the place, and the bytes from that place on
abbrev pub reading_at : ℕ → ℕ → List ℕ → Reading
reading_at before place [] = ended
reading_at before place (b ∷ more) = reading_kind before place more (kind_of b)

-- where a reader stands: the kind byte before, the place, and the bytes from that place on
pub record Standing : Type 0 where
  pub before : ℕ
  pub place : ℕ
  pub rest : List ℕ

abbrev pub reading : Standing → Reading
reading s = reading_at s.before s.place s.rest

-- where it stands afterwards: behind the record that it found, and otherwise where it was
abbrev pub passing : Standing → Reading → Standing
passing s ended = s
passing s (found place k body) = record { before = kind_byte k; place = place + 1 + body_length k; rest = drop (1 + body_length k) s.rest }
passing s (refused fault) = s

abbrev pub standing : Reader → Standing
standing r = record { before = byte_before r.before; place = r.place; rest = drop r.place r.bytes.now }

-- a record as it is handed out
abbrev pub kind_in : Record → Kind
kind_in (Router body) = router_kind
kind_in (Link body) = link_kind
kind_in (Session body) = session_kind
kind_in (Path body) = path_kind

abbrev pub body_in : Record → List ℕ
body_in (Router body) = body.now
body_in (Link body) = body.now
body_in (Session body) = body.now
body_in (Path body) = body.now

-- what a reader answered
abbrev pub answered : Result (Option Placed) RecordFault → Reading
answered (Ok None) = ended
answered (Ok (Some r)) = found r.place (kind_in r.record) (body_in r.record)
answered (Err fault) = refused fault
