-- Reading on over one record. Assumes nothing.
use Rattle.std.proofs.Common.{◌≡◌, ℕ, zero, suc, ◌+◌, ◌≤◌, List, [], ◌∷◌, length, drop, Ok, Err, sym, refl, ap, ◌∙◌, subst, one-add, arith}
use Rattle.faults.specs.declared.load.LoadFault.TheVariants.{Table}
use Rattle.faults.specs.declared.table.TableFault.{TableFault}
use Rattle.records.specs.Kinds.{kind_byte, body_length}
use Rattle.records.specs.Readings.{ended, found, reading_at}
use Rattle.records.specs.declared.kind.Kind.{Kind}
use Rattle.layout.specs.Checks.{declaring}
use Rattle.layout.specs.Graph.{whole}
use Rattle.layout.specs.Reading.{of_graph, of_table, of_record, read_from}
use Rattle.layout.specs.Table.{Declared}
use Rattle.layout.proofs.KindBytes.{Found, Read, read}

-- the body of a record that was read is passed over
pub read_skip : (n : ℕ) (t : Declared) (before place : ℕ) (bs : List ℕ) → n ≤ length bs → read_from n t before place bs ≡ read_from zero t before place (drop n bs)
read_skip zero t before place bs h = refl
read_skip (suc n) t before place [] h = absurd (omega arith)
read_skip (suc n) t before place (b ∷ bs) h = read_skip n t before place bs (omega arith)

pub ended_not_found : (p : ℕ) (k : Kind) (body : List ℕ) → ended ≡ found p k body → ⊥
ended_not_found p k body e = let z : ◌≡◌ {A = ℕ} 0 1 = cc in omega arith

module _ (t : Declared) (before place : ℕ) where
  -- at the end the whole is checked
  pub read_ended : (rest : List ℕ) → reading_at before place rest ≡ ended → read_from zero t before place rest ≡ of_graph (whole t)
  read_ended [] e = refl
  read_ended (b ∷ more) e = ap (λ r. of_record r t (λ k u. read_from (body_length k) u (kind_byte k) (place + 1 + body_length k) more)) e

  module _ (p : ℕ) (k : Kind) (body : List ℕ) where
    pub read_fault : (rest : List ℕ) (fault : TableFault) → reading_at before place rest ≡ found p k body → declaring t p k body ≡ Err fault → read_from zero t before place rest ≡ Err (Table fault)
    read_fault [] fault e d = absurd (ended_not_found p k body e)
    read_fault (b ∷ more) fault e d =
        ap (λ r. of_record r t (λ k u. read_from (body_length k) u (kind_byte k) (place + 1 + body_length k) more)) e
        ∙ ap (λ r. of_table r (λ u. read_from (body_length k) u (kind_byte k) (place + 1 + body_length k) more)) d

    -- a record that breaks no rule is read on behind
    pub read_on : (rest : List ℕ) (u : Declared) → reading_at before place rest ≡ found p k body → declaring t p k body ≡ Ok u → read_from zero t before place rest ≡ read_from zero u (kind_byte k) (place + 1 + body_length k) (drop (1 + body_length k) rest)
    read_on [] u e d = absurd (ended_not_found p k body e)
    read_on (b ∷ more) u e d =
        let there : Found before place b more p k body = subst (Read before place b more) e (read before place b more) in
        ap (λ r. of_record r t (λ k u. read_from (body_length k) u (kind_byte k) (place + 1 + body_length k) more)) e
        ∙ ap (λ r. of_table r (λ u. read_from (body_length k) u (kind_byte k) (place + 1 + body_length k) more)) d
        ∙ read_skip (body_length k) u (kind_byte k) (place + 1 + body_length k) more there.whole
        ∙ ap (λ n. read_from zero u (kind_byte k) (place + 1 + body_length k) (drop n (b ∷ more))) (sym (one-add (body_length k)))
