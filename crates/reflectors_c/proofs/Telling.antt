-- What a host may rest on follows from what its answer keeps. Assumes nothing.
use Rattle.std.proofs.Common.{◌≡◌, ◌+◌, ◌*◌, ◌/◌, ◌%◌, ℕ, ◌<◌, ◌≤◌, true, List, length, Ok, Err, Result, inl, sym, refl, ap, ◌∙◌, subst, arith}
use Rattle.std.specs.Prelude.{⊤, ◌⊎◌}
use Rattle.faults.specs.Faults.{call_number_of, call_place_of}
use Rattle.faults.specs.declared.call.CallFault.{CallFault}
use Rattle.faults.specs.declared.call.CallFault.TheVariants.{Load, UndeclaredPath, UndeclaredRouter, NoRouterNamed, AlreadyInjected, NotInjected, ShortBuffer}
use Rattle.faults.specs.declared.load.LoadFault.{LoadFault}
use Rattle.layout.specs.Table.{Declared}
use Rattle.selection.specs.Laws.{AllDeclared}
use Rattle.sets.specs.Members.{member}
use Rattle.direct.specs.Tells.{IsOnlyTable, DirectTells}
use Rattle.direct.proofs.Telling.{direct_tells, load_number}
use Rattle.reflectors_c.specs.Coded.{HostAnswer, number_in, place_in}
use Rattle.reflectors_c.specs.Tells.{HostTells}

-- what a fault's number tells
record Telling (fault : CallFault) : Type 0 where
  pub some : 1 ≤ call_number_of fault
  pub load : call_number_of fault ≤ 10 → (of_load : LoadFault) × (fault ≡ Load of_load)
  pub path : call_number_of fault ≡ 11 → fault ≡ UndeclaredPath (call_place_of fault)
  pub buffer : call_number_of fault ≡ 16 → fault ≡ ShortBuffer (call_place_of fault)

telling_of : (fault : CallFault) → Telling fault
telling_of (Load f) = record { some = (load_number f).0; load = λ few. (f, refl); path = λ is. absurd (omega (arith, load_number f, is)); buffer = λ is. absurd (omega (arith, load_number f, is)) }
telling_of (UndeclaredPath p) = record { some = omega arith; load = λ few. absurd (omega (arith, few)); path = λ is. refl; buffer = λ is. absurd (omega (arith, is)) }
telling_of (UndeclaredRouter v) = record { some = omega arith; load = λ few. absurd (omega (arith, few)); path = λ is. absurd (omega (arith, is)); buffer = λ is. absurd (omega (arith, is)) }
telling_of NoRouterNamed = record { some = omega arith; load = λ few. absurd (omega (arith, few)); path = λ is. absurd (omega (arith, is)); buffer = λ is. absurd (omega (arith, is)) }
telling_of (AlreadyInjected p) = record { some = omega arith; load = λ few. absurd (omega (arith, few)); path = λ is. absurd (omega (arith, is)); buffer = λ is. absurd (omega (arith, is)) }
telling_of (NotInjected p) = record { some = omega arith; load = λ few. absurd (omega (arith, few)); path = λ is. absurd (omega (arith, is)); buffer = λ is. absurd (omega (arith, is)) }
telling_of (ShortBuffer n) = record { some = omega arith; load = λ few. absurd (omega (arith, few)); path = λ is. absurd (omega (arith, is)); buffer = λ is. refl }

module _ (bs : List ℕ) (injected : ℕ) (before after : List ℕ) (answer : ℕ) where
  -- where the answer has the number and the place of a fault
  module _ (fault : CallFault) (number : answer % 256 ≡ call_number_of fault) (place : answer / 256 ≡ call_place_of fault) (near : answer / 256 ≤ 2272) (tells : DirectTells bs injected before after (Err fault)) where
    split : answer ≡ call_number_of fault + 256 * call_place_of fault
    split = omega (arith, number, place)

    by_fault : Telling fault → HostTells bs injected before after answer
    by_fault telling = record {
      in_order = λ t is all room. let said = tells.in_order t is all room in cc;
      accepted = λ zero. absurd (omega (arith, number, telling.some, zero));
      done = λ zero. absurd (omega (arith, number, telling.some, zero));
      leaves = λ refused. tells.leaves;
      number = subst (λ n. (n ≤ 11) ⊎ (n ≡ 16)) (sym number) tells.numbers;
      place = near;
      table = λ refused few.
          let load = telling.load (omega (arith, number, few)) in (
            load.0,
            tells.table load.0 (ap Err load.1),
            split ∙ ap (λ (x : CallFault). call_number_of x + 256 * call_place_of x) load.1,
          );
      path = λ is.
          let said = tells.path (call_place_of fault) (ap Err (telling.path (sym number ∙ is))) in
          subst
          (λ p.
          (t : Declared) × IsOnlyTable bs t × (member injected p ≡ true) × (length t.paths ≤ p)
          × ((q : ℕ) → q < p → member injected q ≡ true → q < length t.paths))
          (sym place) said;
      buffer = λ is.
          let said = tells.buffer (call_place_of fault) (ap Err (telling.buffer (sym number ∙ is))) in
          subst (λ n. (t : Declared) × IsOnlyTable bs t × AllDeclared t.paths injected × (length before < 32) × (n ≡ 32)) (sym place) said;
    }

  by_meaning : (r : Result ⊤ CallFault) → answer % 256 ≡ number_in r → answer / 256 ≡ place_in r → answer / 256 ≤ 2272 → DirectTells bs injected before after r → HostTells bs injected before after answer
  by_meaning (Ok done) number place near tells = record {
    in_order = λ t is all room. omega (arith, number, place);
    accepted = λ zero. tells.accepted refl;
    done = λ zero. omega (arith, number, place);
    leaves = λ refused. absurd (refused number);
    number = inl (omega (arith, number));
    place = near;
    table = λ refused few. absurd (refused number);
    path = λ is. absurd (omega (arith, number, is));
    buffer = λ is. absurd (omega (arith, number, is));
  }
  by_meaning (Err fault) number place near tells = by_fault fault number place near tells (telling_of fault)

  pub host_tells : HostAnswer bs injected before after answer → HostTells bs injected before after answer
  host_tells host = by_meaning host.meant host.number host.place host.near (direct_tells bs injected before after host.meant host.promise)
