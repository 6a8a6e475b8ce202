-- What the reading of a table promises, of any bytes. Assumes nothing.
use Rattle.std.proofs.Common.{ℕ, List, [], refl, ap, ◌∙◌, subst, arith}
use Rattle.std.proofs.lemmas.List.Elements.{All-nil}
use Rattle.layout.specs.Promise.{Reads}
use Rattle.layout.specs.Reading.{table_in}
use Rattle.layout.specs.Table.{nothing}
use Rattle.layout.specs.WellFormed.{RouterFits, LinkFits, SessionFits, PathFits, Sound}
use Rattle.layout.proofs.Accepts.{table_accepted}
use Rattle.layout.proofs.Records.{Bytes}
use Rattle.layout.proofs.Tells.{Tells, told}

pub nothing_sound : Sound nothing
nothing_sound = record {
  few_routers = omega arith;
  few_links = omega arith;
  few_sessions = omega arith;
  few_paths = omega arith;
  routers_fit = All-nil RouterFits;
  links_fit = All-nil (LinkFits 0);
  links_apart = tt;
  sessions_fit = All-nil (SessionFits []);
  sessions_apart = tt;
  paths_fit = All-nil (PathFits 0);
}

pub reads : (bs : List ℕ) → Bytes bs → Reads bs (table_in bs)
reads bs bytes =
    let all : Tells bs (table_in bs) = told bs bs 0 nothing 0 0 (record { sound = nothing_sound; follows = refl; at_place = refl; within = omega arith; bytes = bytes; split = refl }) in
    record {
      accepted = λ t e. subst (Tells bs) e all;
      accepts = λ t w e. ap table_in e ∙ table_accepted t w;
      refused = λ fault e. (subst (Tells bs) e all).0;
      near = λ fault e. (subst (Tells bs) e all).1;
    }
