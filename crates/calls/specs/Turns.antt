-- What comes of a run of calls.
use Rattle.std.specs.Prelude.{ℕ, suc, Bool, true, false, cond, not, List, [], ◌∷◌, ◌++◌, length, take, drop, Some, Ok, Err}
use Rattle.selection.specs.Laws.{Keeping}
use Rattle.protocol.specs.Moves.{Move, begun, after_all, all_of}
use Rattle.protocol.specs.Network.{State}
use Rattle.protocol.specs.Settled.{stretch}
use Rattle.calls.specs.Calls.{Coming, coming, answered, reply, report_answer, report_bytes, at_rest}
use Rattle.calls.specs.declared.answer.Answer.{Answer}
use Rattle.calls.specs.declared.answer.Answer.TheVariants.{Done}
use Rattle.calls.specs.declared.call.Call.{Call}
use Rattle.calls.specs.declared.call.Call.TheVariants.{Act, Settle, Reopen, Ask, Report}
use Rattle.calls.specs.declared.report.Part.{Part}
use Rattle.calls.specs.declared.turn.Turn.{Turn}

-- where a run stands: the network, whether it was settled and not reopened, and the bytes that are lent to the run
pub record World : Type 0 where
  pub network : State
  pub settled : Bool
  pub bytes : List ℕ

-- a run begins with an empty network
abbrev pub beginning : List ℕ → World
beginning bytes = record { network = begun; settled = false; bytes = bytes }

-- the bytes of a part; past the end of the slice there is nothing of it
abbrev pub part_of : List ℕ → Part → List ℕ
part_of bytes part = take part.len (drop part.start bytes)

-- the slice with these bytes in the place of a part's
abbrev pub with_part : List ℕ → Part → List ℕ → List ℕ
with_part bytes part new = take part.start bytes ++ (new ++ drop part.len (drop part.start bytes))

-- what happens to the network by an action: nothing where it is refused
abbrev pub of_moves : Coming → List Move
of_moves (Ok m) = m ∷ []
of_moves (Err fault) = []

-- what happens to the network by a call; settling activates one router after another, seven times
abbrev pub moves_of : State → Call → List Move
moves_of s (Act a) = of_moves (coming s a)
moves_of s Settle = stretch (all_of (length s.table.routers) 7)
moves_of s Reopen = []
moves_of s (Ask q) = []
moves_of s (Report r part) = []

-- the bytes that a call leaves: a report goes into its part
abbrev pub bytes_after : World → Call → List ℕ
bytes_after w (Act a) = w.bytes
bytes_after w Settle = w.bytes
bytes_after w Reopen = w.bytes
bytes_after w (Ask q) = w.bytes
bytes_after w (Report r part) = with_part w.bytes part (report_bytes w.network r (part_of w.bytes part))

-- whether a call is offered: by a settled network, or by a running one where the first is false
abbrev pub offered : Bool → Call → Bool
offered settled (Act a) = not settled
offered settled Settle = not settled
offered settled Reopen = settled
offered settled (Ask q) = true
offered settled (Report r part) = settled

-- whether the network is settled and not reopened after the call
abbrev pub settled_after : Bool → Call → Bool
settled_after settled (Act a) = settled
settled_after settled Settle = true
settled_after settled Reopen = false
settled_after settled (Ask q) = settled
settled_after settled (Report r part) = settled

-- what a run of calls comes to: what it leaves in the turns, what happened to the network, how many calls were made, and where
-- it stands then
pub record Run : Type 0 where
  pub turns : List Turn
  pub moves : List Move
  pub made : ℕ
  pub world : World

module _ (kept : Keeping) where
  -- what a call answers
  abbrev pub answer_to : World → Call → Answer
  answer_to w (Act a) = answered (λ m. Done) (coming w.network a)
  answer_to w Settle = Done
  answer_to w Reopen = Done
  answer_to w (Ask q) = reply kept w.network q
  answer_to w (Report r part) = report_answer w.network r (length (part_of w.bytes part))

  -- where a call leaves the run
  abbrev pub next : World → Call → World
  next w call = record {
    network = after_all kept w.network (moves_of w.network call);
    settled = settled_after w.settled call;
    bytes = bytes_after w call;
  }

  -- what a call leaves in its turn
  abbrev pub turned : World → Turn → Turn
  turned w t = record {
    call = t.call;
    outcome =
        Some (record {
          answer = answer_to w t.call;
          advertised = (next w t.call).network.advertised;
          settled = at_rest kept (next w t.call).network;
        });
  }

  -- the calls are made in their order, as far as they are offered
  unfoldable pub run : World → List Turn → Run
  run w [] = record { turns = []; moves = []; made = 0; world = w }
  run w (t ∷ ts) =
      let rest = run (next w t.call) ts in
      cond (offered w.settled t.call)
      (record { turns = turned w t ∷ rest.turns; moves = moves_of w.network t.call ++ rest.moves; made = suc rest.made; world = rest.world })
      (record { turns = t ∷ ts; moves = []; made = 0; world = w })
