-- The list of a network in text: which path every router takes.
use Rattle.std.specs.Prelude.{ℕ, zero, suc, cond, List, [], ◌++◌, length, drop, Some, None, Ok, Err, Option, Result, bit_or, codes, decimal, nat_le}
use Rattle.costs.specs.Cost.{plain}
use Rattle.faults.specs.declared.call.CallFault.{CallFault}
use Rattle.faults.specs.declared.call.CallFault.TheVariants.{ShortBuffer}
use Rattle.forwarding.specs.Answers.{of_set, unless_refused}
use Rattle.layout.specs.Table.{Declared}
use Rattle.packets.specs.Best.{best, metric}
use Rattle.protocol.specs.Network.{set_of}

-- all paths that the first n routers advertise
unfoldable pub named_by : List ℕ → ℕ → ℕ
named_by advertised zero = 0
named_by advertised (suc n) = bit_or (named_by advertised n) (set_of advertised n)

module _ (t : Declared) where
  -- P and a path's number, and its metric at router v; hyphens where there is no path
  abbrev pub choice_text : ℕ → Option ℕ → List ℕ
  choice_text v None = codes "- -"
  choice_text v (Some p) = codes "P" ++ decimal p ++ codes " " ++ decimal (metric plain t v p)

  -- R and the number of router v, and its best path of a set
  abbrev pub line_of : ℕ → ℕ → List ℕ
  line_of v s = codes "R" ++ decimal v ++ codes " " ++ choice_text v (best plain t s v) ++ codes "\n"

  -- where each router picks its best path of the set that it advertises
  module _ (advertised : List ℕ) where
    -- the lines of the first n routers
    unfoldable pub lines_of : ℕ → List ℕ
    lines_of zero = []
    lines_of (suc n) = lines_of n ++ line_of n (set_of advertised n)

    -- a line for each router, in the order of their numbers
    abbrev pub listing : List ℕ
    listing = lines_of (length t.routers)

    -- how many bytes were written, where a buffer has so many
    abbrev pub list_at : ℕ → Result ℕ CallFault
    list_at room = cond (nat_le 512 room) (Ok (length listing)) (Err (ShortBuffer 512))

    -- the buffer afterwards
    abbrev pub list_bytes : List ℕ → List ℕ
    list_bytes before = cond (nat_le 512 (length before)) (listing ++ drop (length listing) before) before

    -- the same, refused at the lowest path that a router advertises and that is not declared
    abbrev pub list_answer : ℕ → Result ℕ CallFault
    list_answer room = of_set t (named_by advertised (length t.routers)) (list_at room)

    abbrev pub list_written : List ℕ → List ℕ
    list_written before = unless_refused (list_answer (length before)) before (list_bytes before)
