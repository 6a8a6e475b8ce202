use Rattle.std.proofs.Common.{◌≡◌, ◌*◌, ◌≤◌}
use Rattle.arrayvec.specs.ArrayString.{array_string_len}
use Rattle.distances.specs.Answered.{declared_by}
use Rattle.listing.specs.Listing.{lines_of}
use Rattle.listing.proofs.lines.write_lines.Given as goal

-- the routers before this one have their lines
abbrev pub invariant-loop-router : goal.invariant-loop-router
invariant-loop-router l = record {
  lines : l.list.bytes ≡ lines_of (declared_by l.distances) l.advertised l.router;
  short : array_string_len l.list ≤ 16 * l.router;
}
