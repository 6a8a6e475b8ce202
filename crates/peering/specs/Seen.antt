-- How clauses see a peering: by its distances.
use Rattle.distances.specs.declared.distances.Distances.{Distances}
use Rattle.peering.specs.declared.peering.Peering.{Peering}

abbrev pub its_distances : Peering → Distances
its_distances p = p.distances
