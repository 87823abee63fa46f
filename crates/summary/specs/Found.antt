-- The orbit records in a row of cells.
use Rattle.std.specs.Prelude.{cond, List, [], ◌∷◌, Some, None, Option}
use Rattle.packet.specs.Packets.{words_of, header_like}
use Rattle.carrier.specs.Cells.{Cell, holds, damaged}
use Rattle.orbit.specs.Orbits.{Orbit}
use Rattle.orbit.specs.Orbits.{unpacked}

-- the record in a cell: none in a damaged one, in a header-like packet, and in one that is no lawful record's
abbrev pub orbit_in : Cell → Option Orbit
orbit_in (damaged b) = None
orbit_in (holds p) = cond (header_like p) None (unpacked (words_of p))

-- the same, where there may be no cell
abbrev pub orbit_at : Option Cell → Option Orbit
orbit_at None = None
orbit_at (Some c) = orbit_in c

abbrev pub before : Option Orbit → List Orbit → List Orbit
before None xs = xs
before (Some x) xs = x ∷ xs

-- the records of some cells, in order; other cells are passed over
unfoldable pub orbits_in : List Cell → List Orbit
orbits_in [] = []
orbits_in (c ∷ cs) = before (orbit_in c) (orbits_in cs)
