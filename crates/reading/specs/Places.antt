-- Places in a row of cells, of which a carrier has a million at most.
use Rattle.std.specs.Prelude.{ℕ, ◌<◌, ◌≤◌, List, length}
use Rattle.carrier.specs.Cells.{Cell, Whole}

-- what holds of the cells of every carrier
pub record Carried (cs : List Cell) : Type 0 where
  pub few : length cs ≤ 1000000
  pub whole : Whole cs

-- k is the number of a cell
abbrev pub Within : List Cell → ℕ → Type 0
Within cs k = (k < length cs) × (k < 1000000)

-- k is no further than just behind the last cell
abbrev pub NotPast : List Cell → ℕ → Type 0
NotPast cs k = (k ≤ length cs) × (k ≤ 1000000)
