-- What a conversion from one make to another answers and leaves.
use Rattle.std.specs.Prelude.{◌≡◌, ℕ, ◌-◌, ◌<◌, ◌≤◌, cond, List, ◌++◌, length, replicate, Ok, Err, Result, nat_lt, slice_index}
use Rattle.packet.specs.Packets.{filler}
use Rattle.carrier.specs.Cells.{Cell, holds, first_damage}
use Rattle.carrier.specs.declared.fault.CarrierFault.{CarrierFault}
use Rattle.carrier.specs.declared.fault.CarrierFault.TheVariants.{NoSuchCell}
use Rattle.makes.specs.Shapes.{Shape, Apart, count_for, cells_of}

-- the answer for n packets, all of them sound, and room for a number of cells: the first packet without a cell is refused
abbrev pub placed : ℕ → ℕ → Result (Unit {0}) CarrierFault → Result ℕ CarrierFault
placed n room (Err e) = Err e
placed n room (Ok u) = cond (nat_lt room n) (Err (NoSuchCell room)) (Ok n)

-- the answer: the lowest damaged cell of the source is refused, then a target with too few cells
abbrev pub answer : List Cell → List Cell → Result ℕ CarrierFault
answer us vs = placed (length us) (length vs) (first_damage 0 us)

-- the memory t of make g, cleared and then filled from cell 0 on with the cells us, is u; every byte that is neither in a
-- cell nor fixed in the block of one is as before
pub record Refilled (g : Shape) (us : List Cell) (t u : List ℕ) : Type 0 where
  pub cells : cells_of g u ≡ us ++ replicate (length (cells_of g t) - length us) (holds filler)
  pub others : (j : ℕ) → ((k : ℕ) → k < length (cells_of g t) → Apart g k j) → slice_index u j ≡ slice_index t j

-- n is the length of the smallest memory of make g that has a number of cells
pub record Smallest (g : Shape) (cells n : ℕ) : Type 0 where
  pub enough : cells ≤ count_for g n
  pub least : (l : ℕ) → cells ≤ count_for g l → n ≤ l
