-- A carrier's meaning: a row of cells, and what the calls on it answer and leave.
use Rattle.std.specs.Prelude.{◌≡◌, ℕ, zero, suc, ◌<◌, List, [], ◌∷◌, length, Some, None, Ok, Err, Option, Result, slice_index, slice_set}
use Rattle.carrier.specs.declared.fault.CarrierFault.{CarrierFault}
use Rattle.carrier.specs.declared.fault.CarrierFault.TheVariants.{NoSuchCell, Damaged}

-- a cell holds a packet, or is damaged and names one byte place
pub data Cell : Type 0 where
  holds : List ℕ → Cell
  damaged : ℕ → Cell

-- a cell that holds a packet holds 36 bytes
abbrev pub Proper : Cell → Type 0
Proper (holds p) = (length p ≡ 36) × ((j : ℕ) → slice_index p j < 256)
Proper (damaged b) = Unit {0}

-- so does each of a row
abbrev pub Whole : List Cell → Type 0
Whole [] = Unit {0}
Whole (c ∷ cs) = Proper c × Whole cs

-- cell k of a row, if there is one
abbrev pub cell_at : List Cell → ℕ → Option Cell
cell_at [] k = None
cell_at (c ∷ cs) zero = Some c
cell_at (c ∷ cs) (suc k) = cell_at cs k

-- what GET and PUT of k answer where cell k is as told
abbrev pub reply : ℕ → Option Cell → Result (Unit {0}) CarrierFault
reply k None = Err (NoSuchCell k)
reply k (Some (holds p)) = Ok tt
reply k (Some (damaged b)) = Err (Damaged k b)

-- what GET leaves in the caller's bytes
abbrev pub filled : Option Cell → List ℕ → List ℕ
filled None old = old
filled (Some (holds p)) old = p
filled (Some (damaged b)) old = old

-- the row after PUT of p into cell k, where cell k is as told
abbrev pub put_at : Option Cell → List Cell → ℕ → List ℕ → List Cell
put_at None cs k p = cs
put_at (Some (holds q)) cs k p = slice_set cs k (holds p)
put_at (Some (damaged b)) cs k p = cs

-- the row after PUT of p into cell k
abbrev pub stored : List Cell → ℕ → List ℕ → List Cell
stored cs k p = put_at (cell_at cs k) cs k p

-- the refusal at the lowest damaged cell of a row whose first cell has number k
abbrev pub first_damage : ℕ → List Cell → Result (Unit {0}) CarrierFault
first_damage k [] = Ok tt
first_damage k (holds p ∷ cs) = first_damage (suc k) cs
first_damage k (damaged b ∷ cs) = Err (Damaged k b)
