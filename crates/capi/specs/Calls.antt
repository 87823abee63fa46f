-- What a call of a C program answers and leaves.
use Rattle.std.specs.Prelude.{◌≡◌, ℕ, List, Some, Ok, Err, Option, Result, MatchResult, ◌≢◌}
use Rattle.packet.specs.Packets.{bytes_of}
use Rattle.carrier.specs.Cells.{Cell, holds, cell_at}
use Rattle.carrier.specs.declared.fault.Refusal.{Refusal}
use Rattle.makes.specs.Shapes.{cells_of, disk}
use Rattle.odf.specs.Picking.{pick_fault}
use Rattle.odf.specs.Refusals.{number, layer, packet, item, byte}
use Rattle.odf.specs.declared.fault.FileFault.{FileFault}
use Rattle.capi.specs.declared.numbers.OdfFault.{OdfFault}

-- what a refusal tells, as plain numbers
abbrev pub plain_refusal : Refusal → OdfFault
plain_refusal e = record { number = e.number; layer = e.layer; packet = e.packet; item = e.item; byte = e.byte }

-- a fault as plain numbers
abbrev pub told : FileFault → OdfFault
told e = record { number = number e; layer = layer e; packet = packet e; item = item e; byte = byte e }

-- the result of a call: 0 where it is accepted, else the number of its fault
abbrev pub call_result : {A : Type 0} → Result A FileFault → ℕ
call_result (Ok x) = 0
call_result (Err e) = number e

-- what the caller's record holds after it: where it is refused, what it held
abbrev pub filled : {A N : Type 0} → (A → N) → N → Result A FileFault → N
filled plain old (Ok x) = plain x
filled plain old (Err e) = old

-- what the caller's fault holds after it: where it is accepted, what it held
abbrev pub faulted : {A : Type 0} → OdfFault → Result A FileFault → OdfFault
faulted old (Ok x) = old
faulted old (Err e) = told e

-- the result, and the caller's record and fault before and after, are those of one answer, which has property P
abbrev pub Leaves : {A N : Type 0} → (A → N) → (Result A FileFault → Type 0) → ℕ → N → N → OdfFault → OdfFault → Type 0
Leaves {A} plain P r old new was now' = (a : Result A FileFault) × P a × (r ≡ call_result a) × (new ≡ filled plain old a) × (now' ≡ faulted was a)

-- cell k of a disk image
abbrev pub disk_cell : List ℕ → ℕ → Option Cell
disk_cell m k = cell_at (cells_of disk m) k

-- the answer is what this cell, with number k, has of a kind of record: the record whose packet it holds; where it holds none, why
abbrev pub Picked : {A : Type 0} → (A → List ℕ) → (List ℕ → ℕ) → ℕ → Option Cell → Result A FileFault → Type 0
Picked {A} packed bad k cell a = MatchResult a (λ x. cell ≡ Some (holds (bytes_of (packed x)))) (λ e. (e ≡ pick_fault bad k cell) × ((x : A) → cell ≢ Some (holds (bytes_of (packed x)))))

-- the same where the record after the call stands in a relation to what was found
abbrev pub LeavesBy : {A N : Type 0} → (A → N → Type 0) → (Result A FileFault → Type 0) → ℕ → N → N → OdfFault → OdfFault → Type 0
LeavesBy {A} gives P r old new was now' = (a : Result A FileFault) × P a × (r ≡ call_result a) × MatchResult a (λ x. gives x new) (λ _. new ≡ old) × (now' ≡ faulted was a)
