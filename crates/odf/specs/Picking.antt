-- What PICK answers at a cell.
use Rattle.std.specs.Prelude.{ℕ, cond, List, Some, None, Option}
use Rattle.packet.specs.Packets.{words_of, header_like}
use Rattle.carrier.specs.Cells.{Cell, holds, damaged}
use Rattle.carrier.specs.declared.fault.CarrierFault.TheVariants.{NoSuchCell, Damaged}
use Rattle.record.specs.declared.fault.RecordFault.TheVariants.{InCarrier, BadItem}
use Rattle.odf.specs.declared.fault.FileFault.{FileFault}
use Rattle.odf.specs.declared.fault.FileFault.TheVariants.{InRecord, Misplaced}

-- the fault at cell k where it holds no record of a kind, whose lowest bad item in nine words `bad` tells: no such cell,
-- a damaged one, a header-like packet, or an item that breaks its rule
abbrev pub pick_fault : (List ℕ → ℕ) → ℕ → Option Cell → FileFault
pick_fault bad k None = InRecord (InCarrier (NoSuchCell k))
pick_fault bad k (Some (damaged b)) = InRecord (InCarrier (Damaged k b))
pick_fault bad k (Some (holds p)) = cond (header_like p) (Misplaced k) (InRecord (BadItem k (bad (words_of p))))
