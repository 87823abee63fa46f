-- What a record's fault tells; a carrier's fault inside it tells its own.
use Rattle.std.specs.Prelude.{ℕ}
use Rattle.carrier.specs.Refusals as carrier
use Rattle.carrier.specs.declared.fault.Refusal.{Refusal}
use Rattle.record.specs.declared.fault.RecordFault.{RecordFault}
use Rattle.record.specs.declared.fault.RecordFault.TheVariants.{InCarrier, BadItem, Forbidden}

abbrev pub number : RecordFault → ℕ
number (InCarrier e) = carrier.number e
number (BadItem k i) = 22
number (Forbidden i) = 31

abbrev pub layer : RecordFault → ℕ
layer (InCarrier e) = carrier.layer e
layer (BadItem k i) = 2
layer (Forbidden i) = 2

-- a caller's fault has packet 0
abbrev pub packet : RecordFault → ℕ
packet (InCarrier e) = carrier.packet e
packet (BadItem k i) = k
packet (Forbidden i) = 0

abbrev pub item : RecordFault → ℕ
item (InCarrier e) = carrier.item e
item (BadItem k i) = i
item (Forbidden i) = i

abbrev pub byte : RecordFault → ℕ
byte (InCarrier e) = carrier.byte e
byte (BadItem k i) = 0
byte (Forbidden i) = 0

abbrev pub refusal_of : RecordFault → Refusal
refusal_of e = record { number = number e; layer = layer e; packet = packet e; item = item e; byte = byte e }
