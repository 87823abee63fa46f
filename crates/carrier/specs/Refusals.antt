-- What a fault tells: its number, layer, packet, item and byte; what does not apply is 0.
use Rattle.std.specs.Prelude.{ℕ}
use Rattle.carrier.specs.declared.fault.CarrierFault.{CarrierFault}
use Rattle.carrier.specs.declared.fault.CarrierFault.TheVariants.{NoSuchCell, Damaged}
use Rattle.carrier.specs.declared.fault.Refusal.{Refusal}

abbrev pub number : CarrierFault → ℕ
number (NoSuchCell k) = 11
number (Damaged k b) = 12

abbrev pub layer : CarrierFault → ℕ
layer e = 1

-- the cell that was asked for
abbrev pub packet : CarrierFault → ℕ
packet (NoSuchCell k) = k
packet (Damaged k b) = k

abbrev pub item : CarrierFault → ℕ
item e = 0

abbrev pub byte : CarrierFault → ℕ
byte (NoSuchCell k) = 0
byte (Damaged k b) = b

abbrev pub refusal_of : CarrierFault → Refusal
refusal_of e = record { number = number e; layer = layer e; packet = packet e; item = item e; byte = byte e }
