-- What a file's fault tells; a record's fault inside it tells its own.
use Rattle.std.specs.Prelude.{ℕ}
use Rattle.carrier.specs.declared.fault.Refusal.{Refusal}
use Rattle.record.specs.Refusals as inner
use Rattle.odf.specs.declared.fault.FileFault.{FileFault}
use Rattle.odf.specs.declared.fault.FileFault.TheVariants.{InRecord, Misplaced, Ended, OutOfOrder, WrongRow, NotFiller, TooFewRows}

abbrev pub number : FileFault → ℕ
number (InRecord e) = inner.number e
number (Misplaced k) = 21
number (Ended k) = 23
number (OutOfOrder k) = 24
number (WrongRow k) = 25
number (NotFiller k) = 26
number TooFewRows = 35

abbrev pub layer : FileFault → ℕ
layer (InRecord e) = inner.layer e
layer (Misplaced k) = 3
layer (Ended k) = 3
layer (OutOfOrder k) = 3
layer (WrongRow k) = 3
layer (NotFiller k) = 3
layer TooFewRows = 3

abbrev pub packet : FileFault → ℕ
packet (InRecord e) = inner.packet e
packet (Misplaced k) = k
packet (Ended k) = k
packet (OutOfOrder k) = k
packet (WrongRow k) = k
packet (NotFiller k) = k
packet TooFewRows = 0

-- told by a record's fault alone
abbrev pub item : FileFault → ℕ
item (InRecord e) = inner.item e
item (Misplaced k) = 0
item (Ended k) = 0
item (OutOfOrder k) = 0
item (WrongRow k) = 0
item (NotFiller k) = 0
item TooFewRows = 0

-- told by a record's fault alone
abbrev pub byte : FileFault → ℕ
byte (InRecord e) = inner.byte e
byte (Misplaced k) = 0
byte (Ended k) = 0
byte (OutOfOrder k) = 0
byte (WrongRow k) = 0
byte (NotFiller k) = 0
byte TooFewRows = 0

abbrev pub refusal_of : FileFault → Refusal
refusal_of e = record { number = number e; layer = layer e; packet = packet e; item = item e; byte = byte e }
