-- The header of a group of records.
use Rattle.std.specs.Prelude.{ℕ, zero, suc, true, List, [], ◌∷◌, ℤ, Ok, Err, Result, ◌==◌}
use Rattle.std.specs.Int.{w32}
use Rattle.std.proofs.Common.{to_z, of_z}
use Rattle.packet.specs.Packets.{word, bytes_of}
use Rattle.record.specs.Rules.{lowest, within}
use Rattle.record.specs.declared.fault.RecordFault.{RecordFault}
use Rattle.record.specs.declared.fault.RecordFault.TheVariants.{BadItem}
use Rattle.label.specs.declared.header.Header.{Header}

-- the key is two's complement
unfoldable pub header_words : Header → List ℕ
header_words h = of_z w32 h.key ∷ h.secondary ∷ h.length ∷ h.packet ∷ 0 ∷ 0 ∷ 0 ∷ 0 ∷ 0 ∷ []

-- the header in the first four words of a packet
unfoldable pub header_of : List ℕ → Header
header_of p = record { key = to_z w32 (word p 1); secondary = word p 2; length = word p 3; packet = word p 4 }

-- the lowest of words 7, 8 and 9 that is not zero; 0 where each is
unfoldable pub bad_spare : List ℕ → ℕ
bad_spare p = lowest 7 ((word p 7 == 0) ∷ (word p 8 == 0) ∷ (word p 9 == 0) ∷ [])

-- the lowest wrong item of a header that has number k: its secondary key from least to most, its length, its number, and zeros
unfoldable pub bad_header : (least most len k : ℕ) → List ℕ → ℕ
bad_header least most len k p = lowest 2 (within least most (word p 2) ∷ (word p 3 == len) ∷ (word p 4 == k) ∷ true ∷ true ∷ (word p 7 == 0) ∷ (word p 8 == 0) ∷ (word p 9 == 0) ∷ [])

-- the secondary key of header k, whose lowest wrong item is told, or the refusal
abbrev pub headed_by : (bad k secondary : ℕ) → Result ℕ RecordFault
headed_by zero k s = Ok s
headed_by (suc i) k s = Err (BadItem k (suc i))

abbrev pub headed : (least most len k : ℕ) → List ℕ → Result ℕ RecordFault
headed least most len k p = headed_by (bad_header least most len k p) k (word p 2)

-- the packet of a header: its key, secondary key, length and number
abbrev pub header_packet : ℤ → ℕ → ℕ → ℕ → List ℕ
header_packet key s len k = bytes_of (header_words (record { key = key; secondary = s; length = len; packet = k }))
