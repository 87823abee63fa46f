-- The packet of a summary's row.
use Rattle.std.specs.Prelude.{ℕ, ◌/◌, ◌%◌, ◌^◌, List, [], ◌∷◌}
use Rattle.packet.specs.Packets.{bytes_of}
use Rattle.summary.specs.declared.summary_key.SummaryKey.{SummaryKey}
use Rattle.summary.specs.declared.table.Row.{Row}

-- first time, receiving station, channel, downlink band, data type, count, last time; of a time the seconds, in 32 bits,
-- and then the billionths
abbrev pub row_words : Row SummaryKey → List ℕ
row_words r =
    r.first / 1000000000 % 2 ^ 32
    ∷ r.first % 1000000000
    ∷ r.key.receiver
    ∷ r.key.channel
    ∷ r.key.downlink
    ∷ r.key.kind
    ∷ r.count
    ∷ r.last / 1000000000 % 2 ^ 32
    ∷ r.last % 1000000000
    ∷ []

abbrev pub row_packet : Row SummaryKey → List ℕ
row_packet r = bytes_of (row_words r)
