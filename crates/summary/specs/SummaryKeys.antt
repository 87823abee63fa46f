-- The key of a summary's row.
use Rattle.std.specs.Prelude.{ℕ, Bool, cond, List, [], ◌∷◌, Some, Option}
use Rattle.record.specs.Rules.{within}
use Rattle.orbit.specs.Orbits.{Orbit}
use Rattle.summary.specs.Orders.{lexb}
use Rattle.summary.specs.declared.summary_key.SummaryKey.{SummaryKey}

-- receiving station, downlink band, data type, and of Doppler the channel
abbrev pub series_of : Orbit → SummaryKey
series_of x = record { receiver = x.items.receiver; downlink = x.items.downlink; kind = x.items.kind; channel = cond (within 11 13 x.items.kind) x.items.channel 0 }

abbrev pub summary_of : Orbit → Option SummaryKey
summary_of x = Some (series_of x)

abbrev pub ranks : SummaryKey → List ℕ
ranks k = k.receiver ∷ k.downlink ∷ k.kind ∷ k.channel ∷ []

abbrev pub summary_lt : SummaryKey → SummaryKey → Bool
summary_lt a b = lexb (ranks a) (ranks b)
