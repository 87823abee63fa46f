-- The rules of a ramp record, and its nine words.
use Rattle.std.specs.Prelude.{ℕ, ◌+◌, ◌*◌, ◌/◌, ◌%◌, Bool, ◌&&◌, ◌||◌, List, [], ◌∷◌, ◌==◌, nat_le, nat_lt, slice_index}
use Rattle.std.specs.Int.{w32}
use Rattle.std.proofs.Common.{to_z, of_z}
use Rattle.record.specs.Rules.{lowest, within, paired, signed32}
use Rattle.station.specs.declared.ramp.items.RampItems.{RampItems}

-- the end is a time that is later than the start
abbrev pub ended : RampItems → Bool
ended i = nat_le i.endseconds 4294967295 && nat_le i.endfraction 999999999 && (nat_lt i.seconds i.endseconds || (i.seconds == i.endseconds && nat_lt i.fraction i.endfraction))

-- whether each item keeps its rule; a pair's part always has 32 bits, and the ninth rule is that of the tenth item too
abbrev pub ramp_rules : RampItems → List Bool
ramp_rules i =
    nat_le i.seconds 4294967295
    ∷ nat_le i.fraction 999999999
    ∷ signed32 i.rate
    ∷ paired i.rate i.part
    ∷ nat_le i.gigahertz 4194303
    ∷ within 1 1023 i.station
    ∷ nat_le i.hertz 999999999
    ∷ nat_le i.hertzpart 999999999
    ∷ ended i
    ∷ []

-- the lowest bad item; 0 where there is none
unfoldable pub bad_ramp : RampItems → ℕ
bad_ramp i = lowest 1 (ramp_rules i)

-- the nine words: the fifth has 22 bits of gigahertz and 10 of the station
unfoldable pub ramp_words : RampItems → List ℕ
ramp_words i = i.seconds ∷ i.fraction ∷ of_z w32 i.rate ∷ of_z w32 i.part ∷ (i.gigahertz * 1024 + i.station) ∷ i.hertz ∷ i.hertzpart ∷ i.endseconds ∷ i.endfraction ∷ []

-- the items that lie in nine words
unfoldable pub ramp_of : List ℕ → RampItems
ramp_of w = record { seconds = slice_index w 0; fraction = slice_index w 1; rate = to_z w32 (slice_index w 2); part = to_z w32 (slice_index w 3); gigahertz = slice_index w 4 / 1024; station = slice_index w 4 % 1024; hertz = slice_index w 5; hertzpart = slice_index w 6; endseconds = slice_index w 7; endfraction = slice_index w 8 }
