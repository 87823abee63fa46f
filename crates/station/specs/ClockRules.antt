-- The rules of a clock record, and its nine words.
use Rattle.std.specs.Prelude.{ℕ, Bool, List, [], ◌∷◌, ◌==◌, nat_le, slice_index}
use Rattle.std.specs.Int.{w32}
use Rattle.std.proofs.Common.{to_z, of_z}
use Rattle.record.specs.Rules.{lowest, within, paired, signed32}
use Rattle.station.specs.declared.clock.items.ClockItems.{ClockItems}

-- whether each item keeps its rule; a pair's part always has 32 bits
abbrev pub clock_rules : ClockItems → List Bool
clock_rules i =
    nat_le i.seconds 4294967295
    ∷ nat_le i.fraction 999999999
    ∷ signed32 i.offset
    ∷ paired i.offset i.part
    ∷ within 1 1023 i.primary
    ∷ nat_le i.secondary 1023
    ∷ (i.spare == 0)
    ∷ (i.endseconds == 0)
    ∷ (i.endfraction == 0)
    ∷ []

-- the lowest bad item; 0 where there is none
unfoldable pub bad_clock : ClockItems → ℕ
bad_clock i = lowest 1 (clock_rules i)

-- the nine words, the items in their order
unfoldable pub clock_words : ClockItems → List ℕ
clock_words i = i.seconds ∷ i.fraction ∷ of_z w32 i.offset ∷ of_z w32 i.part ∷ i.primary ∷ i.secondary ∷ i.spare ∷ i.endseconds ∷ i.endfraction ∷ []

-- the items that lie in nine words
unfoldable pub clock_of : List ℕ → ClockItems
clock_of w = record { seconds = slice_index w 0; fraction = slice_index w 1; offset = to_z w32 (slice_index w 2); part = to_z w32 (slice_index w 3); primary = slice_index w 4; secondary = slice_index w 5; spare = slice_index w 6; endseconds = slice_index w 7; endfraction = slice_index w 8 }
