-- Lawful clock records, and clock records as one of the kinds.
use Rattle.std.specs.Prelude.{◌≡◌, ℕ, ◌+◌, ◌*◌, List, Option}
use Rattle.record.specs.Kinds.{Kind, made as made_by, packed_by, unpacked_by, bad_by, kind_of}
use Rattle.record.specs.declared.kind.Packed.{Ghosts as PackedGhosts}
use Rattle.record.specs.declared.kind.RecordKind.{Ghosts as KindGhosts}
use Rattle.record.specs.declared.lawful.Items.{Ghosts as ItemsGhosts}
use Rattle.record.specs.declared.lawful.Lawful.{Lawful}
use Rattle.station.specs.ClockRules.{bad_clock, clock_words, clock_of}
use Rattle.station.specs.declared.clock.items.ClockItems.{ClockItems}

-- the rules of clock items, and the nine words that they lie in
abbrev pub rules : ItemsGhosts ClockItems
rules = record { bad = bad_clock; unfit = bad_clock }

abbrev pub words : PackedGhosts ClockItems
words = record { packed = clock_words; unpacked = clock_of }

abbrev pub Clock : Type 0
Clock = Lawful ClockItems rules

abbrev pub items_of : Clock → ClockItems
items_of x = x.items

-- the record of items that break no rule
abbrev pub made : (i : ClockItems) → bad_clock i ≡ 0 → Clock
made = made_by rules

abbrev pub packed : Clock → List ℕ
packed = packed_by rules words

abbrev pub unpacked : List ℕ → Option Clock
unpacked = unpacked_by rules words

abbrev pub bad : List ℕ → ℕ
bad = bad_by rules words

-- a clock record has no owner
abbrev pub no_owner : ℕ → ClockItems → ℕ
no_owner o i = 0

abbrev pub foreign : ℕ → List ℕ → ℕ
foreign o w = no_owner o (clock_of w)

-- in billionths of a second
abbrev pub begins : ClockItems → ℕ
begins i = i.seconds * 1000000000 + i.fraction

abbrev pub instant : Clock → ℕ
instant x = begins x.items

-- its key is 2040, and a group has at least one
abbrev pub kind : KindGhosts ClockItems
kind = record { KEY = 2040; LEAST = 1; foreign = no_owner; starts = begins; until = begins }

abbrev pub clock_kind : Kind Clock
clock_kind = kind_of rules words kind
