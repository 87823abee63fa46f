-- Lawful ramp records, and ramp records as one of the kinds.
use Rattle.std.specs.Prelude.{◌≡◌, ℕ, ◌+◌, ◌*◌, cond, List, Option, ◌==◌}
use Rattle.record.specs.Kinds.{Kind, made as made_by, packed_by, unpacked_by, bad_by, kind_of}
use Rattle.record.specs.declared.kind.Packed.{Ghosts as PackedGhosts}
use Rattle.record.specs.declared.kind.RecordKind.{Ghosts as KindGhosts}
use Rattle.record.specs.declared.lawful.Items.{Ghosts as ItemsGhosts}
use Rattle.record.specs.declared.lawful.Lawful.{Lawful}
use Rattle.station.specs.RampRules.{bad_ramp, ramp_words, ramp_of}
use Rattle.station.specs.declared.ramp.items.RampItems.{RampItems}

-- the rules of ramp items, and the nine words that they lie in
abbrev pub rules : ItemsGhosts RampItems
rules = record { bad = bad_ramp; unfit = bad_ramp }

abbrev pub words : PackedGhosts RampItems
words = record { packed = ramp_words; unpacked = ramp_of }

abbrev pub Ramp : Type 0
Ramp = Lawful RampItems rules

abbrev pub items_of : Ramp → RampItems
items_of x = x.items

-- the record of items that break no rule
abbrev pub made : (i : RampItems) → bad_ramp i ≡ 0 → Ramp
made = made_by rules

abbrev pub packed : Ramp → List ℕ
packed = packed_by rules words

abbrev pub unpacked : List ℕ → Option Ramp
unpacked = unpacked_by rules words

abbrev pub bad : List ℕ → ℕ
bad = bad_by rules words

-- item 6 names the station
abbrev pub other_station : ℕ → RampItems → ℕ
other_station o i = cond (i.station == o) 0 6

abbrev pub foreign : ℕ → List ℕ → ℕ
foreign o w = other_station o (ramp_of w)

-- the start and the end, in billionths of a second
abbrev pub begins : RampItems → ℕ
begins i = i.seconds * 1000000000 + i.fraction

abbrev pub ends : RampItems → ℕ
ends i = i.endseconds * 1000000000 + i.endfraction

abbrev pub instant : Ramp → ℕ
instant x = begins x.items

abbrev pub until : Ramp → ℕ
until x = ends x.items

-- its key is 2030, and a group has at least one
abbrev pub kind : KindGhosts RampItems
kind = record { KEY = 2030; LEAST = 1; foreign = other_station; starts = begins; until = ends }

abbrev pub ramp_kind : Kind Ramp
ramp_kind = kind_of rules words kind
