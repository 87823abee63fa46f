-- The items of an orbit record, and orbit records as one of the kinds.
use Rattle.std.specs.Prelude.{◌≡◌, ℕ, ◌+◌, ◌*◌, List, Option}
use Rattle.record.specs.Kinds.{Kind, made as made_by, packed_by, unpacked_by, bad_by, kind_of}
use Rattle.orbit.specs.OrbitRules.{bad_orbit}
use Rattle.orbit.specs.OrbitWords.{orbit_words, orbit_of, foreign_orbit}
use Rattle.orbit.specs.declared.items.OrbitItems.{OrbitItems}
use Rattle.record.specs.declared.kind.Packed.{Ghosts as PackedGhosts}
use Rattle.record.specs.declared.kind.RecordKind.{Ghosts as KindGhosts}
use Rattle.record.specs.declared.lawful.Items.{Ghosts as ItemsGhosts}
use Rattle.record.specs.declared.lawful.Lawful.{Lawful}

-- the rules of the items, and how they lie in nine words
abbrev pub rules : ItemsGhosts OrbitItems
rules = record { bad = bad_orbit; unfit = bad_orbit }

abbrev pub words : PackedGhosts OrbitItems
words = record { packed = orbit_words; unpacked = orbit_of }

-- an orbit record: items that break no rule
abbrev pub Orbit : Type 0
Orbit = Lawful OrbitItems rules

abbrev pub items_of : Orbit → OrbitItems
items_of x = x.items

-- the record of items that break no rule
abbrev pub made : (i : OrbitItems) → bad_orbit i ≡ 0 → Orbit
made = made_by rules

abbrev pub packed : Orbit → List ℕ
packed = packed_by rules words

abbrev pub unpacked : List ℕ → Option Orbit
unpacked = unpacked_by rules words

abbrev pub bad : List ℕ → ℕ
bad = bad_by rules words

-- the item that names another spacecraft
abbrev pub foreign : ℕ → List ℕ → ℕ
foreign o w = foreign_orbit o (orbit_of w)

-- in billionths of a second
abbrev pub begins : OrbitItems → ℕ
begins i = i.seconds * 1000000000 + i.millis * 1000000

abbrev pub instant : Orbit → ℕ
instant x = begins x.items

-- its key is 109, and a group may have none
abbrev pub kind : KindGhosts OrbitItems
kind = record { KEY = 109; LEAST = 0; foreign = foreign_orbit; starts = begins; until = begins }

abbrev pub orbit_kind : Kind Orbit
orbit_kind = kind_of rules words kind
