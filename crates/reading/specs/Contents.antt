-- The contents of a file, and the one list of packets that stands for them.
use Rattle.std.specs.Prelude.{◌≡◌, ℕ, suc, ◌+◌, ◌-◌, ◌<◌, ◌≤◌, Bool, true, false, List, [], ◌∷◌, ◌++◌, map, length, replicate, pos, negsuc}
use Rattle.packet.specs.Packets.{bytes_of, filler}
use Rattle.carrier.specs.Cells.{Cell, holds}
use Rattle.record.specs.Kinds.{Kind}
use Rattle.orbit.specs.Orbits.{Orbit}
use Rattle.orbit.specs.Orbits.{orbit_kind}
use Rattle.station.specs.RampWords.{Ramp}
use Rattle.station.specs.RampWords.{ramp_kind}
use Rattle.station.specs.ClockWords.{Clock}
use Rattle.station.specs.ClockWords.{clock_kind}
use Rattle.label.specs.Labels.{Label}
use Rattle.label.specs.LabelRules.{label_words}
use Rattle.label.specs.Labels.{items_of}
use Rattle.label.specs.Headers.{header_packet}
use Rattle.label.specs.Identifiers.{identifier}

-- a label, whether there is a summary, the orbit records, each station's ramps, and the clock offsets
pub record Contents : Type 0 where
  pub label : Label
  pub summary : Bool
  pub orbits : List Orbit
  pub ramps : List (ℕ × List Ramp)
  pub clocks : List Clock

-- records of one owner, each starting no earlier than the one before it lets it, the first no earlier than `last`
abbrev pub Ordered : {R : Type 0} → Kind R → ℕ → ℕ → List R → Type 0
Ordered κ owner last [] = Unit {0}
Ordered κ owner last (x ∷ xs) = (last ≤ κ.starts x) × (κ.foreign owner (κ.packed x) ≡ 0) × Ordered κ owner (κ.until x) xs

-- the ramps of stations above `last`, ascending, each with some ramps of its own
abbrev pub Stations : ℕ → List (ℕ × List Ramp) → Type 0
Stations last [] = Unit {0}
Stations last (g ∷ gs) = (last < g.0) × (g.0 ≤ 1023) × (0 < length g.1) × Ordered ramp_kind g.0 0 g.1 × Stations g.0 gs

-- contents that a file can have
pub record Lawful (c : Contents) : Type 0 where
  pub orbits : Ordered orbit_kind c.label.items.spacecraft 0 c.orbits
  pub ramps : Stations 0 c.ramps
  pub clocks : Ordered clock_kind 0 0 c.clocks

abbrev pub packed : {R : Type 0} → Kind R → List R → List (List ℕ)
packed κ xs = map (λ x. bytes_of (κ.packed x)) xs

-- the end packet, and the summary with its rows before it, from packet k on
abbrev pub closing : Bool → List (List ℕ) → ℕ → List (List ℕ)
closing false rows k = header_packet (negsuc 0) 0 0 k ∷ []
closing true rows k = header_packet (pos 105) 0 1 k ∷ (rows ++ header_packet (negsuc 0) 0 0 (suc k + length rows) ∷ [])

-- the clock offsets, where there are any, and what follows them
abbrev pub timing : List Clock → Bool → List (List ℕ) → ℕ → List (List ℕ)
timing [] summary rows k = closing summary rows k
timing (x ∷ xs) summary rows k = header_packet (pos 2040) 0 1 k ∷ (packed clock_kind (x ∷ xs) ++ closing summary rows (suc k + length (x ∷ xs)))

-- each station's ramps, and what follows them
abbrev pub following : List (ℕ × List Ramp) → List Clock → Bool → List (List ℕ) → ℕ → List (List ℕ)
following [] clocks summary rows k = timing clocks summary rows k
following (g ∷ gs) clocks summary rows k = header_packet (pos 2030) g.0 1 k ∷ (packed ramp_kind g.1 ++ following gs clocks summary rows (suc k + length g.1))

-- the packets of some contents, whose summary has these rows
abbrev pub packets_with : List (List ℕ) → Contents → List (List ℕ)
packets_with rows c =
    header_packet (pos 101) 0 1 0 ∷ bytes_of (label_words (items_of c.label))
    ∷ header_packet (pos 107) 0 1 2 ∷ identifier
    ∷ header_packet (pos 109) 0 1 4
    ∷ (packed orbit_kind c.orbits ++ following c.ramps c.clocks c.summary rows (5 + length c.orbits))

-- packets, and filler up to n cells
abbrev pub filled : ℕ → List (List ℕ) → List Cell
filled n ps = map holds ps ++ replicate (n - length ps) (holds filler)
