-- What reading a row of cells answers: the contents of the file that it is, or the first fault.
use Rattle.std.specs.Prelude.{ℕ, zero, suc, ◌+◌, Bool, true, false, cond, ◌&&◌, List, [], ◌∷◌, length, drop, Some, None, Ok, Err, Option, Result, ◌==◌, nat_lt}
use Rattle.std.specs.Str.{bytes_eq}
use Rattle.packet.specs.Packets.{word, header_like, filler}
use Rattle.carrier.specs.Cells.{Cell, holds, damaged}
use Rattle.carrier.specs.declared.fault.CarrierFault.TheVariants.{Damaged}
use Rattle.record.specs.declared.fault.RecordFault.{RecordFault}
use Rattle.record.specs.declared.fault.RecordFault.TheVariants.{InCarrier, BadItem}
use Rattle.record.specs.Kinds.{Kind, plain, owned}
use Rattle.orbit.specs.Orbits.{Orbit}
use Rattle.orbit.specs.Orbits.{orbit_kind}
use Rattle.station.specs.RampWords.{Ramp}
use Rattle.station.specs.RampWords.{ramp_kind}
use Rattle.station.specs.ClockWords.{Clock}
use Rattle.station.specs.ClockWords.{clock_kind}
use Rattle.label.specs.Labels.{Label}
use Rattle.label.specs.LabelRules.{bad_label, label_of}
use Rattle.label.specs.Labels as labels
use Rattle.label.specs.Headers.{headed}
use Rattle.label.specs.Identifiers.{bad_identifier}
use Rattle.odf.specs.declared.fault.FileFault.{FileFault}
use Rattle.odf.specs.declared.fault.FileFault.TheVariants.{InRecord, Misplaced, Ended, OutOfOrder, WrongRow, NotFiller}
use Rattle.reading.specs.declared.walk.Bounds.{Bounds}
use Rattle.reading.specs.declared.walk.Stage.{Stage}
use Rattle.reading.specs.declared.walk.Stage.TheVariants.{Orbits, Ramps, Clocks, Closed}
use Rattle.reading.specs.Outcomes.{and_then, lifted, seen}
use Rattle.reading.specs.Contents.{Contents}

-- the packet at the head of a row whose first cell has number k
abbrev pub packet_at : ℕ → List Cell → Result (List ℕ) FileFault
packet_at k [] = Err (Ended k)
packet_at k (damaged b ∷ cs) = Err (InRecord (InCarrier (Damaged k b)))
packet_at k (holds p ∷ cs) = Ok p

-- a header's secondary key, which has to be no lower than the lowest that may follow
abbrev pub above : ℕ → ℕ → ℕ → Result ℕ FileFault
above lowest k s = cond (nat_lt s lowest) (Err (OutOfOrder k)) (Ok s)

-- packet k as the header with this key: its secondary key
abbrev pub opened : ℕ → ℕ → Bounds → ℕ → List ℕ → Result ℕ FileFault
opened key len b k p =
    cond (header_like p && word p 1 == key)
    (and_then (lifted InRecord (headed b.least b.most len k p)) (above b.lowest k))
    (Err (Misplaced k))

-- every header's secondary key is 0 but for a ramp group's, which is a station above the last
abbrev pub none : Bounds
none = record { least = 0; most = 0; lowest = 0 }

abbrev pub station_above : ℕ → Bounds
station_above last = record { least = 1; most = 1023; lowest = suc last }

-- one record more
abbrev pub joined : {A : Type 0} → A → Result (List A) FileFault → Result (List A) FileFault
joined x (Ok xs) = Ok (x ∷ xs)
joined x (Err e) = Err e

-- the records from packet k on, up to the next header-like packet
abbrev pub records : {R : Type 0} → Kind R → ℕ → ℕ → ℕ → List Cell → Result (List R) FileFault
records κ owner k last [] = Err (Ended k)
records κ owner k last (damaged b ∷ cs) = Err (InRecord (InCarrier (Damaged k b)))
records κ owner k last (holds p ∷ cs) =
    cond (header_like p) (Ok [])
    (and_then (lifted InRecord (owned κ owner k p)) (λ x. cond (nat_lt (κ.starts x) last) (Err (OutOfOrder k)) (joined x (records κ owner (suc k) (κ.until x) cs))))

-- whose records a group has: an owner's that is given, or that of the header's secondary key
abbrev pub owner_of : Option ℕ → ℕ → ℕ
owner_of None secondary = secondary
owner_of (Some owner) secondary = owner

-- a group has at least so many records
abbrev pub enough : {R : Type 0} → ℕ → ℕ → ℕ → List R → Result (ℕ × List R) FileFault
enough least k s xs = cond (nat_lt (length xs) least) (Err (Misplaced (k + length xs))) (Ok (s, xs))

-- a group from its header on, at packet k: the secondary key and the records
abbrev pub group : {R : Type 0} → Kind R → ℕ → ℕ → Bounds → Option ℕ → ℕ → List Cell → Result (ℕ × List R) FileFault
group κ key least b owner k cs =
    and_then (packet_at k cs) (λ p.
    and_then (opened key 1 b k p) (λ s.
    and_then (records κ (owner_of owner s) (suc k) 0 (drop 1 cs)) (enough least (suc k) s)))

-- the rows of the summary, from packet k on
abbrev pub rows_at : ℕ → List (List ℕ) → List Cell → Result (Unit {0}) FileFault
rows_at k [] cs = Ok tt
rows_at k (r ∷ rs) [] = Err (Ended k)
rows_at k (r ∷ rs) (damaged b ∷ cs) = Err (InRecord (InCarrier (Damaged k b)))
rows_at k (r ∷ rs) (holds p ∷ cs) = cond (bytes_eq p r) (rows_at (suc k) rs cs) (Err (WrongRow k))

-- the end packet
abbrev pub end_at : ℕ → List Cell → Result ℕ FileFault
end_at k cs = and_then (packet_at k cs) (opened 4294967295 0 none k)

-- the end packet behind a summary's last row, where data is a row too many
abbrev pub end_behind : ℕ → List Cell → Result ℕ FileFault
end_behind k cs = and_then (packet_at k cs) (λ p. cond (header_like p) (opened 4294967295 0 none k p) (Err (WrongRow k)))

-- the summary with the end packet
abbrev pub summary_at : List (List ℕ) → ℕ → List Cell → Result ℕ FileFault
summary_at rows k cs =
    and_then (packet_at k cs) (λ p.
    and_then (opened 105 1 none k p) (λ _.
    and_then (rows_at (suc k) rows (drop 1 cs)) (λ _.
    end_behind (suc k + length rows) (drop (suc (length rows)) cs))))

-- filler behind the end packet
abbrev pub filler_at : ℕ → List Cell → Result (Unit {0}) FileFault
filler_at k [] = Ok tt
filler_at k (damaged b ∷ cs) = Err (InRecord (InCarrier (Damaged k b)))
filler_at k (holds p ∷ cs) = cond (bytes_eq p filler) (filler_at (suc k) cs) (Err (NotFiller k))

-- what stands behind the groups read so far: a station's ramps, the clock offsets, or the end, behind a summary or not
pub data Turn : Type 0 where
  ramps : ℕ × List Ramp → Turn
  clocks : ℕ × List Clock → Turn
  end : Bool → Turn

-- what a key opens
pub data Part : Type 0 where
  ramps_above : ℕ → Part
  clock_group : Part
  summary : Part
  end_packet : Part
  nothing : Part

abbrev pub closing_part : ℕ → Part
closing_part key = cond (key == 105) summary (cond (key == 4294967295) end_packet nothing)

abbrev pub timing_part : ℕ → Part
timing_part key = cond (key == 2040) clock_group (closing_part key)

-- which key may follow depends on what was read last
abbrev pub part : Stage → ℕ → Part
part Orbits key = cond (key == 2030) (ramps_above 0) (timing_part key)
part (Ramps s) key = cond (key == 2030) (ramps_above s) (timing_part key)
part Clocks key = closing_part key
part Closed key = closing_part key

abbrev pub turn_to : List (List ℕ) → ℕ → List Cell → Part → Result Turn FileFault
turn_to rows k cs (ramps_above last) = seen ramps (group ramp_kind 2030 1 (station_above last) None k cs)
turn_to rows k cs clock_group = seen clocks (group clock_kind 2040 1 none None k cs)
turn_to rows k cs summary = seen (λ _. end true) (summary_at rows k cs)
turn_to rows k cs end_packet = seen (λ _. end false) (end_at k cs)
turn_to rows k cs nothing = Err (Misplaced k)

abbrev pub turn : Stage → List (List ℕ) → ℕ → List Cell → Result Turn FileFault
turn stage rows k cs = and_then (packet_at k cs) (λ p. cond (header_like p) (turn_to rows k cs (part stage (word p 1))) (Err (Misplaced k)))

-- what follows the orbit records
pub record Rest : Type 0 where
  pub summary : Bool
  pub ramps : List (ℕ × List Ramp)
  pub clocks : List Clock

abbrev pub with_ramps : ℕ × List Ramp → Rest → Rest
with_ramps g r = record { summary = r.summary; ramps = g ∷ r.ramps; clocks = r.clocks }

-- a file has one group of clock offsets at most
abbrev pub with_clocks : List Clock → Rest → Rest
with_clocks xs r = record { summary = r.summary; ramps = r.ramps; clocks = xs }

-- where the end packet stands, from packet k on
abbrev pub end_from : Bool → List (List ℕ) → ℕ → ℕ
end_from false rows k = k
end_from true rows k = suc k + length rows

-- how many packets the end takes, with the summary before it
abbrev pub ending : Bool → List (List ℕ) → ℕ
ending false rows = 1
ending true rows = suc (suc (length rows))

-- a group, and what follows it
abbrev pub go_on : (Stage → ℕ → List Cell → Result Rest FileFault) → List (List ℕ) → ℕ → List Cell → Turn → Result Rest FileFault
go_on next rows k cs (ramps g) = seen (with_ramps g) (next (Ramps g.0) (suc k + length g.1) (drop (suc (length g.1)) cs))
go_on next rows k cs (clocks g) = seen (with_clocks g.1) (next Clocks (suc k + length g.1) (drop (suc (length g.1)) cs))
go_on next rows k cs (end s) = seen (λ _. record { summary = s; ramps = []; clocks = [] }) (filler_at (suc (end_from s rows k)) (drop (ending s rows) cs))

-- all groups from packet k on, of which there are no more than cells
abbrev pub onward : ℕ → Stage → List (List ℕ) → ℕ → List Cell → Result Rest FileFault
onward zero stage rows k cs = Err (Ended k)
onward (suc f) stage rows k cs = and_then (turn stage rows k cs) (go_on (λ st j ds. onward f st rows j ds) rows k cs)

-- packet k, which has to be data
abbrev pub data_packet : ℕ → List Cell → Result (List ℕ) FileFault
data_packet k cs = and_then (packet_at k cs) (λ p. cond (header_like p) (Err (Misplaced k)) (Ok p))

-- packet k as a record, which is never header-like
abbrev pub data_at : {A : Type 0} → (ℕ → List ℕ → Result A RecordFault) → ℕ → List Cell → Result A FileFault
data_at read k cs = and_then (packet_at k cs) (λ p. cond (header_like p) (Err (Misplaced k)) (lifted InRecord (read k p)))

abbrev pub header_at : ℕ → ℕ → List Cell → Result ℕ FileFault
header_at key k cs = and_then (packet_at k cs) (opened key 1 none k)

-- the identifier, whose lowest wrong character is told
abbrev pub identified : ℕ → ℕ → Result (Unit {0}) RecordFault
identified k zero = Ok tt
identified k (suc i) = Err (BadItem k (suc i))

-- the label and the identifier, which stand in the first four packets
abbrev pub opening : List Cell → Result Label FileFault
opening cs =
    and_then (header_at 101 0 cs) (λ _.
    and_then (data_at (plain labels.unpacked (λ w. bad_label (label_of w))) 1 (drop 1 cs)) (λ label.
    and_then (header_at 107 2 (drop 2 cs)) (λ _.
    seen (λ _. label) (data_at (λ k p. identified k (bad_identifier p)) 3 (drop 3 cs)))))

-- the contents of a row of cells, whose summary has to have the rows of its orbit records
abbrev pub reads_by : (List Orbit → List (List ℕ)) → List Cell → Result Contents FileFault
reads_by rows_for cs =
    and_then (opening cs) (λ label.
    and_then (group orbit_kind 109 0 none (Some label.items.spacecraft) 4 (drop 4 cs)) (λ g.
    seen (λ r. record { label = label; summary = r.summary; orbits = g.1; ramps = r.ramps; clocks = r.clocks })
    (onward (length cs) Orbits (rows_for g.1) (5 + length g.1) (drop (5 + length g.1) cs))))
