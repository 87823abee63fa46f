-- Files: the packets of contents, and the answer of reading.
use Rattle.std.specs.Prelude.{◌≡◌, ℕ, suc, ◌+◌, ◌-◌, ◌≤◌, Bool, true, false, List, [], ◌∷◌, map, length, take, Some, None, Ok, Err, Option, Result}
use Rattle.carrier.specs.Cells.{Cell}
use Rattle.orbit.specs.Orbits.{Orbit}
use Rattle.station.specs.RampWords.{Ramp}
use Rattle.summary.specs.Rows.{rows_of}
use Rattle.summary.specs.RowWords.{row_packet}
use Rattle.summary.specs.SummaryKeys.{summary_of, summary_lt}
use Rattle.odf.specs.declared.fault.FileFault.{FileFault}
use Rattle.reading.specs.declared.report.Report.{Report}
use Rattle.reading.specs.Outcomes.{seen}
use Rattle.reading.specs.Contents.{Contents, Lawful, packets_with, filled}
use Rattle.reading.specs.Reading.{reads_by}

-- the rows of a summary, as packets: the recount of the orbit records
abbrev pub summary_rows : List Orbit → List (List ℕ)
summary_rows xs = map row_packet (rows_of summary_lt summary_of xs)

-- the packets of some contents
abbrev pub packets : Contents → List (List ℕ)
packets c = packets_with (summary_rows c.orbits) c

-- a row of cells is the file of some contents: their packets, and then filler
pub record FileOf (cs : List Cell) (c : Contents) : Type 0 where
  pub lawful : Lawful c
  pub room : length (packets c) ≤ length cs
  pub laid : cs ≡ filled (length cs) (packets c)

-- how many ramps all stations have
abbrev pub ramp_count : List (ℕ × List Ramp) → ℕ
ramp_count [] = 0
ramp_count (g ∷ gs) = length g.1 + ramp_count gs

-- how many rows a summary has, where there is one
abbrev pub row_count : Bool → List (List ℕ) → Option ℕ
row_count false rows = None
row_count true rows = Some (length rows)

-- what is told of some contents
abbrev pub report_of : Contents → Report
report_of c = record { end = length (packets c) - 1; orbits = length c.orbits; groups = length c.ramps; ramps = ramp_count c.ramps; clocks = length c.clocks; rows = row_count c.summary (summary_rows c.orbits) }

-- what a row of cells is read as
abbrev pub reads : List Cell → Result Contents FileFault
reads cs = reads_by summary_rows cs

-- what reading answers
abbrev pub answer : List Cell → Result Report FileFault
answer cs = seen report_of (reads cs)

-- the law of reading: a row of cells is accepted exactly when it is the file of some contents, which are then the only ones
-- and what it is read as; the report is theirs
abbrev pub Judged : List Cell → Result Report FileFault → Type 0
Judged cs (Ok report) = (c : Contents) × ((reads cs ≡ Ok c) × FileOf cs c × (report ≡ report_of c) × ((d : Contents) → FileOf cs d → d ≡ c))
Judged cs (Err e) = (c : Contents) → FileOf cs c → ⊥

-- the cells up to and with the end packet
abbrev pub up_to_end : Report → List Cell → List Cell
up_to_end report cs = take (suc report.end) cs

-- the law of two files, whatever carries them: equal packets up to the end exactly where they are read as equal contents
abbrev pub Telling : List Cell → List Cell → Report → Report → Type 0
Telling cs ds a b = (c d : Contents) → reads cs ≡ Ok c → reads ds ≡ Ok d → (up_to_end a cs ≡ up_to_end b ds → c ≡ d) × (c ≡ d → up_to_end a cs ≡ up_to_end b ds)

-- both answers, or the first fault
abbrev pub both : {A B E : Type 0} → Result A E → Result B E → Result (A × B) E
both (Ok x) (Ok y) = Ok (x, y)
both (Ok x) (Err e) = Err e
both (Err e) y = Err e
