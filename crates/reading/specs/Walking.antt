-- How far a walk through a file has come, as numbers.
use Rattle.std.specs.Prelude.{ℕ, suc, ◌+◌, ◌≤◌, List, [], ◌∷◌, length, take, drop, None, Result}
use Rattle.carrier.specs.Cells.{Cell}
use Rattle.station.specs.RampWords.{Ramp}
use Rattle.station.specs.ClockWords.{Clock}
use Rattle.summary.specs.Found.{orbits_in}
use Rattle.odf.specs.declared.fault.FileFault.{FileFault}
use Rattle.reading.specs.declared.report.Report.{Report}
use Rattle.reading.specs.declared.walk.Group.{Group}
use Rattle.reading.specs.declared.walk.Stage.{Stage}
use Rattle.reading.specs.declared.walk.Stage.TheVariants.{Orbits, Ramps, Clocks, Closed}
use Rattle.reading.specs.Outcomes.{seen}
use Rattle.reading.specs.Files.{ramp_count, row_count, summary_rows}
use Rattle.reading.specs.Reading.{end_from, Turn, ramps, clocks, end, Part, turn_to, turn, Rest, onward}

-- how far a walk has come: what was read last, and what is told so far
pub record Progress : Type 0 where
  pub stage : Stage
  pub report : Report

-- a group by its secondary key and number of records
abbrev pub counted : {R : Type 0} → ℕ × List R → Group
counted g = record { secondary = g.0; records = length g.1 }

-- the rows of the summary of the n orbit records from packet 5 on
abbrev pub rows_over : ℕ → List Cell → List (List ℕ)
rows_over n cs = summary_rows (orbits_in (take n (drop 5 cs)))

-- the walk once a further group is read
abbrev pub advance : Progress → List (List ℕ) → Turn → Progress
advance w rows (ramps g) = record { stage = Ramps g.0; report = record { end = suc w.report.end + length g.1; orbits = w.report.orbits; groups = w.report.groups + 1; ramps = w.report.ramps + length g.1; clocks = w.report.clocks; rows = w.report.rows } }
advance w rows (clocks g) = record { stage = Clocks; report = record { end = suc w.report.end + length g.1; orbits = w.report.orbits; groups = w.report.groups; ramps = w.report.ramps; clocks = w.report.clocks + length g.1; rows = w.report.rows } }
advance w rows (end s) = record { stage = Closed; report = record { end = end_from s rows w.report.end; orbits = w.report.orbits; groups = w.report.groups; ramps = w.report.ramps; clocks = w.report.clocks; rows = row_count s rows } }

-- the walk behind a part of the file that comes next
abbrev pub passed : Progress → List Cell → Part → Result Progress FileFault
passed w cs q = seen (advance w (rows_over w.report.orbits cs)) (turn_to (rows_over w.report.orbits cs) w.report.end (drop w.report.end cs) q)

-- the walk behind what comes next
abbrev pub stepped : Progress → List Cell → Result Progress FileFault
stepped w cs = seen (advance w (rows_over w.report.orbits cs)) (turn w.stage (rows_over w.report.orbits cs) w.report.end (drop w.report.end cs))

-- what has been counted lies behind the walk
pub record Counts (w : Progress) : Type 0 where
  pub few : w.report.end ≤ 1000005
  pub groups : w.report.groups ≤ w.report.end
  pub ramps : w.report.ramps ≤ w.report.end
  pub clocks : w.report.clocks ≤ w.report.end

-- where the ramps and the clock offsets end that begin at packet k
abbrev pub ramps_end : List (ℕ × List Ramp) → ℕ → ℕ
ramps_end [] k = k
ramps_end (g ∷ gs) k = ramps_end gs (suc k + length g.1)

abbrev pub clocks_end : List Clock → ℕ → ℕ
clocks_end [] k = k
clocks_end (x ∷ xs) k = suc k + length (x ∷ xs)

-- the walk behind n orbit records
abbrev pub start : ℕ → Progress
start n = record { stage = Orbits; report = record { end = 5 + n; orbits = n; groups = 0; ramps = 0; clocks = 0; rows = None } }

-- the report once the rest is read
abbrev pub reported : Progress → List (List ℕ) → Rest → Report
reported w rows r = record { end = end_from r.summary rows (clocks_end r.clocks (ramps_end r.ramps w.report.end)); orbits = w.report.orbits; groups = w.report.groups + length r.ramps; ramps = w.report.ramps + ramp_count r.ramps; clocks = w.report.clocks + length r.clocks; rows = row_count r.summary rows }

-- the report that a walk comes to in so many groups at most
abbrev pub walked : ℕ → Progress → List Cell → Result Report FileFault
walked f w cs = seen (reported w (rows_over w.report.orbits cs)) (onward f w.stage (rows_over w.report.orbits cs) w.report.end (drop w.report.end cs))
