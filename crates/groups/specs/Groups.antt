-- The groups of a file: one row for each header, in the order of the packets.
use Rattle.std.specs.Prelude.{◌≡◌, ℕ, zero, suc, ◌+◌, ◌≤◌, Bool, true, false, cond, List, [], ◌∷◌, ◌++◌, length, drop, ℤ, pos, negsuc, is_some, Ok, Err, Result, nat_lt}
use Rattle.station.specs.RampWords.{Ramp}
use Rattle.carrier.specs.Cells.{Cell}
use Rattle.odf.specs.declared.fault.FileFault.{FileFault}
use Rattle.odf.specs.declared.fault.FileFault.TheVariants.{TooFewRows}
use Rattle.reading.specs.declared.report.Report.{Report}
use Rattle.reading.specs.Contents.{Contents}
use Rattle.reading.specs.Files.{summary_rows, packets, FileOf, reads}
use Rattle.groups.specs.declared.GroupRow.{GroupRow}

-- a group by its key, its secondary key, its header's packet and how many data packets it has
abbrev pub row_of : ℤ → ℕ → ℕ → ℕ → GroupRow
row_of key secondary at n = record { key = key; secondary = secondary; packet = at; packets = n }

-- the end at packet k, and a summary of n rows before it
abbrev pub end_rows : Bool → ℕ → ℕ → List GroupRow
end_rows false n k = row_of (negsuc 0) 0 k 0 ∷ []
end_rows true n k = row_of (pos 105) 0 k n ∷ row_of (negsuc 0) 0 (suc k + n) 0 ∷ []

-- so many clock offsets from packet k on, where there are any, and what follows them
abbrev pub clock_rows : ℕ → Bool → ℕ → ℕ → List GroupRow
clock_rows zero summary n k = end_rows summary n k
clock_rows (suc m) summary n k = row_of (pos 2040) 0 k (suc m) ∷ end_rows summary n (suc k + suc m)

-- each station's ramps from packet k on, and what follows them
abbrev pub ramp_rows : List (ℕ × List Ramp) → ℕ → Bool → ℕ → ℕ → List GroupRow
ramp_rows [] clocks summary n k = clock_rows clocks summary n k
ramp_rows (g ∷ gs) clocks summary n k = row_of (pos 2030) g.0 k (length g.1) ∷ ramp_rows gs clocks summary n (suc k + length g.1)

-- the groups of some contents: the label, the identifier, the orbit records, and those behind them
abbrev pub groups_of : Contents → List GroupRow
groups_of c =
    row_of (pos 101) 0 0 1 ∷ row_of (pos 107) 0 2 1
    ∷ row_of (pos 109) 0 4 (length c.orbits)
    ∷ ramp_rows c.ramps (length c.clocks) c.summary (length (summary_rows c.orbits)) (5 + length c.orbits)

-- how many groups there are by what is told of a file: four, the stations, and the clock offsets and the summary where there are any
abbrev pub group_count : Report → ℕ
group_count r = 4 + r.groups + cond (nat_lt 0 r.clocks) 1 0 + cond (is_some r.rows) 1 0

-- what is answered to a caller with this many rows: the number of groups
abbrev pub listed : ℕ → Result Contents FileFault → Result ℕ FileFault
listed room (Ok c) = cond (nat_lt room (length (groups_of c))) (Err TooFewRows) (Ok (length (groups_of c)))
listed room (Err e) = Err e

-- the caller's rows afterwards
abbrev pub shown : Result Contents FileFault → List GroupRow → List GroupRow
shown (Ok c) old = cond (nat_lt (length old) (length (groups_of c))) old (groups_of c ++ drop (length (groups_of c)) old)
shown (Err e) old = old

-- cells that were read as a file whose end is packet `end`, and whose groups find room in so many rows
pub record Ready (cs : List Cell) (end rows : ℕ) : Type 0 where
  pub contents : Contents
  pub read : reads cs ≡ Ok contents
  pub file : FileOf cs contents
  pub last : end + 1 ≡ length (packets contents)
  pub room : length (groups_of contents) ≤ rows
