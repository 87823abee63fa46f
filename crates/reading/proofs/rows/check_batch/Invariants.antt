use Rattle.std.proofs.Common.{◌≡◌, ◌+◌, map, drop}
use Rattle.summary.specs.RowWords.{row_packet}
use Rattle.reading.specs.Places.{NotPast}
use Rattle.reading.specs.Reading.{rows_at}
use Rattle.reading.proofs.rows.check_batch.Given as goal

-- the rows before row i are as they have to be
abbrev pub invariant-loop-i : goal.invariant-loop-i
invariant-loop-i g l =
    let cells = g.C.Carrier.cells l.carrier in
    let rows = map row_packet l.row-items in
    NotPast cells (l.first + l.i) × (rows_at (l.first + l.i) (drop l.i rows) (drop (l.first + l.i) cells) ≡ rows_at l.first rows (drop l.first cells))
