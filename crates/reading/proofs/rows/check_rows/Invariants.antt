use Rattle.std.proofs.Common.{◌≡◌, ◌+◌, ◌≤◌, map, length, drop}
use Rattle.summary.specs.RowWords.{row_packet}
use Rattle.reading.specs.Places.{NotPast}
use Rattle.reading.specs.Reading.{rows_at}
use Rattle.reading.proofs.Batches.{all_rows, rows_behind}
use Rattle.reading.proofs.rows.check_rows.Given as goal

abbrev pub invariant-loop-table : goal.invariant-loop-table
invariant-loop-table g l =
    let cs = g.C.Carrier.cells l.carrier in
    let all = all_rows l.initial.orbits cs in
    let left = rows_behind l.initial.orbits cs l.above in
    (l.initial.first ≤ l.at) × NotPast cs l.at × (l.at + length left ≡ l.initial.first + length all) × (rows_at l.at (map row_packet left) (drop l.at cs) ≡ rows_at l.initial.first (map row_packet all) (drop l.initial.first cs))

abbrev pub decreases-loop-table : goal.decreases-loop-table
decreases-loop-table g l = length (rows_behind l.initial.orbits (g.C.Carrier.cells l.carrier) l.above)
