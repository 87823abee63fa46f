use Rattle.std.proofs.Common.{◌≡◌, ◌+◌, ◌-◌, map, length, drop, Ok, Err, sym, ap, ◌∙◌, arith}
use Rattle.std.proofs.lemmas.List.{length-map}
use Rattle.std.proofs.lemmas.Result.{err_from_is_err_and, MatchResult-from_err}
use Rattle.summary.specs.RowWords.{row_packet}
use Rattle.summary.specs.SummaryKeys.{summary_lt}
use Rattle.summary.proofs.Batches.{over_none}
use Rattle.reading.specs.Outcomes.{seen}
use Rattle.reading.specs.Reading.{rows_at}
use Rattle.reading.proofs.Batches.{all_rows, rows_behind, batch-err, ends, goes-on}
use Rattle.reading.proofs.rows.check_rows.Goals as goal

pub loop-table-init : goal.loop-table-init
loop-table-init g c =
    let cs = g.C.Carrier.cells c.args.carrier.now in
    let all = all_rows c.args.orbits cs in
    let e = over_none summary_lt all in
    (omega arith, c.requires, ap (λ v. c.args.first + length v) e, ap (λ v. rows_at c.args.first (map row_packet v) (drop c.args.first cs)) e)

pub returns-in_err-check_batch : goal.returns-in_err-check_batch
returns-in_err-check_batch g c =
    let cs = g.C.Carrier.cells c.args.carrier.now in
    let all = all_rows c.args.orbits cs in
    let at = c.loop-table.at in
    let p = err_from_is_err_and c.from_residual.result c.from_residual.ensures.1 in
    let q = c.in_err-check_batch.ensures.answer ∙ ap (λ v. rows_at at (map row_packet v) (drop at cs)) c.lowest_rows.ensures.rows in
    record {
      answer = p.1 ∙ ap Err p.2 ∙ ap (seen (λ _. length (map row_packet all))) (sym (batch-err (rows_behind c.args.orbits cs c.loop-table.above) cs at _ q) ∙ c.loop-table.invariant.3);
      within = MatchResult-from_err c.from_residual.result _ _ c.from_residual.ensures.0 (λ _. tt);
    }

pub returns-then-is_none : goal.returns-then-is_none
returns-then-is_none g c =
    let cs = g.C.Carrier.cells c.args.carrier.now in
    let all = all_rows c.args.orbits cs in
    let i = c.loop-table.invariant in
    let a = c.in_ok-check_batch.ensures in
    let room = a.within in
    let m = c.count-at.ensures in
    let e = ends c.args.orbits cs c.loop-table.above c.highest-above.result c.loop-table.at c.count-at.result _ c.lowest_rows.ensures.rows m c.highest-above.ensures a.answer c.if-is_none.ensures in
    let r : length (map row_packet all) ≡ length all = length-map all row_packet in
    let d : c.loop-table.at + c.count-at.result - c.args.first ≡ length (map row_packet all) = omega (arith, i.0, i.2, e.0) in
    record {
      answer = ap Ok d ∙ ap (seen (λ _. length (map row_packet all))) (sym e.1 ∙ i.3);
      within = (omega (arith, i.0), omega (arith, i.0));
    }

pub loop-table-smaller : goal.loop-table-smaller
loop-table-smaller g c =
    let cs = g.C.Carrier.cells c.args.carrier.now in
    let o = goes-on c.args.orbits cs c.loop-table.above c.highest-above.result c.loop-table.at c.count-at.result _ c.lowest_rows.ensures.rows c.count-at.ensures c.highest-above.ensures c.in_ok-check_batch.ensures.answer c.if-is_none.ensures in
    omega (arith, o.0, o.1)

pub loop-table-preserved : goal.loop-table-preserved
loop-table-preserved g c =
    let cs = g.C.Carrier.cells c.args.carrier.now in
    let i = c.loop-table.invariant in
    let a = c.in_ok-check_batch.ensures in
    let room = a.within in
    let m = c.count-at.ensures in
    let o = goes-on c.args.orbits cs c.loop-table.above c.highest-above.result c.loop-table.at c.count-at.result _ c.lowest_rows.ensures.rows m c.highest-above.ensures a.answer c.if-is_none.ensures in (
      omega (arith, i.0),
      (omega arith, omega arith),
      omega (arith, i.2, o.0),
      o.2 ∙ i.3,
    )
