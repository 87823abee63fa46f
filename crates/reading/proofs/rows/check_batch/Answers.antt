use Rattle.std.proofs.Common.{◌+◌, map, length, drop, Err, sym, ap, ◌∙◌, arith}
use Rattle.std.proofs.lemmas.List.{at_drop_all, length-map}
use Rattle.std.proofs.lemmas.Result.{err_from_is_err_and}
use Rattle.summary.specs.RowWords.{row_packet}
use Rattle.reading.specs.Reading.{rows_at}
use Rattle.reading.proofs.Batches.{row-err, row_ok}
use Rattle.reading.proofs.rows.check_batch.Goals as goal

pub returns-in_err-check_row-clause-answer : goal.returns-in_err-check_row-clause-answer
returns-in_err-check_row-clause-answer g c =
    let cells = g.C.Carrier.cells c.args.carrier.now in
    let rows = c.rows-row-items.result.now in
    let p = err_from_is_err_and c.from_residual.result c.from_residual.ensures.1 in
    p.1
    ∙ ap Err p.2
    ∙ sym (row-err row_packet rows cells c.args.first c.loop-i.i _ c.loop-i-test.true _ c.in_err-check_row.ensures.answer)
    ∙ c.loop-i.invariant.1
    ∙ ap (λ v. rows_at c.args.first (map row_packet v) (drop c.args.first cells)) c.rows-row-items.ensures

pub loop-i-preserved : goal.loop-i-preserved
loop-i-preserved g c =
    let cells = g.C.Carrier.cells c.args.carrier.now in
    let rows = c.rows-row-items.result.now in
    let within = c.in_ok-check_row.ensures.within in (
      (omega arith, omega arith),
      sym (row_ok row_packet rows cells c.args.first c.loop-i.i _ c.loop-i-test.true _ c.in_ok-check_row.ensures.answer) ∙ c.loop-i.invariant.1,
    )

pub returns : goal.returns
returns g c =
    let cells = g.C.Carrier.cells c.args.carrier.now in
    let rows = c.rows-row-items.result.now in
    let n = length-map rows row_packet in
    let k = c.args.first + c.loop-i.i in
    let same = ap length c.rows-row-items.ensures in
    record {
      answer = sym (at_drop_all (λ v. rows_at k v (drop k cells)) (map row_packet rows) c.loop-i.i (omega arith))
          ∙ c.loop-i.invariant.1
          ∙ ap (λ v. rows_at c.args.first (map row_packet v) (drop c.args.first cells)) c.rows-row-items.ensures;
      within = (omega arith, omega arith);
    }
