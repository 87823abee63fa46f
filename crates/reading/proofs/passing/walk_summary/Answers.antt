use Rattle.std.proofs.Common.{Err, ap, ◌∙◌}
use Rattle.std.proofs.lemmas.Result.{err_from_is_err_and}
use Rattle.reading.specs.Walking.{rows_over}
use Rattle.reading.proofs.Walks.{summary_wrong, summary_open, summary_done}
use Rattle.reading.proofs.passing.walk_summary.Goals as goal

pub returns-in_err-rows-clause-answer : goal.returns-in_err-rows-clause-answer
returns-in_err-rows-clause-answer g c =
    let cs = g.C.Carrier.cells c.args.carrier.now in
    let p = err_from_is_err_and c.from_residual-in_err-rows.result c.from_residual-in_err-rows.ensures.1 in
    p.1 ∙ ap Err p.2 ∙ summary_wrong (rows_over c.args.orbits cs) cs c.args.at _ c.in_ok-header_at.ensures.answer _ c.in_err-rows.ensures.answer

pub returns-in_err-check_end_behind-clause-answer : goal.returns-in_err-check_end_behind-clause-answer
returns-in_err-check_end_behind-clause-answer g c =
    let cs = g.C.Carrier.cells c.args.carrier.now in
    let p = err_from_is_err_and c.from_residual-in_err-check_end_behind.result c.from_residual-in_err-check_end_behind.ensures.1 in
    p.1 ∙ ap Err p.2 ∙ summary_open (rows_over c.args.orbits cs) cs c.args.at _ c.in_ok-header_at.ensures.answer _ _ c.in_ok-rows.ensures.answer c.in_err-check_end_behind.ensures

pub returns-clause-answer : goal.returns-clause-answer
returns-clause-answer g c =
    let cs = g.C.Carrier.cells c.args.carrier.now in
    summary_done (rows_over c.args.orbits cs) cs c.args.at _ c.in_ok-header_at.ensures.answer _ _ c.in_ok-rows.ensures.answer c.in_ok-check_end_behind.ensures
