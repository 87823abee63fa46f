use Rattle.std.proofs.Common.{length, Err, ap, ◌∙◌, arith}
use Rattle.std.proofs.lemmas.Result.{err_from_is_err_and}
use Rattle.groups.proofs.Outcomes.{Found, found_few, found_ready, too_few, refused}
use Rattle.groups.proofs.groups.Given as given
use Rattle.groups.proofs.groups.Goals as goal
use Rattle.groups.proofs.groups.Goals.{In_ok-report}

-- what was read
read_file : (g : given.Over) (c : goal.In_ok-report g) → Found (g.C.Carrier.cells c.args.carrier.now) c.in_ok-report.report
read_file g c = let f = c.in_ok-report.ensures.file in record { contents = f.0; read = f.1.0; file = f.1.1; told = f.1.2 }

pub returns-in_err-report : goal.returns-in_err-report
returns-in_err-report g c =
    let p = err_from_is_err_and c.from_residual.result c.from_residual.ensures.1 in
    let r = refused (g.C.Carrier.cells c.args.carrier.now) _ (length c.args.rows.now) c.args.rows.now c.in_err-report.ensures.answer in
    record { answer = p.1 ∙ ap Err p.2 ∙ r.0; shows = r.1 }

pub count_groups-requires : goal.count_groups-requires
count_groups-requires g c = found_few _ _ (read_file g (goal.at.count_groups-requires g c).In_ok-report)

pub returns-then-rows-count_groups : goal.returns-then-rows-count_groups
returns-then-rows-count_groups g c =
    let e = too_few _ _ c.args.rows.now (read_file g (goal.at.returns-then-rows-count_groups g c).In_ok-report) (omega arith) in
    record { answer = e.0; shows = e.1 }

pub fill_rows-requires : goal.fill_rows-requires
fill_rows-requires g c = found_ready _ _ _ (read_file g (goal.at.fill_rows-requires g c).In_ok-report) (omega arith)
