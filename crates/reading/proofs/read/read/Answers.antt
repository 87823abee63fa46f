use Rattle.std.proofs.Common.{Err, ap, ◌∙◌}
use Rattle.std.proofs.lemmas.Result.{err_from_is_err_and}
use Rattle.reading.proofs.Theorem.{judged, answer_label, answer_orbits, answer_rest}
use Rattle.reading.proofs.read.read.Goals as goal

pub returns-in_err-label : goal.returns-in_err-label
returns-in_err-label g c =
    let cs = g.C.Carrier.cells c.args.carrier.now in
    let carried = c.in_err-label.ensures.carried in
    let p = err_from_is_err_and c.from_residual.result c.from_residual.ensures.1 in
    let a = p.1 ∙ ap Err p.2 ∙ answer_label cs _ c.in_err-label.ensures.answer in
    record { answer = a; file = judged cs _ carried.whole carried.few a; few = carried.few }

pub returns-in_err-orbits : goal.returns-in_err-orbits
returns-in_err-orbits g c =
    let cs = g.C.Carrier.cells c.args.carrier.now in
    let carried = c.in_ok-label.ensures.carried in
    let p = err_from_is_err_and c.from_residual-in_err-orbits.result c.from_residual-in_err-orbits.ensures.1 in
    let a = p.1 ∙ ap Err p.2 ∙ answer_orbits cs c.in_ok-label.label _ c.in_ok-label.ensures.answer c.spacecraft_of.ensures _ c.in_err-orbits.ensures.answer in
    record { answer = a; file = judged cs _ carried.whole carried.few a; few = carried.few }

pub returns : goal.returns
returns g c =
    let cs = g.C.Carrier.cells c.args.carrier.now in
    let carried = c.in_ok-label.ensures.carried in
    let a = c.read_rest.ensures ∙ answer_rest cs c.in_ok-label.label _ c.in_ok-label.ensures.answer c.spacecraft_of.ensures _ carried.whole c.in_ok-orbits.ensures.answer in
    record { answer = a; file = judged cs _ carried.whole carried.few a; few = carried.few }
