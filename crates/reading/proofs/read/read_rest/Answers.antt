use Rattle.std.proofs.Common.{◌≡◌, ◌+◌, ◌-◌, length, Err, sym, ap, ◌∙◌, arith, rules}
use Rattle.std.proofs.lemmas.Result.{err_from_is_err_and}
use Rattle.odf.specs.declared.fault.FileFault.TheVariants.{Ended}
use Rattle.reading.specs.Outcomes.{seen}
use Rattle.reading.specs.Walking.{walked}
use Rattle.reading.proofs.Reports.{walked_into, walked_out, walked_on}
use Rattle.reading.proofs.read.read_rest.Goals as goal

pub loop-turn-init : goal.loop-turn-init
loop-turn-init g c =
    let cs = g.C.Carrier.cells c.args.carrier.now in
    let all : length cs - 0 ≡ length cs = omega arith in
    (c.count-turn-end.ensures.answer, λ i. walked (all i) (c.start-walk.ensures i) cs)

pub returns-in_err-walk : goal.returns-in_err-walk
returns-in_err-walk g c =
    let cs = g.C.Carrier.cells c.args.carrier.now in
    let i = c.loop-turn.invariant in
    let p = err_from_is_err_and c.from_residual.result c.from_residual.ensures.1 in
    p.1 ∙ ap Err p.2 ∙ walked_into c.loop-turn.walk cs _ (length cs - (c.loop-turn._turn + 1)) (omega (arith, i.0)) _ c.in_err-walk.ensures ∙ i.1

pub returns-in_err-check_filler : goal.returns-in_err-check_filler
returns-in_err-check_filler g c =
    let cs = g.C.Carrier.cells c.args.carrier.now in
    let i = c.loop-turn.invariant in
    let p = err_from_is_err_and c.from_residual-in_err-check_filler.result c.from_residual-in_err-check_filler.ensures.1 in
    p.1 ∙ ap Err p.2 ∙ ap (seen (λ _. c.walk.inside.report)) c.in_err-check_filler.ensures ∙ walked_out c.loop-turn.walk cs _ (length cs - (c.loop-turn._turn + 1)) (omega (arith, i.0)) _ _ c.walk.view_is c.in_ok-walk.ensures (search rules) ∙ i.1

pub returns-then-eq : goal.returns-then-eq
returns-then-eq g c =
    let cs = g.C.Carrier.cells c.args.carrier.now in
    let i = c.loop-turn.invariant in
    ap (seen (λ _. c.walk.inside.report)) c.in_ok-check_filler.ensures ∙ walked_out c.loop-turn.walk cs _ (length cs - (c.loop-turn._turn + 1)) (omega (arith, i.0)) _ _ c.walk.view_is c.in_ok-walk.ensures (search rules) ∙ i.1

pub loop-turn-preserved : goal.loop-turn-preserved
loop-turn-preserved g c =
    let cs = g.C.Carrier.cells c.args.carrier.now in
    let i = c.loop-turn.invariant in
    (i.0, walked_on c.loop-turn.walk cs _ (length cs - (c.loop-turn._turn + 1)) (omega (arith, i.0)) _ c.in_ok-walk.ensures (λ e. search rules) ∙ i.1)

pub returns : goal.returns
returns g c =
    let cs = g.C.Carrier.cells c.args.carrier.now in
    let i = c.loop-turn.invariant in
    let none : length cs - c.loop-turn._turn ≡ 0 = omega (arith, i.0) in
    ap (λ w. Err (Ended w.report.end)) c.walk-2.view_is ∙ sym (ap (λ v. walked v c.loop-turn.walk cs) none) ∙ i.1
