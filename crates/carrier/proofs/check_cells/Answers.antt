use Rattle.std.proofs.Common.{sym, ◌∙◌, add-one, arith}
use Rattle.std.proofs.lemmas.List.{at_drop_all}
use Rattle.std.proofs.lemmas.Result.{err_from_is_err_and}
use Rattle.carrier.specs.Cells.{first_damage}
use Rattle.carrier.proofs.Rows.{damage_stop, damage_more}
use Rattle.carrier.proofs.check_cells.Goals as goal

pub returns-in_err-get : goal.returns-in_err-get
returns-in_err-get g c =
    let p = err_from_is_err_and c.from_residual.result c.from_residual.ensures.1 in
    let cs = g.C.Carrier.cells c.args.carrier.now in
    rw (p.1, p.2) (sym (damage_stop c.loop-k.k cs c.loop-k.k _ (omega arith) (sym c.in_err-get.ensures.answer)) ∙ c.loop-k.invariant)

pub loop-k-preserved : goal.loop-k-preserved
loop-k-preserved g c =
    let cs = g.C.Carrier.cells c.args.carrier.now in
    rw add-one (damage_more c.loop-k.k cs c.loop-k.k (sym c.in_ok-get.ensures.answer) ∙ c.loop-k.invariant)

pub returns : goal.returns
returns g c =
    let cs = g.C.Carrier.cells c.args.carrier.now in
    sym (at_drop_all (first_damage c.loop-k.k) cs c.loop-k.k (omega arith)) ∙ c.loop-k.invariant
