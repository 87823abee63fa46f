use Rattle.std.proofs.Common.{◌≡◌, false, is_err, sym, ap, ◌∙◌}
use Rattle.std.specs.Result.{result_ok}
use Rattle.carrier.specs.Cells.{cell_at, reply}
use Rattle.summary.proofs.FoundLaws.{found}
use Rattle.summary.proofs.recount.orbit_at.Goals as goal

pub returns : goal.returns
returns g c =
    let cell = cell_at (g.C.Carrier.cells c.args.carrier.now) c.args.k in
    let e : is_err (reply c.args.k cell) ≡ false = ap is_err (sym c.get.ensures.answer) ∙ sym c.is_err.ensures.value ∙ c.if-is_err.false in
    c.ok.ensures.value
    ∙ ap result_ok c.unpack.ensures.read
    ∙ found c.args.k cell c.get.new.packet _ e c.get.ensures.fills (sym c.is_header_like.ensures ∙ c.if-is_header_like.false)
