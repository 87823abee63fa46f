use Rattle.std.proofs.Common.{◌≡◌, ◌≤◌, length, ap, ◌∙◌, arith}
use Rattle.std.proofs.lemmas.Result.{err_from_is_err_and}
use Rattle.carrier.specs.Cells.{first_damage}
use Rattle.makes.specs.Names.{shape_of}
use Rattle.makes.specs.Shapes.{count_for, cells_of}
use Rattle.makes.proofs.Rows.{length_cells}
use Rattle.convert.proofs.Refills.{answer_damage}
use Rattle.odfcopy.proofs.convert_carrier.Goals as goal

pub returns-in_err-packets : goal.returns-in_err-packets
returns-in_err-packets g c =
    let p = err_from_is_err_and c.from_residual-in_err-packets.result c.from_residual-in_err-packets.ensures.1 in
    let sh = shape_of c.args.make in
    let us = g.S.Carrier.cells c.args.source.now in
    let t = c.as_mut_slice.result.now in
    let long : length t ≡ c.converted_length.result = c.as_mut_slice.ensures.len ∙ c.in_ok-memory.ensures.len in
    let cells : length (cells_of sh t) ≡ count_for sh c.converted_length.result = length_cells sh t ∙ ap (count_for sh) long in
    let room : length us ≤ length (cells_of sh t) = omega (arith, cells, c.converted_length.ensures.enough) in
    rw (p.1, p.2) (answer_damage (length us) (length (cells_of sh t)) _ (first_damage 0 us) room c.in_err-packets.ensures.answers)
