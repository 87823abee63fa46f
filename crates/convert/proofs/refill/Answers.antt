use Rattle.std.proofs.Common.{◌≡◌, [], ◌++◌, length, drop, ap, rules}
use Rattle.makes.specs.Shapes.{cells_of, outside_of}
use Rattle.convert.specs.Conversion.{Refilled}
use Rattle.convert.proofs.Refills.{cleared_whole, refilled}
use Rattle.convert.proofs.refill.Goals as goal

pub copy_cells-requires-clause-ready : goal.copy_cells-requires-clause-ready
copy_cells-requires-clause-ready g c =
    let sh = g.L.Layout.shape c.args.image.now.layout in
    let t = c.args.image.now.memory.now in
    let u = c.clear.new.self.memory.now in
    let cleared : Refilled sh [] t u = search rules in
    let ready = cleared_whole sh t u cleared in
    let layout = c.clear.ensures.layout in
    cc

pub returns-clause-memory : goal.returns-clause-memory
returns-clause-memory g c =
    let sh = g.L.Layout.shape c.args.image.now.layout in
    let us = g.S.Carrier.cells c.args.source.now in
    let t = c.args.image.now.memory.now in
    let u = c.clear.new.self.memory.now in
    let v = c.copy_cells.new.target.memory.now in
    let cleared : Refilled sh [] t u = search rules in
    let layout = c.clear.ensures.layout in
    let stays = c.copy_cells.ensures.stays in
    let shape = ap (λ k. k.shape) stays in
    let outside = ap (λ k. k.outside) stays in
    let copies = c.copy_cells.ensures.copies in
    let a : cells_of sh v ≡ us ++ drop (length us) (cells_of sh u) = cc in
    let b : outside_of sh v ≡ outside_of sh u = cc in
    refilled sh us t u v _ (search rules) cleared a b
