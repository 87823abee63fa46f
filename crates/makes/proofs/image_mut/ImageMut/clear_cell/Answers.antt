use Rattle.std.proofs.Common.{rules}
use Rattle.makes.proofs.Rows.{beside_put_mid, part_put_mid}
use Rattle.makes.proofs.Clears.{cleared_kept}
use Rattle.makes.proofs.image_mut.ImageMut.clear_cell.Goals as goal

pub returns-clause-kept : goal.returns-clause-kept
returns-clause-kept g c =
    cleared_kept (g.L.Layout.shape c.args.self.now.layout) (g.met.L.Layout.sound c.args.self.now.layout) c.args.k c.place_of-place.result c.args.self.now.memory.now c.set_fixed.new.self.memory.now _ (search rules) (search rules) (search (rules, beside_put_mid)) (search (rules, part_put_mid))
