use Rattle.std.proofs.Common.{rules}
use Rattle.makes.proofs.Clears.{cells_const}
use Rattle.makes.proofs.image_mut.ImageMut.clear.Goals as goal

pub returns-clause-cells : goal.returns-clause-cells
returns-clause-cells g c = cells_const _ _ _ c.loop-k.invariant.2 (λ i l. c.loop-k.invariant.0 i (search rules))
