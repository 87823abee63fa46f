use Rattle.std.proofs.Common.{◌≡◌, drop}
use Rattle.makes.specs.Shapes.{wrong_in}
use Rattle.makes.proofs.image.Image.first_wrong.Given as goal

abbrev pub invariant-loop-place : goal.invariant-loop-place
invariant-loop-place g l = wrong_in (drop l.place-index l.place-items) l.start l.self.memory.now ≡ wrong_in l.place-items l.start l.self.memory.now
