use Rattle.std.proofs.Common.{◌≡◌, ℕ, ◌<◌, length, get_or}
use Rattle.packet.specs.Packets.{filler}
use Rattle.carrier.specs.Cells.{holds}
use Rattle.makes.specs.Shapes.{Apart, cell_of}
use Rattle.makes.proofs.image_mut.ImageMut.clear.Given as goal

abbrev pub invariant-loop-k : goal.invariant-loop-k
invariant-loop-k g l =
    ((i : ℕ) → i < l.k → cell_of (g.L.Layout.shape l.initial.self.layout) l.self.memory.now i ≡ holds filler)
    × ((j : ℕ) → ((i : ℕ) → i < l.k → Apart (g.L.Layout.shape l.initial.self.layout) i j) → get_or l.self.memory.now j 0 ≡ get_or l.initial.self.memory.now j 0)
    × (length l.self.memory.now ≡ length l.initial.self.memory.now)
    × (l.self.memory.ghost_name ≡ l.initial.self.memory.ghost_name)
    × (l.self.layout ≡ l.initial.self.layout)
