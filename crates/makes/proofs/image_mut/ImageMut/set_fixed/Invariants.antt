use Rattle.std.proofs.Common.{◌≡◌, ℕ, ◌+◌, ◌<◌, ◌≢◌, length, get_or}
use Rattle.makes.proofs.image_mut.ImageMut.set_fixed.Given as goal

abbrev pub invariant-loop-place : goal.invariant-loop-place
invariant-loop-place g l =
    ((i : ℕ) → i < l.place-index → get_or l.self.memory.now (l.start + (get_or l.place-items i (0, 0)).0) 0 ≡ (get_or l.place-items i (0, 0)).1)
    × ((j : ℕ) → ((i : ℕ) → i < l.place-index → l.start + (get_or l.place-items i (0, 0)).0 ≢ j) → get_or l.self.memory.now j 0 ≡ get_or l.initial.self.memory.now j 0)
    × (length l.self.memory.now ≡ length l.initial.self.memory.now)
    × (l.self.memory.ghost_name ≡ l.initial.self.memory.ghost_name)
    × (l.self.layout ≡ l.initial.self.layout)
