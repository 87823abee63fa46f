use Rattle.std.proofs.Common.{◌≡◌, ◌∷◌, ◌++◌, length, take, drop, insert}
use Rattle.summary.proofs.table.noting.shift_in.Given as goal

abbrev pub invariant-loop-j : goal.invariant-loop-j
invariant-loop-j g l =
    (length l.rows ≡ length l.initial.rows)
    × (take l.j l.rows ++ l.carried ∷ drop l.j l.rows ≡ insert l.initial.rows l.fn.i l.initial.carried)
