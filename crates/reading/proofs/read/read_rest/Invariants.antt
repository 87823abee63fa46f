use Rattle.std.proofs.Common.{◌≡◌, ◌-◌, length}
use Rattle.reading.specs.Walking.{start, walked}
use Rattle.reading.proofs.read.read_rest.Given as goal

abbrev pub invariant-loop-turn : goal.invariant-loop-turn
invariant-loop-turn g l =
    let cs = g.C.Carrier.cells l.carrier in
    (l._turn-end ≡ length cs) × (walked (length cs - l._turn) l.walk cs ≡ walked (length cs) (start l.initial.orbits) cs)
