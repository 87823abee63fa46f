use Rattle.std.proofs.Common.{◌≡◌, drop}
use Rattle.carrier.specs.Cells.{first_damage}
use Rattle.carrier.proofs.check_cells.Given as goal

abbrev pub invariant-loop-k : goal.invariant-loop-k
invariant-loop-k g l = first_damage l.k (drop l.k (g.C.Carrier.cells l.carrier)) ≡ first_damage 0 (g.C.Carrier.cells l.carrier)
