use Rattle.std.proofs.Common.{◌≡◌, ◌++◌, take, drop}
use Rattle.convert.proofs.copy_cells.Given as goal

abbrev pub invariant-loop-k : goal.invariant-loop-k
invariant-loop-k g l =
    (g.T.Carrier.cells l.target ≡ take l.k (g.S.Carrier.cells l.source) ++ drop l.k (g.T.Carrier.cells l.initial.target))
    × (g.T.WritingCarrier.kept l.target ≡ g.T.WritingCarrier.kept l.initial.target)
