use Rattle.std.proofs.Common.{◌≡◌, length, drop}
use Rattle.reading.specs.Reading.{filler_at}
use Rattle.reading.proofs.cells.check_filler.Given as goal

abbrev pub invariant-loop-k : goal.invariant-loop-k
invariant-loop-k g l = let cs = g.C.Carrier.cells l.carrier in (l.k-end ≡ length cs) × (filler_at l.k (drop l.k cs) ≡ filler_at l.initial.first (drop l.initial.first cs))
