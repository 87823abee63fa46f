use Rattle.std.proofs.Common.{◌≡◌}
use Rattle.summary.specs.Tables.{rows_in}
use Rattle.summary.proofs.Passes.{seen}
use Rattle.summary.proofs.recount.lowest_rows.Given as goal

abbrev pub invariant-loop-k : goal.invariant-loop-k
invariant-loop-k g l = rows_in l.table ≡ seen g.K.Key.lt g.K.Key.keyed l.above (g.C.Carrier.cells l.carrier) l.start l.k
