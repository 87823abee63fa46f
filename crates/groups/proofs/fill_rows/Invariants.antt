use Rattle.groups.proofs.Turns.{Walked}
use Rattle.groups.proofs.fill_rows.Given as goal

abbrev pub invariant-loop-k : goal.invariant-loop-k
invariant-loop-k g l = Walked (g.C.Carrier.cells l.carrier) l.end l.k l.n l.rows l.initial.rows
