use Rattle.reading.proofs.Theorem.{telling}
use Rattle.reading.proofs.read.read_both.Goals as goal

pub returns-clause-law : goal.returns-clause-law
returns-clause-law g c =
    let a = c.in_ok-first.ensures in
    let b = c.in_ok-second.ensures in
    telling (g.C.Carrier.cells c.args.one.now) (g.D.Carrier.cells c.args.other.now) _ _ a.few b.few a.file b.file
