use Rattle.std.proofs.Common.{drop}
use Rattle.record.specs.Kinds.{plain}
use Rattle.label.specs.Labels.{unpacked, bad}
use Rattle.reading.proofs.Walks.{data_at_lem}
use Rattle.reading.proofs.opening.read_label.Goals as goal

pub returns : goal.returns
returns g c = data_at_lem (plain unpacked bad) 1 (drop 1 (g.C.Carrier.cells c.args.carrier.now)) _ _ c.in_ok-packet.ensures c.in_ok-unpack.ensures.read
