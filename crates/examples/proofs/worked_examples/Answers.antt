use Rattle.std.proofs.Common.{refl}
use Rattle.packet.specs.Fields.{join}
use Rattle.packet.specs.Packets.{byte, bytes_of}
use Rattle.orbit.specs.OrbitRules.{orbit_rules, bad_orbit}
use Rattle.orbit.specs.OrbitWords.{orbit_words}
use Rattle.orbit.specs.Types.{class_at}
use Rattle.station.specs.RampRules.{ramp_words}
use Rattle.examples.specs.Table.{examples}
use Rattle.examples.proofs.Rows.{same, test, tested}
use Rattle.examples.proofs.worked_examples.Goals as goal

pub returns : goal.returns
unfolding examples test same join byte bytes_of orbit_rules bad_orbit orbit_words class_at ramp_words
returns c = record { hold = tested examples refl; number = refl }
