use Rattle.std.proofs.Common.{w64, SFits, rules}
use Rattle.std.proofs.lemmas.Int.{to_z-of_z}
use Rattle.station.specs.RampRules.{bad_ramp}
use Rattle.station.proofs.ramp.kind.RampItemsItems.bad_item.Goals as goal

pub returns-clause-item : goal.returns-clause-item
unfolding bad_ramp
returns-clause-item c =
    let rate : SFits w64 c.args.self.now.rate = search rules in
    let part : SFits w64 c.args.self.now.part = search rules in
    let signed = simp to_z-of_z at c.is_signed32.ensures in
    let pair = simp to_z-of_z at c.is_signed_pair.ensures in
    let station = c.is_within.ensures in
    let end = c.is_ended.ensures in
    simp (← signed, ← pair, ← station, ← end) c.lowest_broken.ensures
