use Rattle.std.proofs.Common.{◌≡◌, w32, of_z, arith}
use Rattle.std.proofs.lemmas.Int.{to_z-of_z}
use Rattle.station.specs.RampRules.{ramp_words}
use Rattle.station.specs.RampLaws.{holds}
use Rattle.station.proofs.ramp.kind.RampItemsPacked.to_words.Goals as goal

pub returns : goal.returns
unfolding ramp_words
returns c =
    let i = c.args.from.now.items in
    let h = holds c.args.from.now in
    let rate : c.word_of.result ≡ of_z w32 i.rate = grind (arith, to_z-of_z) in
    let part : c.word_of-2.result ≡ of_z w32 i.part = grind (arith, to_z-of_z) in
    cc
