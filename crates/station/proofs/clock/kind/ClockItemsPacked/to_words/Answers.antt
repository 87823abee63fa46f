use Rattle.std.proofs.Common.{◌≡◌, w32, of_z, arith}
use Rattle.std.proofs.lemmas.Int.{to_z-of_z}
use Rattle.station.specs.ClockRules.{clock_words}
use Rattle.station.specs.ClockLaws.{holds}
use Rattle.station.proofs.clock.kind.ClockItemsPacked.to_words.Goals as goal

pub returns : goal.returns
unfolding clock_words
returns c =
    let i = c.args.from.now.items in
    let h = holds c.args.from.now in
    let offset : c.word_of.result ≡ of_z w32 i.offset = grind (arith, to_z-of_z) in
    let part : c.word_of-2.result ≡ of_z w32 i.part = grind (arith, to_z-of_z) in
    cc
