use Rattle.std.proofs.Common.{◌∙◌, w32}
use Rattle.std.proofs.lemmas.Int.{to_z-of_z}
use Rattle.label.proofs.HeaderLaws.{read}
use Rattle.label.proofs.header.HeaderFromRefPacket.from.Goals as goal

pub returns : goal.returns
returns c =
    read c.args.packet.now c.words_of.result _ c.words_of.ensures.words
    (to_z-of_z w32 c.cast_signed.result (record { sfits = c.cast_signed.type_inv }) ∙ c.cast_signed.ensures)
