use Rattle.std.proofs.Common.{◌∙◌, w64}
use Rattle.std.proofs.lemmas.Int.{to_z-of_z}
use Rattle.orbit.specs.OrbitLaws.{taken}
use Rattle.orbit.proofs.orbit.packing.OrbitItemsPacked.of_words.Goals as goal

pub returns : goal.returns
returns c =
    let w = c.args.words.now in
    rw (c.from.ensures, c.from-date.ensures, c.from-link.ensures) (
    taken w c.joined-middle.result c.joined-last.result _ _ _
    c.joined-middle.ensures
    c.joined-last.ensures
    (to_z-of_z w64 c.number_of.result (record { sfits = c.number_of.type_inv }) ∙ c.number_of.ensures)
    (to_z-of_z w64 c.number_of-2.result (record { sfits = c.number_of-2.type_inv }) ∙ c.number_of-2.ensures)
    (to_z-of_z w64 c.signed20.result (record { sfits = c.signed20.type_inv }) ∙ c.signed20.ensures))
