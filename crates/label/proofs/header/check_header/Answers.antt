use Rattle.std.proofs.Common.{◌∙◌, refl, rules}
use Rattle.label.proofs.HeaderLaws.{answer, accepts, refuses}
use Rattle.label.proofs.header.check_header.Goals as goal

pub returns-in-None : goal.returns-in-None
returns-in-None c =
    accepts _ c.args.number _ c.in-None.ensures
    ∙ answer c.args.packet.now c.words_of-items.result c.args.least c.args.most c.args.length c.args.number _ _ c.words_of-items.ensures.words (search rules) refl

pub returns-in-Some : goal.returns-in-Some
returns-in-Some c =
    refuses _ c.in-Some.item c.args.number _ c.in-Some.ensures
    ∙ answer c.args.packet.now c.words_of-items.result c.args.least c.args.most c.args.length c.args.number _ _ c.words_of-items.ensures.words (search rules) refl
