use Rattle.std.proofs.Common.{eqb, [], ◌∷◌, ◌∙◌, lit<}
use Rattle.record.specs.Rules.{broken, lowest}
use Rattle.label.specs.Headers.{bad_spare}
use Rattle.label.proofs.HeaderLaws.{place}
use Rattle.label.proofs.header.spare_item.Goals as goal

pub returns : goal.returns
unfolding bad_spare
returns c =
    let at = place c.args.packet.now c.words_of-words.result c.words_of-words.ensures.words in
    c.lowest_broken.ensures ∙ (λ k. broken (lowest 7 (eqb (at 6 (lit< tt) k) 0 ∷ eqb (at 7 (lit< tt) k) 0 ∷ eqb (at 8 (lit< tt) k) 0 ∷ [])))
