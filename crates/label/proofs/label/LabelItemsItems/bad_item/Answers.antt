use Rattle.std.proofs.Common.{◌≡◌, ◌||◌, eqb, [], ◌∷◌, ◌∙◌, arith}
use Rattle.std.proofs.lemmas.Bool.Decides.{nat_tests}
use Rattle.record.specs.Rules.{broken, lowest}
use Rattle.label.specs.LabelRules.{bad_label}
use Rattle.label.specs.LabelLaws.{eight}
use Rattle.label.proofs.label.LabelItemsItems.bad_item.Goals as goal

pub returns-clause-item : goal.returns-clause-item
unfolding bad_label
returns-clause-item c =
    let i = c.args.self.now in
    let system = c.text_rules.ensures in
    let program = c.text_rules-2.ensures in
    let spacecraft = c.is_within-spacecraft.ensures in
    let date = c.is_date-date.ensures in
    let time = c.is_time-time.ensures in
    let refdate : c.if-refdate-eq0.refdate ≡ (eqb i.refdate 0 || eqb i.refdate 19500101) = grind (arith, nat_tests) in
    let named : c.lowest_broken.result ≡ broken (bad_label i) = c.lowest_broken.ensures ∙ (λ k. broken (lowest 1 (eight (system k) (eight (program k) (spacecraft k ∷ date k ∷ time k ∷ refdate k ∷ eqb i.reftime 0 ∷ []))))) in
    cc
