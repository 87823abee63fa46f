use Rattle.std.proofs.Common.{sym, ap, ◌∙◌}
use Rattle.record.specs.Kinds.{judged, unpacked_by, bad_by}
use Rattle.record.proofs.Forming.{forms}
use Rattle.record.proofs.Judging.{judged-own, no_item}
use Rattle.record.proofs.LawfulLaws.{forming}
use Rattle.record.proofs.packing.unpack_owned.Goals as goal

pub returns-in-Ok-None : goal.returns-in-Ok-None
returns-in-Ok-None g c =
    let p = g.K.Packed in
    let r = g.K.Items in
    let q = c.in-Ok-None.ensures ∙ c.of_words-items.ensures in
    let u = forms (forming r) c.in-Ok-None.own (p.unpacked c.words_of.result) (sym q) in
    let f = no_item _ (sym c.foreign_item.ensures ∙ c.in-Ok-None.is-1) in
    judged-own _ _ c.args.number _ _ (ap (g.K.RecordKind.foreign c.args.owner) (sym c.of_words-items.ensures) ∙ f) u
    ∙ ap (λ w. judged c.args.number (bad_by r p w) (g.K.RecordKind.foreign c.args.owner (p.unpacked w)) (unpacked_by r p w)) c.words_of.ensures.words
