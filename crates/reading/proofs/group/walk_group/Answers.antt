use Rattle.std.proofs.Common.{Err, ap, ◌∙◌, rules}
use Rattle.std.proofs.lemmas.Result.{err_from_is_err_and}
use Rattle.record.specs.Kinds.{kind_of}
use Rattle.reading.proofs.Walks.{owner_of_lem, grouped_err, grouped_few, grouped_ok}
use Rattle.reading.proofs.group.walk_group.Goals as goal

pub returns-in_err-records-clause-answer : goal.returns-in_err-records-clause-answer
returns-in_err-records-clause-answer g c =
    let κ = kind_of g.K.Items g.K.Packed g.K.RecordKind in
    let s = c.in_ok-secondary.secondary in
    let own = owner_of_lem c.args.owner s _ _ c.unwrap_or-owner.ensures c.from.ensures in
    let p = err_from_is_err_and c.from_residual-in_err-records.result c.from_residual-in_err-records.ensures.1 in
    p.1 ∙ ap Err p.2 ∙ grouped_err κ g.K.RecordKind.KEY g.K.RecordKind.LEAST _ _ c.args.bounds c.args.owner (g.C.Carrier.cells c.args.carrier.now) c.args.at s c.KEY.ensures c.in_ok-secondary.ensures.answer own _ c.in_err-records.ensures.answer

pub returns-then-records-LEAST-clause-answer : goal.returns-then-records-LEAST-clause-answer
returns-then-records-LEAST-clause-answer g c =
    let κ = kind_of g.K.Items g.K.Packed g.K.RecordKind in
    let s = c.in_ok-secondary.secondary in
    let own = owner_of_lem c.args.owner s _ _ c.unwrap_or-owner.ensures c.from.ensures in
    grouped_few κ g.K.RecordKind.KEY g.K.RecordKind.LEAST _ _ c.args.bounds c.args.owner (g.C.Carrier.cells c.args.carrier.now) c.args.at s c.KEY.ensures c.in_ok-secondary.ensures.answer own _ c.in_ok-records.ensures.answer (search rules)

pub returns-clause-answer : goal.returns-clause-answer
returns-clause-answer g c =
    let κ = kind_of g.K.Items g.K.Packed g.K.RecordKind in
    let s = c.in_ok-secondary.secondary in
    let own = owner_of_lem c.args.owner s _ _ c.unwrap_or-owner.ensures c.from.ensures in
    grouped_ok κ g.K.RecordKind.KEY g.K.RecordKind.LEAST _ _ c.args.bounds c.args.owner (g.C.Carrier.cells c.args.carrier.now) c.args.at s c.KEY.ensures c.in_ok-secondary.ensures.answer own _ c.in_ok-records.ensures.answer (search rules)
