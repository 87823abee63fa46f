use Rattle.std.proofs.Common.{take, sym, ap, ◌∙◌}
use Rattle.std.proofs.lemmas.List.{take_all}
use Rattle.orbit.specs.Orbits.{instant}
use Rattle.summary.specs.Rows.{note_of}
use Rattle.summary.specs.Tables.{rows_in}
use Rattle.summary.proofs.recount.note_record.Goals as goal

pub returns-in_default : goal.returns-in_default
returns-in_default g c =
    let rows = rows_in c.args.table.now in
    sym (take_all 64 rows c.args.table.now.within)
    ∙ ap (λ z. take 64 (note_of g.K.Key.lt z (instant c.args.orbit.now) rows)) (sym c.in_default.is ∙ c.key_above.ensures)
