use Rattle.std.proofs.Common.{◌≡◌, ◌≤◌, length, take, set, length-set, get_or, sym, ap, ◌∙◌, subst, rules, arith}
use Rattle.std.proofs.lemmas.List.{take_all, length-take}
use Rattle.std.specs.List.{insert, refill}
use Rattle.arrayvec.proofs.ArrayVecLemmas.{items-with_items}
use Rattle.summary.specs.Rows.{more, note, Ascends}
use Rattle.summary.specs.Tables.{rows_in}
use Rattle.summary.proofs.Laws.{ascends_note}
use Rattle.summary.proofs.Tables.{note_at, note_gap, ascends-take, count_total}
use Rattle.summary.proofs.table.Table.note.Goals as goal

pub one_more-requires : goal.one_more-requires
one_more-requires g c =
    let rows = rows_in c.args.self.now in
    let d = c.index-deref-i.result in
    let h = count_total rows c.in-Ok.i d c.in-Ok.ensures.found.in_range in
    let e : d ≡ get_or rows c.in-Ok.i d = c.index-deref-i.is ∙ ap (λ z. get_or z c.in-Ok.i d) c.deref.ensures.0 in
    omega (arith, ap (λ z. z.count) e)

-- the rows as they are written back
written : (g : _) (c : goal.After-self-1 g) →
    refill (length (rows_in c.args.self.now)) (rows_in c.args.self.now) (set c.deref_mut.result.now c.in-Ok.i c.one_more.result) ≡ set (rows_in c.args.self.now) c.in-Ok.i c.one_more.result
written g c =
    items-with_items c.args.self.now.rows (set c.deref_mut.result.now c.in-Ok.i c.one_more.result) (search rules)
    ∙ ap (λ z. set z c.in-Ok.i c.one_more.result) c.deref_mut.ensures.value

-- a record more in the key's row
merged : (g : _) (c : goal.After-self-1 g) → set (rows_in c.args.self.now) c.in-Ok.i c.one_more.result ≡ note g.K.Key.lt c.args.key c.args.time (rows_in c.args.self.now)
merged g c =
    let rows = rows_in c.args.self.now in
    let i = c.in-Ok.i in
    let d = c.index-deref-i.result in
    let e : d ≡ get_or rows i d = c.index-deref-i.is ∙ ap (λ z. get_or z i d) c.deref.ensures.0 in
    ap (λ z. set rows i z) (c.one_more.ensures ∙ ap (more c.args.time) e)
    ∙ sym (note_at g.K.Key.lt g.met.K.Key.ordered c.args.key c.args.time rows i d c.in-Ok.ensures.found)

pub invariant_of-self : goal.invariant_of-self
invariant_of-self g c =
    let rows = rows_in c.args.self.now in
    record {
      within = rw (written g c, length-set) c.args.self.now.within;
      ascends = subst (Ascends g.K.Key.lt) (sym (written g c ∙ merged g c)) (ascends_note g.K.Key.lt g.met.K.Key.ordered c.args.key c.args.time rows c.args.self.now.ascends);
    }

pub returns-in-Ok : goal.returns-in-Ok
returns-in-Ok g c =
    let rows = rows_in c.args.self.now in
    let short : length (set rows c.in-Ok.i c.one_more.result) ≤ 64 = rw length-set c.args.self.now.within in
    written g c.before ∙ sym (take_all 64 _ short) ∙ ap (take 64) (merged g c.before)

-- a fresh row in the gap; of 64 rows the last falls out
inserted : (g : _) (c : goal.After-insert_row g) → c.insert_row.new.rows.items ≡ take 64 (note g.K.Key.lt c.args.key c.args.time (rows_in c.args.self.now))
inserted g c =
    let rows = rows_in c.args.self.now in
    let i = c.in-Err.i in
    c.insert_row.ensures
    ∙ ap (λ z. take 64 (insert rows i z)) c.fresh_row.ensures
    ∙ ap (take 64) (sym (note_gap g.K.Key.lt g.met.K.Key.ordered c.args.key c.args.time rows i c.in-Err.ensures.absent))

pub invariant_of-self-in-Err : goal.invariant_of-self-in-Err
invariant_of-self-in-Err g c =
    let rows = rows_in c.args.self.now in
    record {
      within = rw (inserted g c, length-take) (omega arith);
      ascends = subst (Ascends g.K.Key.lt) (sym (inserted g c)) (ascends-take g.K.Key.lt 64 _ (ascends_note g.K.Key.lt g.met.K.Key.ordered c.args.key c.args.time rows c.args.self.now.ascends));
    }

pub returns-in-Err : goal.returns-in-Err
returns-in-Err g c = inserted g c.before
