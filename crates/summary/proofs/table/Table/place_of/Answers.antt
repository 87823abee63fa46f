use Rattle.std.proofs.Common.{rules}
use Rattle.std.proofs.lemmas.List.Sorted.{answers_always}
use Rattle.summary.specs.Tables.{rows_in}
use Rattle.summary.proofs.Tables.{searched}
use Rattle.summary.proofs.table.Table.place_of.Goals as goal

-- the closure gives a row's key, and the slice has the table's rows
pub returns : goal.returns
returns g c =
    let facts = c.binary_search_by_key.ensures in
    let by_key = facts.position (λ row. row.key) (answers_always _ _ _ (λ f a r g called. search rules)) in
    searched g.K.Key.lt g.met.K.Key.ordered g.K.Ord.cmp g.met.K.Ord.total g.met.K.Key.compares c.args.key.now (rows_in c.args.self.now) c.args.self.now.ascends
    c.binary_search_by_key.result (rw (← c.deref.ensures.0) facts.bound) (rw (← c.deref.ensures.0) by_key)
