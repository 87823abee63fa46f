-- The rows that a table has.
use Rattle.std.specs.Prelude.{List}
use Rattle.summary.specs.declared.table.Row.{Row}
use Rattle.summary.specs.declared.table.Table.{Table}

-- in order; the arguments in braces are the members of `Key` and of the traits above it
abbrev pub rows_in : {K : Type 0} {key : _} {default : _} {cmp : _} {eq : _} {partial_cmp : _} → Table K key default cmp eq partial_cmp → List (Row K)
rows_in t = t.rows.items
