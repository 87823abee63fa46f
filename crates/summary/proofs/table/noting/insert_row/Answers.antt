use Rattle.std.proofs.Common.{◌≡◌, ◌∷◌, [], ◌++◌, length, take, insert, sym, ap, ◌∙◌, rules, arith}
use Rattle.std.proofs.lemmas.List.{take_all, take_at, length_push}
use Rattle.std.specs.List.{refill}
use Rattle.arrayvec.proofs.ArrayVecLemmas.{items-with_items}
use Rattle.summary.proofs.table.noting.insert_row.Goals as goal
use Rattle.summary.proofs.table.noting.insert_row.Goals.{After-len}

-- as many rows as before are written back
long : (g : _) (c : After-len g) → length c.shift_in-last.new.rows ≡ length c.args.rows.now.items
long g c = search rules

written : (g : _) (c : After-len g) → refill (length c.args.rows.now.items) c.args.rows.now.items c.shift_in-last.new.rows ≡ c.shift_in-last.new.rows
written g c = items-with_items c.args.rows.now c.shift_in-last.new.rows (long g c)

-- with the row that fell out they are all
all : (g : _) (c : After-len g) → c.shift_in-last.new.rows ++ c.shift_in-last.result ∷ [] ≡ insert c.args.rows.now.items c.args.i c.args.row
all g c = c.shift_in-last.ensures ∙ ap (λ z. insert z c.args.i c.args.row) c.as_mut_slice.ensures.value

pub returns-then-len-lt-ROOM : goal.returns-then-len-lt-ROOM
returns-then-len-lt-ROOM g c =
    let rows = c.shift_in-last.new.rows in
    let last = c.shift_in-last.result in
    c.push.ensures.items
    ∙ ap (λ z. z ++ last ∷ []) (written g c.before.before.before)
    ∙ sym (take_all 64 (rows ++ last ∷ []) (omega (arith, length_push rows last, ap length (written g c.before.before.before))))
    ∙ ap (take 64) (all g c.before.before.before)

pub returns-else-len-lt-ROOM : goal.returns-else-len-lt-ROOM
returns-else-len-lt-ROOM g c =
    let rows = c.shift_in-last.new.rows in
    written g c.before
    ∙ sym (take_at rows (c.shift_in-last.result ∷ []) 64 (omega (arith, ap length (written g c.before))))
    ∙ ap (take 64) (all g c.before)
