use Rattle.std.proofs.Common.{◌≡◌, ◌+◌, ◌<◌, pos, sym, arith, w32, to_z, of_z, rules}
use Rattle.groups.specs.Groups.{row_of}
use Rattle.groups.proofs.Turns.{Walked, ready_never, walk_start, header_room, header_turn, data_some, data_few, data_turn, walk_end}
use Rattle.groups.proofs.fill_rows.Given as given
use Rattle.groups.proofs.fill_rows.Goals as goal
use Rattle.groups.proofs.fill_rows.Goals.{then-is_header_like, else-is_header_like, Joined-is_header_like}

pub loop-k-init : goal.loop-k-init
loop-k-init g c = walk_start _ _ _ c.requires

pub returns-in_err-packet : goal.returns-in_err-packet
returns-in_err-packet g c = let f = c.in_err-packet.ensures in ready_never _ _ _ _ c.requires f.0 f.1 (omega arith)

pub bounds-rows-n : goal.bounds-rows-n
bounds-rows-n g c = header_room _ _ _ _ _ _ (omega arith) c.loop-k.invariant (omega arith) _ c.in_ok-packet.ensures (sym c.if-is_header_like.ensures)

pub overflow_sub-rows : goal.overflow_sub-rows
overflow_sub-rows g c = data_some _ _ _ _ _ _ c.loop-k.invariant (omega arith) _ c.in_ok-packet.ensures (sym c.if-is_header_like.ensures)

pub overflow_add-rows : goal.overflow_add-rows
overflow_add-rows g c =
    let o = data_some _ _ _ _ _ _ c.loop-k.invariant (omega arith) _ c.in_ok-packet.ensures (sym c.if-is_header_like.ensures) in
    let f = data_few _ _ _ _ _ _ (row_of (pos 0) 0 0 0) c.loop-k.invariant o in
    record { fits = omega arith }

-- the walk behind packet k
turned : (g : given.Over) (c : goal.Joined-is_header_like g) → Walked (g.C.Carrier.cells c.args.carrier.now) c.args.end (c.loop-k.k + 1) c.if-is_header_like.n c.if-is_header_like.rows c.args.rows.now
turned g c =
    let inside : c.loop-k.k < c.args.end + 1 = omega arith in
    elim c.if-is_header_like.branch [
      | then-is_header_like w ↦
          let q : to_z w32 (of_z w32 w.from-header.result.key) ≡ w.from-header.result.key = search rules in
          rw (w.rows-is, w.n-is, q, w.from-header.ensures) (header_turn _ _ _ _ _ _ (omega arith) c.loop-k.invariant inside _ c.in_ok-packet.ensures (sym w.if-is_header_like.ensures))
      | else-is_header_like w ↦
          rw (w.rows-is, w.n-is) (data_turn _ _ _ _ _ _ (row_of (pos 0) 0 0 0) c.loop-k.invariant inside _ c.in_ok-packet.ensures (sym w.if-is_header_like.ensures))
    ]

pub loop-k-preserved : goal.loop-k-preserved
loop-k-preserved g c = turned g (goal.at.loop-k-preserved g c).Joined-is_header_like

pub returns-after-is_header_like : goal.returns-after-is_header_like
returns-after-is_header_like g c =
    let e = walk_end _ _ _ _ _ _ (omega arith) (turned g (goal.at.returns-after-is_header_like g c).Joined-is_header_like) (omega arith) in
    record { answer = e.0; shows = e.1 }
