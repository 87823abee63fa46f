use Rattle.std.proofs.Common.{◌≡◌, ℕ, ◌++◌, take, drop, set, Ok, sym, ap, ◌∙◌, arith}
use Rattle.carrier.specs.Cells.{cell_at, reply, filled, holds}
use Rattle.carrier.proofs.Rows.{whole_at, stored_ok}
use Rattle.convert.proofs.Copies.{copied_at, copied_more}
use Rattle.convert.proofs.copy_cells.Goals as goal

pub returns-in_err-get : goal.returns-in_err-get
returns-in_err-get g c =
    let us = g.S.Carrier.cells c.args.source.now in
    let k = c.loop-k.k in
    let w = whole_at 0 us k c.requires.whole (omega arith) in
    let a = c.in_err-get.ensures.answer ∙ ap (reply k) w.1 in
    let z : ◌≡◌ {A = ℕ} 0 1 = cc in
    absurd (omega arith)

pub returns-in_err-put : goal.returns-in_err-put
returns-in_err-put g c =
    let us = g.S.Carrier.cells c.args.source.now in
    let vs = g.T.Carrier.cells c.args.target.now in
    let k = c.loop-k.k in
    let w = whole_at 0 vs k c.requires.ready (omega (arith, c.requires.room)) in
    let here = ap (λ x. cell_at x k) c.loop-k.invariant.0 ∙ copied_at us vs k (omega arith) ∙ w.1 in
    let a = c.in_err-put.ensures.answer ∙ ap (reply k) here in
    let z : ◌≡◌ {A = ℕ} 0 1 = cc in
    absurd (omega arith)

pub loop-k-preserved : goal.loop-k-preserved
loop-k-preserved g c =
    let us = g.S.Carrier.cells c.args.source.now in
    let vs = g.T.Carrier.cells c.args.target.now in
    let ds = g.T.Carrier.cells c.loop-k.target in
    let k = c.loop-k.k in
    let w = whole_at 0 us k c.requires.whole (omega arith) in
    let p : c.get.new.packet ≡ w.0 = c.get.ensures.fills ∙ ap (λ x. filled x c.loop-k.packet) w.1 in
    let ok : reply k (cell_at ds k) ≡ Ok tt = sym c.in_ok-put.ensures.answer in (
      c.put.ensures.stores
          ∙ stored_ok ds k c.get.new.packet ok
          ∙ ap (λ x. set x k (holds c.get.new.packet)) c.loop-k.invariant.0
          ∙ ap (λ x. set (take k us ++ drop k vs) k (holds x)) p
          ∙ copied_more us vs k (holds w.0) (omega arith) (omega (arith, c.requires.room)) w.1,
      c.put.ensures.stays ∙ c.loop-k.invariant.1,
    )
