use Rattle.std.proofs.Common.{◌≡◌, ◌+◌, ◌-◌, min, [], length, take, drop, sym, ap, ◌∙◌, arith, rules}
use Rattle.std.proofs.lemmas.List.{take_all}
use Rattle.summary.specs.Found.{orbits_in}
use Rattle.summary.specs.Rows.{noted, over, total_of}
use Rattle.summary.specs.Tables.{rows_in}
use Rattle.summary.proofs.FoundLaws.{clipped}
use Rattle.summary.proofs.Laws.{recount}
use Rattle.summary.proofs.Passes.{seen, note_in, seen_more, total-seen}
use Rattle.summary.proofs.recount.lowest_rows.Goals as goal
use Rattle.summary.proofs.recount.lowest_rows.Goals.{in-Some, in_default}

pub loop-k-init : goal.loop-k-init
unfolding noted over orbits_in
loop-k-init g c =
    let s = c.min-start.result in
    let e : s - s ≡ 0 = omega arith in
    c.clear.ensures ∙ rw e

pub note_record-requires : goal.note_record-requires
note_record-requires g c =
    let h = total-seen g.K.Key.lt g.K.Key.keyed c.args.above (g.C.Carrier.cells c.args.carrier.now) c.min-start.result c.loop-k.k in
    let e = ap total_of c.loop-k.invariant in
    (search rules, omega arith)

-- the turn, by what the cell holds
turn : (g : _) (c : goal.Joined-orbit_at g) →
    seen g.K.Key.lt g.K.Key.keyed c.args.above (g.C.Carrier.cells c.args.carrier.now) c.min-start.result (c.loop-k.k + 1)
    ≡ take 64 (note_in g.K.Key.lt g.K.Key.keyed c.args.above c.orbit_at.result (rows_in c.loop-k.table))
turn g c =
    let lt = g.K.Key.lt in
    let of = g.K.Key.keyed in
    let cells = g.C.Carrier.cells c.args.carrier.now in
    seen_more lt of g.met.K.Key.ordered c.args.above cells c.min-start.result c.loop-k.k (omega arith) (omega arith)
    ∙ ap (λ z. take 64 (note_in lt of c.args.above z (seen lt of c.args.above cells c.min-start.result c.loop-k.k))) (sym c.orbit_at.ensures)
    ∙ ap (λ z. take 64 (note_in lt of c.args.above c.orbit_at.result z)) (sym c.loop-k.invariant)

pub loop-k-preserved : goal.loop-k-preserved
loop-k-preserved g c =
    let lt = g.K.Key.lt in
    let of = g.K.Key.keyed in
    let rows = rows_in c.loop-k.table in
    elim c.match-orbit_at.branch [
      | in-Some w ↦
          ap (λ z. rows_in z) w.table-is ∙ w.note_record.ensures ∙ ap (λ z. take 64 (note_in lt of c.args.above z rows)) (sym w.in-Some.is) ∙ sym (turn g c)
      | in_default w ↦
          ap (λ z. rows_in z) w.table-is
          ∙ sym (take_all 64 rows c.loop-k.table.within)
          ∙ ap (λ z. take 64 (note_in lt of c.args.above z rows)) (sym w.in_default.is)
          ∙ sym (turn g c)
    ]

pub returns : goal.returns
returns g c =
    let lt = g.K.Key.lt in
    let of = g.K.Key.keyed in
    let cells = g.C.Carrier.cells c.args.carrier.now in
    let s = c.min-start.result in
    let n = c.loop-k.k - s in
    let end : c.loop-k.k ≡ s + c.min.result = omega (arith, c.loop-k.auto.k-end, c.loop-k-test.false) in
    let long = c.count-cells.ensures.answer in
    let start : s ≡ min c.args.from (length cells) = c.min-start.ensures ∙ ap (min c.args.from) long in
    let rest : n ≡ min c.args.count (length cells - s) = omega (arith, c.min.ensures) in
    let all : take n (drop s cells) ≡ take c.args.count (drop c.args.from cells) = clipped cells c.args.from c.args.count s n start rest in
    record {
      rows = c.loop-k.invariant ∙ ap (λ z. take 64 (over lt c.args.above (noted lt of (orbits_in z) []))) all;
      laws = recount lt of g.met.K.Key.ordered _;
    }
