use Rattle.std.proofs.Common.{◌≡◌, suc, ◌+◌, ◌-◌, drop, sym, ap, ◌∙◌, add-one, arith, rules}
use Rattle.record.specs.Kinds.{kind_of}
use Rattle.reading.specs.Outcomes.{seen}
use Rattle.reading.specs.Reading.{records}
use Rattle.reading.proofs.Walks.{onto, onto_more, records_on}
use Rattle.reading.proofs.group.walk_records.Goals as goal

pub loop-k-preserved : goal.loop-k-preserved
loop-k-preserved g c =
    let cs = g.C.Carrier.cells c.args.carrier.now in
    let κ = kind_of g.K.Items g.K.Packed g.K.RecordKind in
    let k = c.loop-k.k in
    let o = c.args.owner in
    let x = c.in_ok-found.found in
    let n : k + 1 - c.args.first ≡ k - c.args.first + 1 = omega (arith, c.loop-k.invariant.1) in
    let on = records_on κ o cs k c.loop-k.last c.in_ok-packet.packet (sym c.in_ok-packet.ensures.answer) x (search rules) (sym c.in_ok-found.ensures) (search rules) in
    let rest = records κ o (suc k) (g.K.RecordKind.until x.items) (drop (suc k) cs) in (
      c.loop-k.invariant.0,
      omega (arith, c.loop-k.invariant.1),
      (λ i. seen (onto (n i)) (records κ o (add-one k i) (c.end_time-last.ensures i) (drop (add-one k i) cs)))
          ∙ onto_more (k - c.args.first) x rest
          ∙ ap (seen (onto (k - c.args.first))) (sym on)
          ∙ c.loop-k.invariant.2,
    )
