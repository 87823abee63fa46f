use Rattle.std.proofs.Common.{◌≡◌, ◌-◌, ◌≤◌, length, drop}
use Rattle.record.specs.Kinds.{kind_of}
use Rattle.reading.specs.Outcomes.{seen}
use Rattle.reading.specs.Reading.{records}
use Rattle.reading.proofs.Walks.{onto}
use Rattle.reading.proofs.group.walk_records.Given as goal

abbrev pub invariant-loop-k : goal.invariant-loop-k
invariant-loop-k g l =
    let cs = g.C.Carrier.cells l.carrier in
    let κ = kind_of g.K.Items g.K.Packed g.K.RecordKind in
    (l.k-end ≡ length cs) × (l.initial.first ≤ l.k) × (seen (onto (l.k - l.initial.first)) (records κ l.initial.owner l.k l.last (drop l.k cs)) ≡ seen length (records κ l.initial.owner l.initial.first 0 (drop l.initial.first cs)))
