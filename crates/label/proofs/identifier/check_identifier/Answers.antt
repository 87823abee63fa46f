use Rattle.std.proofs.Common.{ap, arith}
use Rattle.record.specs.declared.fault.RecordFault.TheVariants.{BadItem}
use Rattle.label.proofs.IdentifierLaws.{all_alike, first_differs}
use Rattle.label.proofs.identifier.check_identifier.Goals as goal

pub returns-in-None : goal.returns-in-None
returns-in-None c = all_alike c.args.packet.now c.told-packet c.in-None.ensures

pub overflow_add-result : goal.overflow_add-result
overflow_add-result c = let f = first_differs c.args.packet.now c.told-packet c.in-Some.place c.in-Some.ensures in omega arith

pub returns-in-Some : goal.returns-in-Some
returns-in-Some c =
    let f = first_differs c.args.packet.now c.told-packet c.in-Some.place c.in-Some.ensures in
    (f.1, ap (BadItem c.args.number) f.2)
