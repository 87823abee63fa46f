use Rattle.std.proofs.Common.{◌≡◌, true, sym, ap, ◌∙◌}
use Rattle.std.proofs.lemmas.Bool.{cond-true, both_ways}
use Rattle.packet.specs.Packets.{bytes_of, header_like}
use Rattle.record.specs.Kinds.{bad_by}
use Rattle.record.proofs.Data.{no_header}
use Rattle.odf.specs.Picking.{pick_fault}
use Rattle.odf.proofs.pick.pick.Goals as goal

pub returns-then-is_header_like : goal.returns-then-is_header_like
returns-then-is_header_like g c =
    let k = g.K.Packed in
    let m = g.met.K.Packed in
    let p = c.in_ok-packet.packet in
    let held = c.in_ok-packet.ensures in
    let yes' : header_like p ≡ true = sym c.if-is_header_like.ensures in (
      sym (ap (pick_fault (bad_by g.K.Items k) c.args.k) held ∙ cond-true _ _ _ yes'),
      λ x e.
          let q : p ≡ bytes_of (k.packed x.items) = cc in
          both_ways (header_like p) (ap header_like q ∙ no_header (k.packed x.items) (m.nine x.items) (m.narrow x.items x.lawful) (m.headless x.items x.lawful)) yes',
    )
