use Rattle.std.proofs.Common.{◌≡◌, sym, ap, ◌∙◌}
use Rattle.packet.specs.Packets.{words_of, bytes_of, header_like}
use Rattle.packet.proofs.PacketLaws.{words_back}
use Rattle.record.proofs.Data.{no_header}
use Rattle.record.specs.Kinds.{unpacked_by}
use Rattle.record.proofs.LawfulLaws.{read_back, apart}
use Rattle.record.proofs.packing.pack.Goals as goal

pub returns : goal.returns
returns g c =
    let p = g.K.Packed in
    let r = g.K.Items in
    let m = g.met.K.Packed in
    let x = c.args.from.now in
    let v = c.packet_of.result in
    let b : v ≡ bytes_of (p.packed x.items) = c.packet_of.ensures.bytes ∙ ap bytes_of c.to_words.ensures in
    let w : words_of v ≡ p.packed x.items = c.packet_of.ensures.back ∙ c.to_words.ensures in
    record {
      bytes = b;
      headless = ap header_like b ∙ no_header (p.packed x.items) (m.nine x.items) (m.narrow x.items x.lawful) (m.headless x.items x.lawful);
      back = ap (unpacked_by r p) w ∙ read_back r p m.back x;
      apart = λ y q. apart r p m.back y x (sym (words_back (p.packed y.items) v (m.nine y.items) (m.narrow y.items y.lawful) (sym q)) ∙ w);
    }
