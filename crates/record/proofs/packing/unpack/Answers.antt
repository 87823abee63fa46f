use Rattle.std.proofs.Common.{◌≡◌, ◌^◌, ◌<◌, ℕ, length, get_or, sym, ap, ◌∙◌, arith, rules}
use Rattle.std.proofs.lemmas.Result.{MatchResult-weaker}
use Rattle.packet.specs.Packets.{words_of, bytes_of}
use Rattle.packet.proofs.PacketLaws.{words_back}
use Rattle.record.specs.Kinds.{unpacked_by, bad_by, judged}
use Rattle.record.specs.declared.fault.RecordFault.TheVariants.{BadItem}
use Rattle.record.proofs.Forming.{forms, formed_items}
use Rattle.record.proofs.Judging.{judged-plain}
use Rattle.record.proofs.LawfulLaws.{forming, lawful}
use Rattle.record.proofs.packing.unpack.Goals as goal

pub returns : goal.returns
returns g c =
    let p = g.K.Packed in
    let r = g.K.Items in
    let m = g.met.K.Packed in
    let bytes = c.args.packet.now in
    let v = c.words_of.result in
    let e = c.words_of.ensures.words in
    let i = c.of_words.ensures in
    let h = ap r.bad i in
    let read_from : c.of_words.result ≡ p.unpacked (words_of bytes) = i ∙ ap p.unpacked e in
    let n : length v ≡ 9 = search rules in
    let l : (j : ℕ) → get_or v j 0 < 2 ^ 32 = λ j. search rules in
    record {
      found = MatchResult-weaker c.read.result c.read.ensures
          (λ x q. ap bytes_of (ap p.packed (q ∙ i) ∙ m.given v n l) ∙ c.words_of.ensures.back)
          (λ y q. (
            λ x f.
                let z = lawful r p m.back g.met.K.Items.keeps x in
                let w = words_back (p.packed x.items) bytes (m.nine x.items) (m.narrow x.items x.lawful) (sym f) in
                let b = ap (bad_by r p) (sym w ∙ sym e) in
                omega (arith, z, b, h, q.0),
            q.1 ∙ ap (λ w. BadItem c.args.number (r.bad w)) read_from,
          ));
      read = judged-plain c.read.result (unpacked_by r p v) c.args.number (bad_by r p v)
          (λ x q. ap r.bad (sym (formed_items (forming r) x (p.unpacked v) q)) ∙ g.met.K.Items.keeps x.items x.lawful)
          (MatchResult-weaker c.read.result c.read.ensures (λ x q. forms (forming r) x (p.unpacked v) (sym (q ∙ i))) (λ y q. (omega (arith, h, q.0), q.1 ∙ ap (BadItem c.args.number) h)))
          ∙ ap (λ w. judged c.args.number (bad_by r p w) 0 (unpacked_by r p w)) e;
    }
