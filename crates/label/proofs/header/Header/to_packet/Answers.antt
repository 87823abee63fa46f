use Rattle.std.proofs.Common.{◌≡◌, [], ◌∷◌, sym, ap, ◌∙◌, rules}
use Rattle.packet.specs.Packets.{bytes_of, words_of}
use Rattle.label.specs.Headers.{header_words}
use Rattle.label.proofs.HeaderLaws.{like, back}
use Rattle.label.proofs.header.Header.to_packet.Goals as goal

pub returns : goal.returns
unfolding header_words
returns c =
    let h = c.args.self.now in
    let p = c.packet_of.result in
    let same : c.cast_unsigned.result ∷ h.secondary ∷ h.length ∷ h.packet ∷ 0 ∷ 0 ∷ 0 ∷ 0 ∷ 0 ∷ [] ≡ header_words h = search rules in
    let words : header_words h ≡ words_of p = sym (c.packet_of.ensures.back ∙ same) in
    record { bytes = c.packet_of.ensures.bytes ∙ ap bytes_of same; header = like h p words; back = back h p (search rules) words }
