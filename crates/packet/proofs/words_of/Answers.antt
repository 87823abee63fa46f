use Rattle.std.proofs.Common.{◌≡◌, ℕ, ◌+◌, ◌*◌, ◌<◌, get_or, ◌∙◌, rules}
use Rattle.packet.specs.Packets.{word, number, words_of}
use Rattle.packet.proofs.PacketLaws.{word_number, words_from, bytes_back}
use Rattle.packet.proofs.words_of.Goals as goal

pub returns : goal.returns
returns c =
    let p = c.args.packet.now in
    let made = c.from_fn.ensures.items in
    let at : (k : ℕ) → k < 9 → get_or c.from_fn.result k 0 ≡ number p (4 * k) =
    λ k h. let t = made.at k 0 h in let v : get_or c.from_fn.result k 0 ≡ word p (k + 1) = search rules in v ∙ word_number p k in
    let w : c.from_fn.result ≡ words_of p = words_from p c.from_fn.result made.long at in
    record { words = w; back = bytes_back p c.from_fn.result (search rules) (λ k. search rules) w }
