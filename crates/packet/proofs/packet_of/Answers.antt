use Rattle.std.proofs.Common.{◌≡◌, ℕ, ◌<◌, get_or, rules}
use Rattle.packet.specs.Packets.{byte, bytes_of}
use Rattle.packet.proofs.PacketLaws.{bytes_from, words_back}
use Rattle.packet.proofs.packet_of.Goals as goal

pub returns : goal.returns
returns c =
    let w = c.args.words.now in
    let made = c.from_fn.ensures.items in
    let at : (k : ℕ) → k < 36 → get_or c.from_fn.result k 0 ≡ byte w k = λ k h. let t = made.at k 0 h in search rules in
    let b : c.from_fn.result ≡ bytes_of w = bytes_from w c.from_fn.result made.long at in
    record { bytes = b; back = words_back w c.from_fn.result (search rules) (λ k. search rules) b }
