use Rattle.std.proofs.Common.{◌≡◌, ℕ, ◌<◌, false, get_or, map, ap, ◌∙◌, rules}
use Rattle.std.proofs.Math.Nat.{div-one}
use Rattle.std.specs.List.{range_with_len}
use Rattle.std.proofs.lemmas.List.FromFn.{fill_by_all}
use Rattle.record.specs.Rules.{within}
use Rattle.label.proofs.label.text_rules.Goals as goal

pub returns : goal.returns
returns c =
    let at : (k : ℕ) → k < 8 → get_or c.map.result k false ≡ within 0x20 0x7E (get_or c.to_be_bytes.result k 0) = λ k l. let h = c.map.ensures.items.at k 0 false l in search rules in
    rw (div-one c.args.text) (
    fill_by_all (λ k. within 0x20 0x7E (get_or c.to_be_bytes.result k 0)) c.map.result 8 false c.map.ensures.items.long at
    ∙ ap (λ b. map (λ k. within 0x20 0x7E (get_or b k 0)) (range_with_len 0 8)) c.to_be_bytes.ensures)
