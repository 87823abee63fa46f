-- Nine words of which the fifth and sixth are not both zero make no header-like packet.
use Rattle.std.proofs.Common.{◌≡◌, ℕ, ◌^◌, ◌<◌, false, List, length, get_or, sym, refl, ap, ◌∙◌, inl, inr, lit<}
use Rattle.std.proofs.lemmas.Bool.{cases_eq, and_left, and_right, ne_eqb}
use Rattle.packet.specs.Packets.{word, words_of, bytes_of, header_like}
use Rattle.packet.proofs.PacketLaws.{words_at, words_back}

pub no_header : (ws : List ℕ) → length ws ≡ 9 → ((k : ℕ) → get_or ws k 0 < 2 ^ 32) → (get_or ws 4 0 ≡ 0 → get_or ws 5 0 ≡ 0 → ⊥) → header_like (bytes_of ws) ≡ false
no_header ws n h d =
    let p = bytes_of ws in
    let same : words_of p ≡ ws = words_back ws p n h refl in
    let five : get_or ws 4 0 ≡ word p 5 = ap (λ v. get_or v 4 0) (sym same) ∙ words_at p 4 (lit< tt) in
    let six : get_or ws 5 0 ≡ word p 6 = ap (λ v. get_or v 5 0) (sym same) ∙ words_at p 5 (lit< tt) in
    elim (cases_eq (word p 5) 0) [
      | inl e ↦ and_right _ _ (ne_eqb _ _ (λ f. d (five ∙ e) (six ∙ f)))
      | inr m ↦ and_left _ _ (ne_eqb _ _ m)
    ]
