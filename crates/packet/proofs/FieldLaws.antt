-- One law for every list of widths: the fields of a number and the number of its fields.
use Rattle.std.proofs.Common.{◌≡◌, ℕ, ◌+◌, ◌*◌, ◌/◌, ◌%◌, ◌^◌, ◌<◌, List, [], ◌∷◌, sym, refl, ap, ◌∙◌, add_assoc, mul_assoc, add-mul, arith}
use native.Mathlib.Nat.{mod-one}
use Rattle.std.proofs.lemmas.Nat.{mod-pow-add, shr_high, mod_low, pow-add, mul-add-lt}
use Rattle.packet.specs.Fields.{total, join, split, Fill}

pub join-split : (ws : List ℕ) (n : ℕ) → join ws (split ws n) ≡ n % 2 ^ total ws
unfolding join split
join-split [] n = sym (mod-one n)
join-split (w ∷ ws) n = ap (λ (m : ℕ). n / 2 ^ total ws % 2 ^ w * 2 ^ total ws + m) (join-split ws n) ∙ sym (mod-pow-add n w (total ws))

pub join_below : (ws vs : List ℕ) → Fill ws vs → join ws vs < 2 ^ total ws
unfolding join split
join_below [] [] h = omega arith
join_below [] (v ∷ vs) h = absurd h
join_below (w ∷ ws) [] h = absurd h
join_below (w ∷ ws) (v ∷ vs) h =
    let k : join ws vs < 2 ^ total ws = join_below ws vs h.1 in
    let m = mul-add-lt v (2 ^ total ws) (join ws vs) (2 ^ w) h.0 k in
    rw pow-add (omega arith)

shift : (k w t v m : ℕ) → k * 2 ^ (w + t) + (v * 2 ^ t + m) ≡ (k * 2 ^ w + v) * 2 ^ t + m
shift k w t v m = rw (pow-add, add-mul, mul_assoc, add_assoc)

above : (ws vs : List ℕ) → Fill ws vs → (k : ℕ) → split ws (k * 2 ^ total ws + join ws vs) ≡ vs
unfolding join split
above [] [] h k = refl
above [] (v ∷ vs) h k = absurd h
above (w ∷ ws) [] h k = absurd h
above (w ∷ ws) (v ∷ vs) h k =
    let b : join ws vs < 2 ^ total ws = join_below ws vs h.1 in
    let p : v < 2 ^ w = h.0 in
    rw (shift k w (total ws) v (join ws vs), above ws vs h.1 (k * 2 ^ w + v), shr_high (k * 2 ^ w + v) (total ws) (join ws vs) b, mod_low k w v p)

pub split-join : (ws vs : List ℕ) → Fill ws vs → split ws (join ws vs) ≡ vs
split-join ws vs h = ap (split ws) (omega arith) ∙ above ws vs h 0
