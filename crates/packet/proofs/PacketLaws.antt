-- Nine words and thirty-six bytes are one another's inverse.
use Rattle.std.proofs.Common.{◌≡◌, ℕ, zero, suc, ◌+◌, ◌-◌, ◌*◌, ◌/◌, ◌%◌, ◌^◌, ◌<◌, List, [], ◌∷◌, map, length, get_or, sym, refl, ap, ◌∙◌, add-zero, div-one, arith}
use Rattle.std.specs.List.{range_with_len}
use Rattle.std.proofs.lemmas.List.FromFn.{fill_by_all, get_or-map-range_with_len}
use Rattle.std.proofs.lemmas.List.{ext_get_or}
use Rattle.packet.specs.Packets.{number, word, byte, words_of, bytes_of}
use Rattle.packet.specs.Fields.{join, split}
use Rattle.packet.proofs.FieldLaws.{join-split}

pub be_byte : (n j : ℕ) → j < 4 → get_or (n / 16777216 % 256 ∷ n / 65536 % 256 ∷ n / 256 % 256 ∷ n % 256 ∷ []) j 0 ≡ n / 256 ^ (3 - j) % 256
be_byte n zero h = refl
be_byte n (suc zero) h = refl
be_byte n (suc (suc zero)) h = refl
be_byte n (suc (suc (suc zero))) h = ap (λ (m : ℕ). m % 256) (sym (div-one n))
be_byte n (suc (suc (suc (suc j)))) h = absurd (omega arith)

pub bytes_from : (w b : List ℕ) → length b ≡ 36 → ((k : ℕ) → k < 36 → get_or b k 0 ≡ byte w k) → b ≡ bytes_of w
unfolding bytes_of
bytes_from w b n h = fill_by_all (byte w) b 36 0 n h

pub word_number : (b : List ℕ) (k : ℕ) → word b (k + 1) ≡ number b (4 * k)
word_number b k = let e : 4 * (k + 1 - 1) ≡ 4 * k = omega arith in ap (number b) e

pub words_at : (b : List ℕ) (k : ℕ) → k < 9 → get_or (words_of b) k 0 ≡ number b (4 * k)
unfolding words_of
words_at b k l = get_or-map-range_with_len (word b) 1 9 k (k + 1) 0 l (omega arith) ∙ word_number b k

pub words_from : (b w : List ℕ) → length w ≡ 9 → ((k : ℕ) → k < 9 → get_or w k 0 ≡ number b (4 * k)) → w ≡ words_of b
unfolding words_of
words_from b w n h = ext_get_or 0 w (map (word b) (range_with_len 1 9)) n (λ k l. h k (omega arith) ∙ sym (words_at b k (omega arith)))

whole : (n : ℕ) → n < 2 ^ 32 → n / 16777216 % 256 * 16777216 + n / 65536 % 256 * 65536 + n / 256 % 256 * 256 + n / 1 % 256 ≡ n
unfolding join split
whole n h = let e = join-split (8 ∷ 8 ∷ 8 ∷ 8 ∷ []) n in omega arith

digit : (w : List ℕ) (k i j : ℕ) → i < 4 → 4 * k + i ≡ j → byte w j ≡ get_or w k 0 / 256 ^ (3 - i) % 256
unfolding byte
digit w k i j l e =
    let q : j / 4 ≡ k = omega arith in
    let r : j % 4 ≡ i = omega arith in
    simp (q, r)

-- the bytes of nine words give the words back
pub words_back : (w b : List ℕ) → length w ≡ 9 → ((k : ℕ) → get_or w k 0 < 2 ^ 32) → b ≡ bytes_of w → words_of b ≡ w
unfolding bytes_of
words_back w b n h e =
    sym (words_from b w n (λ k l.
    let place : (i j : ℕ) → i < 4 → 4 * k + i ≡ j → get_or b j 0 ≡ get_or w k 0 / 256 ^ (3 - i) % 256 = λ i j m q. ap (λ x. get_or x j 0) e ∙ get_or-map-range_with_len (byte w) 0 36 j j 0 (omega arith) (omega arith) ∙ digit w k i j m q in
    let a0 = place 0 (4 * k) (omega arith) (omega arith) in
    let a1 = place 1 (4 * k + 1) (omega arith) (omega arith) in
    let a2 = place 2 (4 * k + 2) (omega arith) (omega arith) in
    let a3 = place 3 (4 * k + 3) (omega arith) (omega arith) in
    let v = whole (get_or w k 0) (h k) in
    omega arith))

-- byte j of word q is where the packet has it
spread : (b : List ℕ) (q j : ℕ) → ((k : ℕ) → get_or b k 0 < 256) → j < 4 → get_or b (4 * q + j) 0 ≡ number b (4 * q) / 256 ^ (3 - j) % 256
spread b q zero f h = let f0 = f (4 * q) in let f1 = f (4 * q + 1) in let f2 = f (4 * q + 2) in let f3 = f (4 * q + 3) in rw add-zero (omega arith)
spread b q (suc zero) f h = let f0 = f (4 * q) in let f1 = f (4 * q + 1) in let f2 = f (4 * q + 2) in let f3 = f (4 * q + 3) in omega arith
spread b q (suc (suc zero)) f h = let f0 = f (4 * q) in let f1 = f (4 * q + 1) in let f2 = f (4 * q + 2) in let f3 = f (4 * q + 3) in omega arith
spread b q (suc (suc (suc zero))) f h = let f0 = f (4 * q) in let f1 = f (4 * q + 1) in let f2 = f (4 * q + 2) in let f3 = f (4 * q + 3) in omega arith
spread b q (suc (suc (suc (suc j)))) f h = absurd (omega arith)

-- the words of a packet give its bytes back
pub bytes_back : (b w : List ℕ) → length b ≡ 36 → ((k : ℕ) → get_or b k 0 < 256) → w ≡ words_of b → bytes_of w ≡ b
unfolding byte
bytes_back b w n f e =
    sym (bytes_from w b n (λ k h.
    let q : k / 4 < 9 = omega arith in
    let j : k % 4 < 4 = omega arith in
    let d : 4 * (k / 4) + k % 4 ≡ k = omega arith in
    ap (λ (m : ℕ). get_or b m 0) (sym d)
    ∙ spread b (k / 4) (k % 4) f j
    ∙ ap (λ (m : ℕ). m / 256 ^ (3 - k % 4) % 256) (sym (words_at b (k / 4) q) ∙ ap (λ x. get_or x (k / 4) 0) (sym e))))
