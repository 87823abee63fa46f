-- The words of a header's packet.
use Rattle.std.proofs.Common.{◌≡◌, ℕ, zero, suc, ◌*◌, ◌^◌, ◌<◌, ◌≤◌, Bool, true, eqb, List, [], ◌∷◌, length, get_or, ℤ, Some, None, Ok, Err, sym, refl, ap, ◌∙◌, inl, inr, arith, lit<, w32, SFits, to_z, of_z}
use Rattle.std.proofs.lemmas.List.FromFn.{length-map-range_with_len, get_or-map-range_with_len}
use Rattle.std.proofs.lemmas.List.{get_or_past}
use Rattle.std.proofs.lemmas.Int.{to_z-of_z, of_z-to_z, ints}
use Rattle.std.proofs.lemmas.Bool.{and_from, and_parts, eq-eqb, eqb-true, le-leb, leb-true, cases_lt}
use Rattle.packet.specs.Packets.{number, word, byte, words_of, bytes_of, header_like}
use Rattle.packet.proofs.PacketLaws.{words_at, words_back, bytes_back}
use Rattle.record.specs.Rules.{broken, lowest, within}
use Rattle.record.specs.declared.fault.RecordFault.TheVariants.{BadItem}
use Rattle.record.proofs.Lowest.{kept}
use Rattle.record.proofs.Words.{Each, each_at}
use Rattle.label.specs.Headers.{header_words, header_of, bad_header, headed_by, headed, header_packet}
use Rattle.label.specs.declared.header.Header.{Header}

-- word k of a packet, counted from 0
pub place : (p w : List ℕ) → w ≡ words_of p → (k : ℕ) → k < 9 → get_or w k 0 ≡ number p (4 * k)
place p w e k h = ap (λ v. get_or v k 0) e ∙ words_at p k h

pub like : (h : Header) (p : List ℕ) → header_words h ≡ words_of p → header_like p ≡ true
unfolding header_words
like h p e = and_from _ _ (eq-eqb _ 0 (sym (place p (header_words h) e 4 (lit< tt)))) (eq-eqb _ 0 (sym (place p (header_words h) e 5 (lit< tt))))

pub read : (p w : List ℕ) (key : ℤ) → w ≡ words_of p → key ≡ to_z w32 (get_or w 0 0) → ◌≡◌ {A = Header} (record { key = key; secondary = get_or w 1 0; length = get_or w 2 0; packet = get_or w 3 0 }) (header_of p)
unfolding header_of
read p w key e f =
    let first = f ∙ ap (to_z w32) (place p w e 0 (lit< tt)) in
    λ k. record { key = first k; secondary = place p w e 1 (lit< tt) k; length = place p w e 2 (lit< tt) k; packet = place p w e 3 (lit< tt) k }

pub back : (h : Header) (p : List ℕ) → SFits w32 h.key → header_words h ≡ words_of p → header_of p ≡ h
unfolding header_words
back h p f e = sym (read p (header_words h) h.key e (sym (to_z-of_z w32 h.key f)))

-- the answer about a header, by the words of its packet
pub answer : (p w : List ℕ) (least most len k : ℕ) (b : Bool) (r : ℕ) → w ≡ words_of p → b ≡ within least most (get_or w 1 0) → r ≡ lowest 2 (b ∷ eqb (get_or w 2 0) len ∷ eqb (get_or w 3 0) k ∷ true ∷ true ∷ eqb (get_or w 6 0) 0 ∷ eqb (get_or w 7 0) 0 ∷ eqb (get_or w 8 0) 0 ∷ []) → headed_by r k (get_or w 1 0) ≡ headed least most len k p
unfolding bad_header
answer p w least most len k b r e f g =
    let at = place p w e in
    let first = f ∙ ap (within least most) (at 1 (lit< tt)) in
    let all : r ≡ bad_header least most len k p = g ∙ (λ i. lowest 2 (first i ∷ eqb (at 2 (lit< tt) i) len ∷ eqb (at 3 (lit< tt) i) k ∷ true ∷ true ∷ eqb (at 6 (lit< tt) i) 0 ∷ eqb (at 7 (lit< tt) i) 0 ∷ eqb (at 8 (lit< tt) i) 0 ∷ [])) in
    λ i. headed_by (all i) k (at 1 (lit< tt) i)

pub accepts : (bad k s : ℕ) → None ≡ broken bad → Ok s ≡ headed_by bad k s
accepts zero k s e = refl
accepts (suc i) k s e = cc

pub refuses : (bad item k s : ℕ) → Some item ≡ broken bad → Err (BadItem k item) ≡ headed_by bad k s
refuses zero item k s e = cc
refuses (suc i) item k s e = let same : item ≡ suc i = cc in ap (λ (n : ℕ). Err (BadItem k n)) same

-- any packet of words is of 36 bytes
pub bytes_long : (ws : List ℕ) → length (bytes_of ws) ≡ 36
unfolding bytes_of
bytes_long ws = length-map-range_with_len (byte ws) 0 36

pub bytes_below : (ws : List ℕ) (j : ℕ) → get_or (bytes_of ws) j 0 < 256
unfolding byte bytes_of
bytes_below ws j =
    elim (cases_lt j 36) [
      | inl l ↦ let e = get_or-map-range_with_len (byte ws) 0 36 j j 0 l (omega arith) in omega arith
      | inr l ↦ let n = length-map-range_with_len (byte ws) 0 36 in let e = get_or_past (bytes_of ws) j 0 (omega arith) in omega arith
    ]

pub header_whole : (key : ℤ) (s len k : ℕ) → (length (header_packet key s len k) ≡ 36) × ((j : ℕ) → get_or (header_packet key s len k) j 0 < 256)
header_whole key s len k = (bytes_long _, bytes_below _)

-- a header that is not refused
headed_by_lem : (bad k s t : ℕ) → headed_by bad k s ≡ Ok t → (bad ≡ 0) × (s ≡ t)
headed_by_lem zero k s t h = (refl, cc)
headed_by_lem (suc i) k s t h = let z : ◌≡◌ {A = ℕ} 0 1 = cc in absurd (omega arith)

abbrev rules : (least most len k : ℕ) (p : List ℕ) → List Bool
rules least most len k p = within least most (word p 2) ∷ eqb (word p 3) len ∷ eqb (word p 4) k ∷ true ∷ true ∷ eqb (word p 7) 0 ∷ eqb (word p 8) 0 ∷ eqb (word p 9) 0 ∷ []

held : (least most len k s : ℕ) (p : List ℕ) → headed least most len k p ≡ Ok s → (i : ℕ) → i < 8 → get_or (rules least most len k p) i true ≡ true
unfolding bad_header
held least most len k s p h i l = kept 2 (rules least most len k p) (lit< tt) (headed_by_lem _ k _ s h).0 i l

-- its secondary key lies within the bounds
pub headed-within : (least most len k s : ℕ) (p : List ℕ) → headed least most len k p ≡ Ok s → (least ≤ s) × (s ≤ most)
headed-within least most len k s p h =
    let e : word p 2 ≡ s = (headed_by_lem _ k _ s h).1 in
    let w = and_parts _ _ (held least most len k s p h 0 (lit< tt)) in
    let a : least ≤ word p 2 = leb-true _ _ w.0 in
    let b : word p 2 ≤ most = leb-true _ _ w.1 in
    (omega arith, omega arith)

-- and it is the packet of its header
pub headed_is : (key : ℤ) (least most len k s : ℕ) (p : List ℕ) → length p ≡ 36 → ((j : ℕ) → get_or p j 0 < 256) → header_like p ≡ true → to_z w32 (word p 1) ≡ key → headed least most len k p ≡ Ok s → p ≡ header_packet key s len k
unfolding header_words words_of
headed_is key least most len k s p n f hl ek h =
    let first : of_z w32 key ≡ word p 1 = ap (of_z w32) (sym ek) ∙ of_z-to_z w32 (word p 1) (let a = f 0 in let b = f 1 in let c = f 2 in let d = f 3 in omega arith) in
    let at = held least most len k s p h in
    let z = and_parts _ _ hl in
    let e2 = sym (headed_by_lem _ k _ s h).1 in
    let e3 = sym (eqb-true _ _ (at 1 (lit< tt))) in
    let e4 = sym (eqb-true _ _ (at 2 (lit< tt))) in
    let e5 = sym (eqb-true _ _ z.0) in
    let e6 = sym (eqb-true _ _ z.1) in
    let e7 = sym (eqb-true _ _ (at 5 (lit< tt))) in
    let e8 = sym (eqb-true _ _ (at 6 (lit< tt))) in
    let e9 = sym (eqb-true _ _ (at 7 (lit< tt))) in
    sym (bytes_back p _ n f (λ i. first i ∷ e2 i ∷ e3 i ∷ e4 i ∷ e5 i ∷ e6 i ∷ e7 i ∷ e8 i ∷ e9 i ∷ []))

-- the words of a header's packet
key_below : (z : ℤ) → SFits w32 z → of_z w32 z < 2 ^ 32
key_below z f = let m = f.sfits in grind (arith, ints)

packet_words : (key : ℤ) (s len k : ℕ) → SFits w32 key → s < 2 ^ 32 → len < 2 ^ 32 → k < 2 ^ 32 → header_words (record { key = key; secondary = s; length = len; packet = k }) ≡ words_of (header_packet key s len k)
unfolding header_words
packet_words key s len k f a b c =
    let w = header_words (record { key = key; secondary = s; length = len; packet = k }) in
    let each : Each w = (key_below key f, (a, (b, (c, (lit< tt, (lit< tt, (lit< tt, (lit< tt, (lit< tt, tt))))))))) in
    sym (words_back w (header_packet key s len k) refl (each_at w each) refl)

pub header_like_lem : (key : ℤ) (s len k : ℕ) → SFits w32 key → s < 2 ^ 32 → len < 2 ^ 32 → k < 2 ^ 32 → header_like (header_packet key s len k) ≡ true
header_like_lem key s len k f a b c = like _ _ (packet_words key s len k f a b c)

pub header_key : (key : ℤ) (s len k : ℕ) → SFits w32 key → s < 2 ^ 32 → len < 2 ^ 32 → k < 2 ^ 32 → to_z w32 (word (header_packet key s len k) 1) ≡ key
unfolding header_words
header_key key s len k f a b c =
    ap (to_z w32) (sym (place _ _ (packet_words key s len k f a b c) 0 (lit< tt))) ∙ to_z-of_z w32 key f

pub headed_back : (key : ℤ) (least most s len k : ℕ) → SFits w32 key → s < 2 ^ 32 → len < 2 ^ 32 → k < 2 ^ 32 → least ≤ s → s ≤ most → headed least most len k (header_packet key s len k) ≡ Ok s
unfolding header_words bad_header
headed_back key least most s len k f a b c l m =
    let at = place (header_packet key s len k) _ (packet_words key s len k f a b c) in
    let e2 = sym (at 1 (lit< tt)) in
    let t2 = and_from _ _ (le-leb least s l) (le-leb s most m) in
    let t3 = eq-eqb _ _ (sym (at 2 (lit< tt))) in
    let t4 = eq-eqb _ _ (sym (at 3 (lit< tt))) in
    let t7 = eq-eqb _ _ (sym (at 6 (lit< tt))) in
    let t8 = eq-eqb _ _ (sym (at 7 (lit< tt))) in
    let t9 = eq-eqb _ _ (sym (at 8 (lit< tt))) in
    let w2 = ap (within least most) e2 ∙ t2 in
    (λ i. headed_by (lowest 2 (w2 i ∷ t3 i ∷ t4 i ∷ true ∷ true ∷ t7 i ∷ t8 i ∷ t9 i ∷ [])) k (e2 i))
