-- The identifier is the one packet of which no character differs.
use Rattle.std.proofs.Common.{◌≡◌, ℕ, zero, suc, ◌+◌, ◌<◌, ◌≤◌, ◌≢◌, Bool, true, false, not, eqb, List, [], ◌∷◌, length, get_or, Some, None, position, sym, refl, ap, ◌∙◌, arith, lit<, le_of_suc-le-suc, not-suc-le-zero}
use Rattle.std.proofs.lemmas.List.FromFn.{get_or-map-range_with_len}
use Rattle.std.proofs.lemmas.List.{ext_get_or}
use Rattle.std.proofs.lemmas.Bool.{eqb-true, eqb-false, eq-eqb, not-true, not-false}
use Rattle.std.proofs.lemmas.Bool.Decides.{nat_tests}
use Rattle.std.proofs.lemmas.List.Quantifiers.{position-Some}
use Rattle.std.proofs.lemmas.List.Sums.{fails_before_first}
use Rattle.std.proofs.lemmas.Slice.Zip.{length-zip, get_or-zip}
use Rattle.std.specs.List.{zip, position_or_len}
use Rattle.record.specs.Rules.{lowest}
use Rattle.record.proofs.Lowest.{kept}
use Rattle.label.specs.Identifiers.{identifier, same_character, same_characters, bad_identifier}

pub same : (p : List ℕ) → length p ≡ 36 → bad_identifier p ≡ 0 → p ≡ identifier
unfolding bad_identifier
same p n e =
    ext_get_or 0 p identifier n (λ k h.
    let l : k < 36 = omega arith in
    eqb-true (get_or p k 0) (get_or identifier k 0) (sym (get_or-map-range_with_len (same_character p) 0 36 k k true l (omega arith)) ∙ kept 1 (same_characters p) (lit< tt) e k l))

pub none : bad_identifier identifier ≡ 0
unfolding bad_identifier
none = refl

-- the lowest broken rule is the first, counted from i, that is not kept
lowest_at : (i n : ℕ) (bs : List Bool) → n < length bs → get_or bs n true ≡ false → ((k : ℕ) → k < n → get_or bs k true ≡ true) → lowest i bs ≡ i + n
lowest_at i n [] l e h = absurd (not-suc-le-zero l)
lowest_at i zero (false ∷ bs) l e h = omega arith
lowest_at i zero (true ∷ bs) l e h = cc
lowest_at i (suc n) (false ∷ bs) l e h = let f = h 0 (omega arith) in cc
lowest_at i (suc n) (true ∷ bs) l e h = let m = lowest_at (suc i) n bs (le_of_suc-le-suc l) e (λ k q. h (suc k) (omega arith)) in omega arith

-- a packet and the identifier, character by character
abbrev differ : ℕ × ℕ → Bool
differ pair = not (eqb pair.0 pair.1)

abbrev pairs : List ℕ → List (ℕ × ℕ)
pairs p = zip p identifier

module _ (p : List ℕ) (long : length p ≡ 36) where
  pair_at : (k : ℕ) → k < 36 → get_or (pairs p) k (0, 0) ≡ (get_or p k 0, get_or identifier k 0)
  pair_at k l = get_or-zip p identifier k (0, 0) (omega arith) l

  alike : (k : ℕ) → k < 36 → differ (get_or (pairs p) k (0, 0)) ≡ false → get_or p k 0 ≡ get_or identifier k 0
  alike k l e = eqb-true _ _ (not-false _ (ap differ (sym (pair_at k l)) ∙ e))

  -- a packet of which no character differs
  pub all_alike : None ≡ position differ (pairs p) → p ≡ identifier
  all_alike e =
      let n : length (pairs p) ≡ 36 = rw (length-zip p identifier, long) in
      let none : 36 ≤ position_or_len differ (pairs p) = grind (arith, nat_tests) in
      ext_get_or 0 p identifier long (λ k l. alike k (omega arith) (fails_before_first differ (pairs p) k (0, 0) (omega arith)))

  -- the first character that differs is the lowest, counted from 1
  pub first_differs : (n : ℕ) → Some n ≡ position differ (pairs p) → (n < 36) × (p ≢ identifier) × (n + 1 ≡ bad_identifier p)
  unfolding bad_identifier
  first_differs n e =
      let at = position-Some differ (pairs p) n (0, 0) (sym e) in
      let long_pairs : length (pairs p) ≡ 36 = rw (length-zip p identifier, long) in
      let l : n < 36 = omega arith in
      let other : eqb (get_or p n 0) (get_or identifier n 0) ≡ false = not-true _ (ap differ (sym (pair_at n l)) ∙ at.1) in
      let rule = λ (k : ℕ) (b : k < 36). get_or-map-range_with_len (same_character p) 0 36 k k true b (omega arith) in
      let broken : get_or (same_characters p) n true ≡ false = rule n l ∙ other in
      let before : (k : ℕ) → k < n → get_or (same_characters p) k true ≡ true = λ k b. rule k (omega arith) ∙ eq-eqb _ _ (alike k (omega arith) (at.2 k b)) in
      let lowest_is = lowest_at 1 n (same_characters p) l broken before in
      (l, (λ q. eqb-false _ _ other (ap (λ v. get_or v n 0) q)), omega arith)
