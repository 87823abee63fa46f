-- The rows of a summary, compared one batch after another.
use Rattle.std.proofs.Common.{◌≡◌, ℕ, zero, suc, ◌+◌, ◌<◌, ◌≤◌, true, false, List, [], ◌∷◌, ◌++◌, map, length, get_or, take, drop, is_some, Some, None, Ok, Err, Option, Result, sym, refl, ap, ◌∙◌, inl, inr, add-zero, arith}
use Rattle.std.specs.List.{slice_get}
use Rattle.std.specs.Str.{bytes_eq}
use Rattle.std.proofs.lemmas.List.{take-append-drop, map-append, length-drop, drop-map, drop_more, length-map, drop-drop, length-take}
use Rattle.std.proofs.lemmas.Bool.{cases_Bool}
use Rattle.carrier.specs.Cells.{Cell, holds, damaged}
use Rattle.summary.specs.declared.summary_key.SummaryKey.{SummaryKey}
use Rattle.summary.specs.declared.table.Row.{Row}
use Rattle.summary.specs.Rows.{rows_of, over, key_of, highest_of}
use Rattle.summary.proofs.Batches.{batch_next, batch_last}
use Rattle.summary.specs.KeyLaws.{summary_ordered}
use Rattle.orbit.specs.Orbits.{Orbit}
use Rattle.summary.specs.RowWords.{row_packet}
use Rattle.summary.specs.SummaryKeys.{summary_of, summary_lt}
use Rattle.summary.specs.Found.{orbits_in}
use Rattle.odf.specs.declared.fault.FileFault.{FileFault}
use Rattle.reading.specs.Outcomes.{and_then}
use Rattle.reading.specs.Reading.{rows_at}

-- the rows of the summary of the n orbit records from packet 5 on
abbrev pub all_rows : ℕ → List Cell → List (Row SummaryKey)
all_rows n cs = rows_of summary_lt summary_of (orbits_in (take n (drop 5 cs)))

-- some rows and then others
pub rows_split : (k : ℕ) (xs ys : List (List ℕ)) (ds : List Cell) → rows_at k (xs ++ ys) ds ≡ and_then (rows_at k xs ds) (λ _. rows_at (k + length xs) ys (drop (length xs) ds))
rows_split k [] ys ds = ap (λ v. rows_at v ys ds) (sym (add-zero k))
rows_split k (x ∷ xs) ys [] = refl
rows_split k (x ∷ xs) ys (damaged b ∷ ds) = refl
rows_split k (x ∷ xs) ys (holds p ∷ ds) =
    let e : suc k + length xs ≡ k + suc (length xs) = omega arith in
    elim (cases_Bool (bytes_eq p x)) [
      | inl t ↦ rw t (rows_split (suc k) xs ys ds ∙ ap (λ v. and_then (rows_at (suc k) xs ds) (λ _. rows_at v ys (drop (length xs) ds))) e)
      | inr t ↦ rw t refl
    ]

pub row_at : {A B : Type 0} (f : A → B) (xs : List A) (i : ℕ) (d : A) → i < length xs → drop i (map f xs) ≡ f (get_or xs i d) ∷ drop (i + 1) (map f xs)
row_at f xs i d h = drop-map f i xs ∙ ap (map f) (drop_more xs i d h) ∙ ap (λ z. f (get_or xs i d) ∷ z) (sym (drop-map f (i + 1) xs))

nth_below : (rows : List (Row SummaryKey)) (i : ℕ) (k : SummaryKey) → key_of (slice_get rows i) ≡ Some k → i < length rows
nth_below [] i k h = absurd cc
nth_below (r ∷ rows) zero k h = omega arith
nth_below (r ∷ rows) (suc i) k h = let n = nth_below rows i k h in omega arith

-- row i of a batch that stands from cell first on
module _ {A : Type 0} (f : A → List ℕ) (xs : List A) (cs : List Cell) (first i : ℕ) (d : A) (h : i < length xs) where
  abbrev rows : List (List ℕ)
  rows = map f xs

  abbrev row : List ℕ
  row = f (get_or xs i d)

  split : rows_at (first + i) (drop i rows) (drop (first + i) cs) ≡ and_then (rows_at (first + i) (row ∷ []) (drop (first + i) cs)) (λ _. rows_at (first + (i + 1)) (drop (i + 1) rows) (drop (first + (i + 1)) cs))
  split =
      let e : first + i + 1 ≡ first + (i + 1) = omega arith in
      let c : drop 1 (drop (first + i) cs) ≡ drop (first + (i + 1)) cs = drop-drop 1 (first + i) cs ∙ ap (λ v. drop v cs) e in
      ap (λ v. rows_at (first + i) v (drop (first + i) cs)) (row_at f xs i d h)
      ∙ rows_split (first + i) (row ∷ []) (drop (i + 1) rows) (drop (first + i) cs)
      ∙ (λ j. and_then (rows_at (first + i) (row ∷ []) (drop (first + i) cs)) (λ _. rows_at (e j) (drop (i + 1) rows) (c j)))

  pub row-err : (e : FileFault) → Err e ≡ rows_at (first + i) (row ∷ []) (drop (first + i) cs) → rows_at (first + i) (drop i rows) (drop (first + i) cs) ≡ Err e
  row-err e q = split ∙ ap (λ v. and_then v (λ _. rows_at (first + (i + 1)) (drop (i + 1) rows) (drop (first + (i + 1)) cs))) (sym q)

  pub row_ok : (u : Unit {0}) → Ok u ≡ rows_at (first + i) (row ∷ []) (drop (first + i) cs) → rows_at (first + i) (drop i rows) (drop (first + i) cs) ≡ rows_at (first + (i + 1)) (drop (i + 1) rows) (drop (first + (i + 1)) cs)
  row_ok u q = split ∙ ap (λ v. and_then v (λ _. rows_at (first + (i + 1)) (drop (i + 1) rows) (drop (first + (i + 1)) cs))) (sym q)

-- the first 64 of some rows, which stand from cell k on
module _ (rows : List (Row SummaryKey)) (cs : List Cell) (k : ℕ) where
  abbrev batch : List (List ℕ)
  batch = map row_packet (take 64 rows)

  cut : rows_at k (map row_packet rows) (drop k cs) ≡ and_then (rows_at k batch (drop k cs)) (λ _. rows_at (k + length batch) (map row_packet (drop 64 rows)) (drop (length batch) (drop k cs)))
  cut =
      ap (λ v. rows_at k (map row_packet v) (drop k cs)) (sym (take-append-drop 64 rows))
      ∙ ap (λ v. rows_at k v (drop k cs)) (map-append row_packet (take 64 rows) (drop 64 rows))
      ∙ rows_split k batch (map row_packet (drop 64 rows)) (drop k cs)

  pub batch-err : (e : FileFault) → Err e ≡ rows_at k batch (drop k cs) → rows_at k (map row_packet rows) (drop k cs) ≡ Err e
  batch-err e q = cut ∙ ap (λ v. and_then v (λ _. rows_at (k + length batch) (map row_packet (drop 64 rows)) (drop (length batch) (drop k cs)))) (sym q)

  pub batch-ok : (u : Unit {0}) (n : ℕ) → Ok u ≡ rows_at k batch (drop k cs) → n ≡ length (take 64 rows) → rows_at k (map row_packet rows) (drop k cs) ≡ rows_at (k + n) (map row_packet (drop 64 rows)) (drop (k + n) cs)
  batch-ok u n q e =
      let l : length batch ≡ n = length-map (take 64 rows) row_packet ∙ sym e in
      cut
      ∙ ap (λ v. and_then v (λ _. rows_at (k + length batch) (map row_packet (drop 64 rows)) (drop (length batch) (drop k cs)))) (sym q)
      ∙ ap (λ v. rows_at (k + v) (map row_packet (drop 64 rows)) (drop v (drop k cs))) l
      ∙ ap (rows_at (k + n) (map row_packet (drop 64 rows))) (drop-drop n k cs)

  -- the last batch
  pub batch-all : (u : Unit {0}) → Ok u ≡ rows_at k batch (drop k cs) → take 64 rows ≡ rows → rows_at k (map row_packet rows) (drop k cs) ≡ Ok u
  batch-all u q e = ap (λ v. rows_at k (map row_packet v) (drop k cs)) (sym e) ∙ sym q

-- the batch behind a batch
some_key : (o : Option SummaryKey) → is_some o ≡ true → (k : SummaryKey) × (o ≡ Some k)
some_key None h = absurd cc
some_key (Some k) h = (k, refl)

no_key : (o : Option SummaryKey) → is_some o ≡ false → o ≡ None
no_key None h = refl
no_key (Some k) h = absurd cc

pub record More (all : List (Row SummaryKey)) (a b : Option SummaryKey) (n : ℕ) : Type 0 where
  pub left : over summary_lt b all ≡ drop 64 (over summary_lt a all)
  pub full : n ≡ 64
  pub some : 64 ≤ length (over summary_lt a all)

module _ (xs : List Orbit) (a b : Option SummaryKey) (t : List (Row SummaryKey)) (n : ℕ) (e : t ≡ take 64 (over summary_lt a (rows_of summary_lt summary_of xs))) (c : n ≡ length t) (h : b ≡ highest_of t) where
  abbrev above : List (Row SummaryKey)
  above = over summary_lt a (rows_of summary_lt summary_of xs)

  pub more : is_some b ≡ true → More (rows_of summary_lt summary_of xs) a b n
  more s =
      let k = some_key b s in
      let q : highest_of (take 64 above) ≡ Some k.0 = ap highest_of (sym e) ∙ sym h ∙ k.1 in
      let l = nth_below (take 64 above) 63 k.0 q in
      let m = length-take 64 above in
      let p : length t ≡ length (take 64 above) = ap length e in
      record { left = ap (λ v. over summary_lt v (rows_of summary_lt summary_of xs)) k.1 ∙ batch_next summary_lt summary_of summary_ordered xs a k.0 q; full = omega arith; some = omega arith }

  pub last : is_some b ≡ false → take 64 above ≡ above
  last s = batch_last above (ap highest_of (sym e) ∙ sym h ∙ no_key b s)

-- the rows of the summary of the o orbit records that come behind a key
abbrev pub rows_behind : ℕ → List Cell → Option SummaryKey → List (Row SummaryKey)
rows_behind o cs a = over summary_lt a (all_rows o cs)

-- a batch that stands from cell k on and holds the next n of the rows behind a key; b is the batch's highest key
module _ (o : ℕ) (cs : List Cell) (a b : Option SummaryKey) (k n : ℕ) (t : List (Row SummaryKey)) (e : t ≡ take 64 (rows_behind o cs a)) (c : n ≡ length t) (h : b ≡ highest_of t) (q : Ok tt ≡ rows_at k (map row_packet t) (drop k cs)) where
  abbrev stand : ℕ → List (Row SummaryKey) → Result (Unit {0}) FileFault
  stand j xs = rows_at j (map row_packet xs) (drop j cs)

  stands : Ok tt ≡ stand k (take 64 (rows_behind o cs a))
  stands = q ∙ ap (stand k) e

  -- no row comes behind it
  pub ends : is_some b ≡ false → (n ≡ length (rows_behind o cs a)) × (stand k (rows_behind o cs a) ≡ Ok tt)
  ends s =
      let l = last (orbits_in (take o (drop 5 cs))) a b t n e c h s in
      (c ∙ ap length (e ∙ l), batch-all (rows_behind o cs a) cs k tt stands l)

  -- the rows behind it have to follow
  pub goes-on : is_some b ≡ true → (n + length (rows_behind o cs b) ≡ length (rows_behind o cs a)) × (0 < n) × (stand (k + n) (rows_behind o cs b) ≡ stand k (rows_behind o cs a))
  goes-on s =
      let m = more (orbits_in (take o (drop 5 cs))) a b t n e c h s in
      let l : length (rows_behind o cs b) ≡ length (drop 64 (rows_behind o cs a)) = ap length m.left in
      let d = length-drop 64 (rows_behind o cs a) in
      let full = m.full in
      let some = m.some in
      (omega arith, omega arith, ap (stand (k + n)) m.left ∙ sym (batch-ok (rows_behind o cs a) cs k tt n stands (c ∙ ap length e)))
