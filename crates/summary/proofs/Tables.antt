-- The rows of a table: where a key's row stands among them, and noting the key there.
use Rattle.std.proofs.Common.{◌≡◌, ℕ, zero, suc, ◌+◌, ◌<◌, ◌≤◌, Bool, true, List, [], ◌∷◌, ◌++◌, length, get_or, take, drop, set, Result, Ok, Err, IfOk, IfErr, sym, refl, ap, ◌∙◌, subst, arith}
use Rattle.std.proofs.lemmas.Cmp.{tied_back}
use Rattle.std.proofs.lemmas.List.Sorted.{searchable_from_sorted}
use Rattle.std.specs.Cmp.{IsTotalOrder}
use Rattle.std.specs.List.{insert}
use Rattle.std.specs.List.Sorted.{IsSearchInRange, IsBinarySearchResult}
use Rattle.std.specs.Ordering.{is_lt, ordering_reverse}
use Rattle.std.specs.declared.cmp.Ordering.{Ordering}
use Rattle.summary.specs.declared.table.Row.{Row}
use Rattle.summary.specs.Orders.{Order}
use Rattle.summary.specs.Places.{IsRowOf, IsGapFor}
use Rattle.summary.specs.Rows.{fresh, more, note, total_of, AllAbove, Ascends}
use Rattle.summary.proofs.Laws.{note_past, note_here, note-more}
use Rattle.summary.proofs.Batches.{above_at, not_back}

-- of two rows of ascending rows the first has the lower key
ascends_at : {K : Type 0} (lt : K → K → Bool) (rs : List (Row K)) (i j : ℕ) (d : Row K) → Ascends lt rs → i < j → j < length rs → lt (get_or rs i d).key (get_or rs j d).key ≡ true
ascends_at lt [] i j d h a l = absurd (omega arith)
ascends_at lt (r ∷ rs) i zero d h a l = absurd (omega arith)
ascends_at lt (r ∷ rs) zero (suc j) d h a l = above_at lt r.key rs j d h.0 (omega arith)
ascends_at lt (r ∷ rs) (suc i) (suc j) d h a l = ascends_at lt rs i j d h.1 (omega arith) (omega arith)

module _ {K : Type 0} (lt : K → K → Bool) (o : Order lt) (cmp : K → K → Ordering) (total : IsTotalOrder cmp) (compares : (x y : K) → lt x y ≡ is_lt (cmp x y)) where
  -- a binary search among ascending rows ends at the key's row, or at the gap for it
  pub searched : (k : K) (rows : List (Row K)) → Ascends lt rows → (r : Result ℕ ℕ) → IsSearchInRange r (length rows) → IsBinarySearchResult (λ y. cmp y.key k) rows r →
      record { found : IfOk r (IsRowOf lt k rows); absent : IfErr r (IsGapFor lt k rows) }
  searched k rows ascends (Ok i) in_range equal =
      let here : (d : Row K) → (get_or rows i d).key ≡ k =
      λ d. let y = (get_or rows i d).key in
      o.connected y k (compares y k ∙ ap is_lt (equal d)) (compares k y ∙ ap is_lt (tied_back total y k (equal d))) in
      record {
        found = record {
          in_range = in_range;
          lower = λ j d h. subst (λ z. lt (get_or rows j d).key z ≡ true) (here d) (ascends_at lt rows j i d ascends h in_range);
          here = here;
        };
        absent = tt;
      }
  searched k rows ascends (Err i) in_range parted =
      let parts = parted (searchable_from_sorted total (λ y. y.key) rows k (λ j d low h.
      sym (compares _ _) ∙ not_back lt o _ _ (ascends_at lt rows j (j + 1) d ascends (omega arith) h))) in
      record {
        found = tt;
        absent = record {
          in_range = in_range;
          lower = λ j d h. compares _ k ∙ ap is_lt (parts.0 j d (omega arith) h);
          higher = λ j d h l. let y = (get_or rows j d).key in compares k y ∙ ap is_lt (total.antisymm k y ∙ ap ordering_reverse (parts.1 j d h l));
        };
      }

-- a record is noted in its key's row
pub note_at : {K : Type 0} (lt : K → K → Bool) → Order lt → (k : K) (t : ℕ) (rows : List (Row K)) (i : ℕ) (d : Row K) → IsRowOf lt k rows i → note lt k t rows ≡ set rows i (more t (get_or rows i d))
note_at lt o k t [] i d at = let b : ⊥ = omega (arith, at.in_range) in absurd b
note_at lt o k t (r ∷ rs) zero d at =
    let e : r.key ≡ k = at.here d in
    note-more lt k t r rs (ap (λ z. lt z k) e ∙ o.irreflexive k) (ap (lt k) e ∙ o.irreflexive k)
note_at lt o k t (r ∷ rs) (suc i) d at =
    note_past lt k t r rs (at.lower 0 d (omega arith))
    ∙ ap (λ z. r ∷ z) (note_at lt o k t rs i d (record { in_range = omega (arith, at.in_range); lower = λ j e h. at.lower (suc j) e (omega arith); here = at.here }))

-- of a key without a row the row comes into the gap
pub note_gap : {K : Type 0} (lt : K → K → Bool) → Order lt → (k : K) (t : ℕ) (rows : List (Row K)) (i : ℕ) → IsGapFor lt k rows i → note lt k t rows ≡ insert rows i (fresh k t)
unfolding note
note_gap lt o k t [] zero gap = refl
note_gap lt o k t [] (suc i) gap = refl
note_gap lt o k t (r ∷ rs) zero gap =
    let above : lt k r.key ≡ true = gap.higher 0 r (omega arith) (omega arith) in
    note_here lt k t r rs (not_back lt o k r.key above) above
note_gap lt o k t (r ∷ rs) (suc i) gap =
    note_past lt k t r rs (gap.lower 0 r (omega arith))
    ∙ ap (λ z. r ∷ z) (note_gap lt o k t rs i (record {
      in_range = omega (arith, gap.in_range);
      lower = λ j e h. gap.lower (suc j) e (omega arith);
      higher = λ j e h l. gap.higher (suc j) e (omega arith) (omega arith);
    }))

-- an element that comes in stands between the first and the rest
pub insert_between : {X : Type 0} (xs : List X) (i : ℕ) (y : X) → take i xs ++ y ∷ drop i xs ≡ insert xs i y
insert_between [] zero y = refl
insert_between [] (suc i) y = refl
insert_between (x ∷ xs) zero y = refl
insert_between (x ∷ xs) (suc i) y = ap (λ z. x ∷ z) (insert_between xs i y)

-- the first of ascending rows ascend
above-take : {K : Type 0} (lt : K → K → Bool) (k : K) (b : ℕ) (rs : List (Row K)) → AllAbove lt k rs → AllAbove lt k (take b rs)
above-take lt k zero rs h = tt
above-take lt k (suc b) [] h = tt
above-take lt k (suc b) (r ∷ rs) h = (h.0, above-take lt k b rs h.1)

pub ascends-take : {K : Type 0} (lt : K → K → Bool) (b : ℕ) (rs : List (Row K)) → Ascends lt rs → Ascends lt (take b rs)
ascends-take lt zero rs h = tt
ascends-take lt (suc b) [] h = tt
ascends-take lt (suc b) (r ∷ rs) h = (above-take lt r.key b rs h.0, ascends-take lt b rs h.1)

-- a count is no more than all
pub count_total : {K : Type 0} (rs : List (Row K)) (i : ℕ) (d : Row K) → i < length rs → (get_or rs i d).count ≤ total_of rs
unfolding total_of
count_total [] i d h = let b : ⊥ = omega arith in absurd b
count_total (r ∷ rs) zero d h = omega arith
count_total (r ∷ rs) (suc i) d h = let q = count_total rs i d (omega arith) in omega arith
