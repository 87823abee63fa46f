-- The rows of a recount in batches of 64: what a pass above a floor leaves, and where the next begins.
use Rattle.std.proofs.Common.{◌≡◌, ℕ, zero, suc, ◌+◌, ◌<◌, ◌≤◌, Bool, true, false, cond, List, [], ◌∷◌, length, get_or, take, drop, Some, None, Option, sym, refl, ap, ◌∙◌, subst, ⊎_elim, arith}
use Rattle.std.proofs.lemmas.Option.{none-some, slice_get_within, get_or_from_slice_get, slice_get_cases}
use Rattle.std.proofs.lemmas.List.{take_all, length-take, length-drop, drop-drop}
use Rattle.std.proofs.lemmas.Bool.{cond_both, cond-true, cond-false, both_ways, cases_Bool}
use Rattle.std.specs.List.{slice_get}
use Rattle.orbit.specs.Orbits.{Orbit}
use Rattle.orbit.specs.Orbits.{instant}
use Rattle.summary.specs.declared.table.Row.{Row}
use Rattle.summary.specs.Orders.{Order}
use Rattle.summary.specs.Rows.{note, note_of, noted, rows_of, passes, over, key_of, highest_of, AllAbove, Ascends}
use Rattle.summary.proofs.Passes.{passes_up}
use Rattle.summary.proofs.Laws.{note_ways, ascends_noted}

-- a pass without a floor leaves out no row
pub over_none : {K : Type 0} (lt : K → K → Bool) (rs : List (Row K)) → over lt None rs ≡ rs
unfolding over
over_none lt [] = refl
over_none lt (r ∷ rs) = ap (λ z. r ∷ z) (over_none lt rs)

over_all : {K : Type 0} (lt : K → K → Bool) (k : K) (rs : List (Row K)) → AllAbove lt k rs → over lt (Some k) rs ≡ rs
unfolding over
over_all lt k [] h = refl
over_all lt k (r ∷ rs) h = cond-true _ _ _ h.0 ∙ ap (λ z. r ∷ z) (over_all lt k rs h.1)

pub above_at : {K : Type 0} (lt : K → K → Bool) (k : K) (rs : List (Row K)) (i : ℕ) (d : Row K) → AllAbove lt k rs → i < length rs → lt k (get_or rs i d).key ≡ true
above_at lt k [] i d h l = let b : ⊥ = omega arith in absurd b
above_at lt k (r ∷ rs) zero d h l = h.0
above_at lt k (r ∷ rs) (suc i) d h l = above_at lt k rs i d h.1 (omega arith)

pub not_back : {K : Type 0} (lt : K → K → Bool) → Order lt → (j k : K) → lt j k ≡ true → lt k j ≡ false
not_back lt o j k e = ⊎_elim (λ f. let b : ⊥ = both_ways _ (o.irreflexive j) (o.transitive j k j e f) in absurd b) (λ f. f) (cases_Bool (lt k j))

over-drop : {K : Type 0} (lt : K → K → Bool) → Order lt → (rs : List (Row K)) (i : ℕ) (d : Row K) → Ascends lt rs → i < length rs → over lt (Some (get_or rs i d).key) rs ≡ drop (suc i) rs
unfolding over
over-drop lt o [] i d h l = let b : ⊥ = omega arith in absurd b
over-drop lt o (r ∷ rs) zero d h l = cond-false _ _ _ (o.irreflexive r.key) ∙ over_all lt r.key rs h.0
over-drop lt o (r ∷ rs) (suc i) d h l =
    cond-false _ _ _ (not_back lt o r.key (get_or rs i d).key (above_at lt r.key rs i d h.0 (omega arith))) ∙ over-drop lt o rs i d h.1 (omega arith)

-- the rows above a floor ascend too, and pass it
above-over : {K : Type 0} (lt : K → K → Bool) (a : Option K) (k : K) (rs : List (Row K)) → AllAbove lt k rs → AllAbove lt k (over lt a rs)
unfolding over
above-over lt a k [] h = tt
above-over lt a k (r ∷ rs) h = cond_both (passes lt a r.key) (r ∷ over lt a rs) (over lt a rs) (AllAbove lt k) (λ _. (h.0, above-over lt a k rs h.1)) (λ _. above-over lt a k rs h.1)

ascends_over : {K : Type 0} (lt : K → K → Bool) (a : Option K) (rs : List (Row K)) → Ascends lt rs → Ascends lt (over lt a rs)
unfolding over
ascends_over lt a [] h = tt
ascends_over lt a (r ∷ rs) h = cond_both (passes lt a r.key) (r ∷ over lt a rs) (over lt a rs) (Ascends lt) (λ _. (above-over lt a r.key rs h.0, ascends_over lt a rs h.1)) (λ _. ascends_over lt a rs h.1)

passes_at : {K : Type 0} (lt : K → K → Bool) (a : Option K) (rs : List (Row K)) (i : ℕ) (r : Row K) → slice_get (over lt a rs) i ≡ Some r → passes lt a r.key ≡ true
unfolding over
passes_at lt a [] i r = λ e. let z : ◌≡◌ {A = ℕ} 0 1 = cc in absurd (omega arith)
passes_at lt a (s ∷ rs) zero r =
    cond_both (passes lt a s.key) (s ∷ over lt a rs) (over lt a rs) (λ z. slice_get z 0 ≡ Some r → passes lt a r.key ≡ true)
    (λ p e. let q : s ≡ r = cc in subst (λ z. passes lt a z.key ≡ true) q p)
    (λ _ e. passes_at lt a rs zero r e)
passes_at lt a (s ∷ rs) (suc i) r =
    cond_both (passes lt a s.key) (s ∷ over lt a rs) (over lt a rs) (λ z. slice_get z (suc i) ≡ Some r → passes lt a r.key ≡ true)
    (λ _ e. passes_at lt a rs i r e)
    (λ _ e. passes_at lt a rs (suc i) r e)

-- of two floors only the higher counts
over-over : {K : Type 0} (lt : K → K → Bool) → Order lt → (a : Option K) (k : K) (rs : List (Row K)) → passes lt a k ≡ true → over lt (Some k) (over lt a rs) ≡ over lt (Some k) rs
unfolding over
over-over lt o a k [] p = refl
over-over lt o a k (r ∷ rs) p =
    cond_both (passes lt a r.key) (r ∷ over lt a rs) (over lt a rs) (λ z. over lt (Some k) z ≡ over lt (Some k) (r ∷ rs))
    (λ _. ap (λ z. cond (lt k r.key) (r ∷ z) z) (over-over lt o a k rs p))
    (λ q. over-over lt o a k rs p ∙ sym (cond-false _ _ _ (⊎_elim (λ t. let b : ⊥ = both_ways _ q (passes_up lt o a k r.key p t) in absurd b) (λ f. f) (cases_Bool (lt k r.key)))))

nth_some : {X : Type 0} (xs : List X) (i : ℕ) (x : X) → slice_get xs i ≡ Some x → (i < length xs) × (get_or xs i x ≡ x)
nth_some xs i x e = (slice_get_within xs i x e, get_or_from_slice_get xs i x x e)

nth_none : {X : Type 0} (xs : List X) (i : ℕ) → slice_get xs i ≡ None → length xs ≤ i
nth_none xs i e = ⊎_elim (λ h. absurd (none-some h.0 (sym e ∙ h.2))) (λ h. h.0) (slice_get_cases xs i).1

key_some : {K : Type 0} (o : Option (Row K)) (k : K) → key_of o ≡ Some k → (r : Row K) × ((o ≡ Some r) × (r.key ≡ k))
key_some None k e = let z : ◌≡◌ {A = ℕ} 0 1 = cc in absurd (omega arith)
key_some (Some r) k e = (r, (refl, cc))

key_none : {K : Type 0} (o : Option (Row K)) → key_of o ≡ None → o ≡ None
key_none None e = refl
key_none (Some r) e = let z : ◌≡◌ {A = ℕ} 0 1 = cc in absurd (omega arith)

nth_take : {X : Type 0} (n : ℕ) (xs : List X) (i : ℕ) → i < n → slice_get (take n xs) i ≡ slice_get xs i
nth_take zero xs i h = absurd (omega arith)
nth_take (suc n) [] i h = refl
nth_take (suc n) (x ∷ xs) zero h = refl
nth_take (suc n) (x ∷ xs) (suc i) h = nth_take n xs i (omega arith)

-- a full batch: the rows above its highest key are those behind it
pub batch_next : {K : Type 0} (lt : K → K → Bool) (of : Orbit → Option K) → Order lt → (xs : List Orbit) (a : Option K) (k : K) →
    highest_of (take 64 (over lt a (rows_of lt of xs))) ≡ Some k → over lt (Some k) (rows_of lt of xs) ≡ drop 64 (over lt a (rows_of lt of xs))
batch_next lt of o xs a k e =
    let rs = rows_of lt of xs in
    let ys = over lt a rs in
    let w = key_some (slice_get (take 64 ys) 63) k e in
    let f : slice_get ys 63 ≡ Some w.0 = sym (nth_take 64 ys 63 (omega arith)) ∙ w.1.0 in
    let n = nth_some ys 63 w.0 f in
    let p : passes lt a k ≡ true = subst (λ z. passes lt a z ≡ true) w.1.1 (passes_at lt a rs 63 w.0 f) in
    let h = ascends_over lt a rs (ascends_noted lt of o xs [] tt) in
    sym (over-over lt o a k rs p)
    ∙ ap (λ z. over lt (Some z) ys) (sym w.1.1)
    ∙ ap (λ z. over lt (Some z.key) ys) (sym n.1)
    ∙ over-drop lt o ys 63 w.0 h n.0

-- the same, where the rows above the floor are those from a place on
pub batch_on : {K : Type 0} (lt : K → K → Bool) (of : Orbit → Option K) → Order lt → (xs : List Orbit) (a : Option K) (k : K) (done : ℕ) →
    over lt a (rows_of lt of xs) ≡ drop done (rows_of lt of xs) → highest_of (take 64 (over lt a (rows_of lt of xs))) ≡ Some k →
    (done + 64 ≤ length (rows_of lt of xs)) × (over lt (Some k) (rows_of lt of xs) ≡ drop (done + 64) (rows_of lt of xs))
batch_on lt of o xs a k done i e =
    let rs = rows_of lt of xs in
    let w = key_some (slice_get (take 64 (over lt a rs)) 63) k e in
    let n = (nth_some (take 64 (over lt a rs)) 63 w.0 w.1.0).0 in
    let t = length-take 64 (over lt a rs) in
    let d = ap length i ∙ length-drop done rs in
    (omega arith, batch_next lt of o xs a k e ∙ ap (drop 64) i ∙ drop-drop 64 done rs)

-- a batch that is not full has all rows that are left
pub batch_short : {X : Type 0} (ys : List X) → length (take 64 ys) < 64 → take 64 ys ≡ ys
batch_short ys h = let n = length-take 64 ys in take_all 64 ys (omega arith)

pub batch_last : {K : Type 0} (ys : List (Row K)) → highest_of (take 64 ys) ≡ None → take 64 ys ≡ ys
batch_last ys e = let n = nth_none (take 64 ys) 63 (key_none _ e) in batch_short ys (omega arith)

-- no more rows than records
length-note : {K : Type 0} (lt : K → K → Bool) (k : K) (t : ℕ) (rs : List (Row K)) → length (note lt k t rs) ≤ length rs + 1
unfolding note
length-note lt k t [] = omega arith
length-note lt k t (r ∷ rs) = let h = length-note lt k t rs in note_ways lt k t r rs (λ z. length z ≤ length (r ∷ rs) + 1) (λ _. omega arith) (λ _ _. omega arith) (λ _ _. omega arith)

length-note_of : {K : Type 0} (lt : K → K → Bool) (k : Option K) (t : ℕ) (rs : List (Row K)) → length (note_of lt k t rs) ≤ length rs + 1
length-note_of lt None t rs = omega arith
length-note_of lt (Some k) t rs = length-note lt k t rs

length-noted : {K : Type 0} (lt : K → K → Bool) (of : Orbit → Option K) (xs : List Orbit) (rs : List (Row K)) → length (noted lt of xs rs) ≤ length rs + length xs
unfolding noted
length-noted lt of [] rs = omega arith
length-noted lt of (x ∷ xs) rs = let h = length-noted lt of xs (note_of lt (of x) (instant x) rs) in let i = length-note_of lt (of x) (instant x) rs in omega arith

pub rows_few : {K : Type 0} (lt : K → K → Bool) (of : Orbit → Option K) (xs : List Orbit) → length (rows_of lt of xs) ≤ length xs
rows_few lt of xs = let h = length-noted lt of xs [] in omega arith
