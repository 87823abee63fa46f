-- A pass over records: noting goes with cutting the rows short and with leaving out low keys.
use Rattle.std.proofs.Common.{◌≡◌, ℕ, zero, suc, ◌+◌, ◌-◌, ◌<◌, ◌≤◌, min, Bool, true, false, cond, List, [], ◌∷◌, ◌++◌, length, take, drop, Some, None, Option, sym, refl, ap, ◌∙◌, subst, append-nil, arith}
use Rattle.std.proofs.lemmas.List.{take-take, length-take}
use Rattle.std.proofs.lemmas.Bool.{cond_both, cond-true, cond-false}
use Rattle.carrier.specs.Cells.{Cell, cell_at}
use Rattle.orbit.specs.Orbits.{Orbit}
use Rattle.orbit.specs.Orbits.{instant}
use Rattle.summary.specs.Found.{orbit_at, before, orbits_in}
use Rattle.summary.specs.declared.table.Row.{Row}
use Rattle.summary.specs.Orders.{Order}
use Rattle.summary.specs.Rows.{fresh, more, note, note_of, noted, passes, kept, over, one_if, met, total_of}
use Rattle.summary.proofs.FoundLaws.{orbits-more, orbits_few}
use Rattle.summary.proofs.Laws.{note_past, note_here, note-more, note_ways, total-noted}

-- noting goes with cutting short
pub take-note : {K : Type 0} (lt : K → K → Bool) (b : ℕ) (k : K) (t : ℕ) (rs : List (Row K)) → take b (note lt k t rs) ≡ take b (note lt k t (take b rs))
unfolding note
take-note lt zero k t rs = refl
take-note lt (suc b) k t [] = refl
take-note lt (suc b) k t (r ∷ rs) =
    note_ways lt k t r rs (λ z. take (suc b) z ≡ take (suc b) (note lt k t (r ∷ take b rs)))
    (λ e. ap (λ z. r ∷ z) (take-note lt b k t rs) ∙ ap (take (suc b)) (sym (note_past lt k t r (take b rs) e)))
    (λ e f. ap (λ z. fresh k t ∷ z) (cut b r rs) ∙ ap (take (suc b)) (sym (note_here lt k t r (take b rs) e f)))
    (λ e f. ap (λ z. more t r ∷ z) (sym (take-take b b rs (omega arith))) ∙ ap (take (suc b)) (sym (note-more lt k t r (take b rs) e f)))
  where
    cut : {X : Type 0} (b : ℕ) (r : X) (rs : List X) → take b (r ∷ rs) ≡ take b (r ∷ take b rs)
    cut zero r rs = refl
    cut (suc b) r rs = ap (λ z. r ∷ z) (sym (take-take b (suc b) rs (omega arith)))

-- noting goes with leaving out the keys that are not above
pub passes_up : {K : Type 0} (lt : K → K → Bool) → Order lt → (a : Option K) (k j : K) → passes lt a k ≡ true → lt k j ≡ true → passes lt a j ≡ true
passes_up lt o None k j e f = refl
passes_up lt o (Some x) k j e f = o.transitive x k j e f

pub over_in : {K : Type 0} (lt : K → K → Bool) → Order lt → (a : Option K) (k : K) (t : ℕ) (rs : List (Row K)) → passes lt a k ≡ true → over lt a (note lt k t rs) ≡ note lt k t (over lt a rs)
unfolding note over
over_in lt o a k t [] p = cond-true _ _ _ p
over_in lt o a k t (r ∷ rs) p =
    note_ways lt k t r rs (λ z. over lt a z ≡ note lt k t (over lt a (r ∷ rs)))
    (λ e. cond_both (passes lt a r.key) (r ∷ over lt a rs) (over lt a rs) (λ z. cond (passes lt a r.key) (r ∷ over lt a (note lt k t rs)) (over lt a (note lt k t rs)) ≡ note lt k t z)
    (λ q. cond-true _ _ _ q ∙ ap (λ z. r ∷ z) (over_in lt o a k t rs p) ∙ sym (note_past lt k t r (over lt a rs) e))
    (λ q. cond-false _ _ _ q ∙ over_in lt o a k t rs p))
    (λ e f. let q = cond-true _ (r ∷ over lt a rs) (over lt a rs) (passes_up lt o a k r.key p f) in
    cond-true _ _ _ p ∙ ap (λ z. fresh k t ∷ z) q ∙ sym (note_here lt k t r (over lt a rs) e f) ∙ ap (note lt k t) (sym q))
    (λ e f. let p' : passes lt a r.key ≡ true = subst (λ z. passes lt a z ≡ true) (o.connected k r.key f e) p in
    cond-true _ _ _ p' ∙ sym (note-more lt k t r (over lt a rs) e f) ∙ ap (note lt k t) (sym (cond-true _ (r ∷ over lt a rs) (over lt a rs) p')))

pub over_out : {K : Type 0} (lt : K → K → Bool) → Order lt → (a : Option K) (k : K) (t : ℕ) (rs : List (Row K)) → passes lt a k ≡ false → over lt a (note lt k t rs) ≡ over lt a rs
unfolding note over
over_out lt o a k t [] p = cond-false _ _ _ p
over_out lt o a k t (r ∷ rs) p =
    note_ways lt k t r rs (λ z. over lt a z ≡ over lt a (r ∷ rs))
    (λ e. ap (λ z. cond (passes lt a r.key) (r ∷ z) z) (over_out lt o a k t rs p))
    (λ e f. cond-false _ _ _ p)
    (λ e f. let p' : passes lt a r.key ≡ false = subst (λ z. passes lt a z ≡ false) (o.connected k r.key f e) p in
    cond-false _ _ _ p' ∙ sym (cond-false _ _ _ p'))

pub over-note_of : {K : Type 0} (lt : K → K → Bool) → Order lt → (a k : Option K) (t : ℕ) (rs : List (Row K)) → over lt a (note_of lt k t rs) ≡ note_of lt (kept lt a k) t (over lt a rs)
over-note_of lt o a None t rs = refl
over-note_of lt o a (Some k) t rs =
    cond_both (passes lt a k) (Some k) None (λ z. over lt a (note lt k t rs) ≡ note_of lt z t (over lt a rs)) (over_in lt o a k t rs) (over_out lt o a k t rs)

pub take-note_of : {K : Type 0} (lt : K → K → Bool) (b : ℕ) (k : Option K) (t : ℕ) (rs : List (Row K)) → take b (note_of lt k t rs) ≡ take b (note_of lt k t (take b rs))
take-note_of lt b None t rs = sym (take-take b b rs (omega arith))
take-note_of lt b (Some k) t rs = take-note lt b k t rs

-- the cells from one place to another are passed over
abbrev pub seen : {K : Type 0} → (K → K → Bool) → (Orbit → Option K) → Option K → List Cell → ℕ → ℕ → List (Row K)
seen lt of a cells s k = take 64 (over lt a (noted lt of (orbits_in (take (k - s) (drop s cells))) []))

-- the record of one more cell, if there is one
abbrev pub note_in : {K : Type 0} → (K → K → Bool) → (Orbit → Option K) → Option K → Option Orbit → List (Row K) → List (Row K)
note_in lt of a None rows = rows
note_in lt of a (Some x) rows = note_of lt (kept lt a (of x)) (instant x) rows

noted_push : {K : Type 0} (lt : K → K → Bool) (of : Orbit → Option K) (xs : List Orbit) (x : Orbit) (rs : List (Row K)) → noted lt of (xs ++ x ∷ []) rs ≡ note_of lt (of x) (instant x) (noted lt of xs rs)
unfolding noted
noted_push lt of [] x rs = refl
noted_push lt of (y ∷ ys) x rs = noted_push lt of ys x _

seen_one : {K : Type 0} (lt : K → K → Bool) (of : Orbit → Option K) → Order lt → (a : Option K) (o : Option Orbit) (xs : List Orbit) →
    take 64 (over lt a (noted lt of (xs ++ before o []) [])) ≡ take 64 (note_in lt of a o (take 64 (over lt a (noted lt of xs []))))
seen_one lt of o a None xs = ap (λ z. take 64 (over lt a (noted lt of z []))) (append-nil xs) ∙ sym (take-take 64 64 _ (omega arith))
seen_one lt of o a (Some x) xs =
    ap (λ z. take 64 (over lt a z)) (noted_push lt of xs x [])
    ∙ ap (take 64) (over-note_of lt o a (of x) (instant x) _)
    ∙ take-note_of lt 64 (kept lt a (of x)) (instant x) _

pub seen_more : {K : Type 0} (lt : K → K → Bool) (of : Orbit → Option K) → Order lt → (a : Option K) (cells : List Cell) (s k : ℕ) → s ≤ k → k < length cells →
    seen lt of a cells s (k + 1) ≡ take 64 (note_in lt of a (orbit_at (cell_at cells k)) (seen lt of a cells s k))
seen_more lt of o a cells s k l h =
    ap (λ z. take 64 (over lt a (noted lt of z []))) (orbits-more cells s k l h)
    ∙ seen_one lt of o a (orbit_at (cell_at cells k)) (orbits_in (take (k - s) (drop s cells)))

-- the counts are small
met_few : {K : Type 0} (of : Orbit → Option K) (xs : List Orbit) → met of xs ≤ length xs
unfolding met
met_few of [] = omega arith
met_few of (x ∷ xs) = let h = met_few of xs in let i = one-few (of x) in omega arith
  where
    one-few : {K : Type 0} (o : Option K) → one_if o ≤ 1
    one-few None = omega arith
    one-few (Some k) = omega arith

total-take : {K : Type 0} (b : ℕ) (rs : List (Row K)) → total_of (take b rs) ≤ total_of rs
unfolding total_of
total-take zero rs = omega arith
total-take (suc b) [] = omega arith
total-take (suc b) (r ∷ rs) = let h = total-take b rs in omega arith

total-over : {K : Type 0} (lt : K → K → Bool) (a : Option K) (rs : List (Row K)) → total_of (over lt a rs) ≤ total_of rs
unfolding total_of over
total-over lt a [] = omega arith
total-over lt a (r ∷ rs) = let h = total-over lt a rs in cond_both (passes lt a r.key) (r ∷ over lt a rs) (over lt a rs) (λ z. total_of z ≤ total_of (r ∷ rs)) (λ _. omega arith) (λ _. omega arith)

pub total-seen : {K : Type 0} (lt : K → K → Bool) (of : Orbit → Option K) (a : Option K) (cells : List Cell) (s k : ℕ) → total_of (seen lt of a cells s k) ≤ k
unfolding total_of
total-seen lt of a cells s k =
    let cs = take (k - s) (drop s cells) in
    let h = total-take 64 (over lt a (noted lt of (orbits_in cs) [])) in
    let i = total-over lt a (noted lt of (orbits_in cs) []) in
    let j = total-noted lt of (orbits_in cs) [] in
    let m = met_few of (orbits_in cs) in
    let f = orbits_few cs in
    let n : length cs ≡ min (k - s) (length (drop s cells)) = length-take (k - s) (drop s cells) in
    omega arith
