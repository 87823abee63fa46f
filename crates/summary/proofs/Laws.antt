-- The laws of a recount.
use Rattle.std.proofs.Common.{◌≡◌, ℕ, suc, ◌+◌, ◌≤◌, min, max, Bool, true, false, cond, ◌⊎◌, List, [], ◌∷◌, length, Some, None, Option, sym, refl, ap, ◌∙◌, subst, inl, inr, ⊎_elim, arith}
use Rattle.std.proofs.lemmas.Bool.{cond_both, cond-true, cond-false, and_parts, and_right, and_left, and_from, not-true, not_from_true, not_from_false, cases_lt}
use Rattle.orbit.specs.Orbits.{Orbit}
use Rattle.orbit.specs.Orbits.{instant}
use Rattle.summary.specs.declared.table.Row.{Row}
use Rattle.summary.specs.Orders.{Order}
use Rattle.summary.specs.Rows.{same, fresh, more, note, note_of, noted, rows_of, Among, AllAbove, Ascends, times_of, times, one_if, met, total_of, Least, Greatest, Tells, Recount}

-- one record noted, by the order of its key and the first row's
pub note_past : {K : Type 0} (lt : K → K → Bool) (k : K) (t : ℕ) (r : Row K) (rs : List (Row K)) → lt r.key k ≡ true → note lt k t (r ∷ rs) ≡ r ∷ note lt k t rs
unfolding note
note_past lt k t r rs e = cond-true _ _ _ e

pub note_here : {K : Type 0} (lt : K → K → Bool) (k : K) (t : ℕ) (r : Row K) (rs : List (Row K)) → lt r.key k ≡ false → lt k r.key ≡ true → note lt k t (r ∷ rs) ≡ fresh k t ∷ r ∷ rs
unfolding note
note_here lt k t r rs e f = cond-false _ _ _ e ∙ cond-true _ _ _ f

pub note-more : {K : Type 0} (lt : K → K → Bool) (k : K) (t : ℕ) (r : Row K) (rs : List (Row K)) → lt r.key k ≡ false → lt k r.key ≡ false → note lt k t (r ∷ rs) ≡ more t r ∷ rs
unfolding note
note-more lt k t r rs e f = cond-false _ _ _ e ∙ cond-false _ _ _ f

-- the three ways
pub note_ways : {K : Type 0} (lt : K → K → Bool) (k : K) (t : ℕ) (r : Row K) (rs : List (Row K)) (P : List (Row K) → Type 0) →
    (lt r.key k ≡ true → P (r ∷ note lt k t rs)) →
    (lt r.key k ≡ false → lt k r.key ≡ true → P (fresh k t ∷ r ∷ rs)) →
    (lt r.key k ≡ false → lt k r.key ≡ false → P (more t r ∷ rs)) → P (note lt k t (r ∷ rs))
unfolding note
note_ways lt k t r rs P a b c = cond_both _ _ _ P a (λ e. cond_both _ _ _ P (b e) (c e))

pub same_self : {K : Type 0} (lt : K → K → Bool) → Order lt → (k : K) → same lt k k ≡ true
same_self lt o k = rw (o.irreflexive k)

pub same_is : {K : Type 0} (lt : K → K → Bool) → Order lt → (j k : K) → same lt j k ≡ true → j ≡ k
same_is lt o j k e = let p = and_parts _ _ e in o.connected j k (not-true _ p.0) (not-true _ p.1)

-- keys ascend
pub above-note : {K : Type 0} (lt : K → K → Bool) (a k : K) (t : ℕ) (rs : List (Row K)) → lt a k ≡ true → AllAbove lt a rs → AllAbove lt a (note lt k t rs)
unfolding note
above-note lt a k t [] e h = (e, tt)
above-note lt a k t (r ∷ rs) e h = note_ways lt k t r rs (AllAbove lt a) (λ _. (h.0, above-note lt a k t rs e h.1)) (λ _ _. (e, h)) (λ _ _. h)

pub above_down : {K : Type 0} (lt : K → K → Bool) → Order lt → (a b : K) (rs : List (Row K)) → lt a b ≡ true → AllAbove lt b rs → AllAbove lt a rs
above_down lt o a b [] e h = tt
above_down lt o a b (r ∷ rs) e h = (o.transitive a b r.key e h.0, above_down lt o a b rs e h.1)

pub ascends_note : {K : Type 0} (lt : K → K → Bool) → Order lt → (k : K) (t : ℕ) (rs : List (Row K)) → Ascends lt rs → Ascends lt (note lt k t rs)
unfolding note
ascends_note lt o k t [] h = (tt, tt)
ascends_note lt o k t (r ∷ rs) h =
    note_ways lt k t r rs (Ascends lt)
    (λ e. (above-note lt r.key k t rs e h.0, ascends_note lt o k t rs h.1))
    (λ _ f. ((f, above_down lt o k r.key rs f h.0), h))
    (λ _ _. h)

pub ascends_note_of : {K : Type 0} (lt : K → K → Bool) → Order lt → (k : Option K) (t : ℕ) (rs : List (Row K)) → Ascends lt rs → Ascends lt (note_of lt k t rs)
ascends_note_of lt o None t rs h = h
ascends_note_of lt o (Some k) t rs h = ascends_note lt o k t rs h

pub ascends_noted : {K : Type 0} (lt : K → K → Bool) (of : Orbit → Option K) → Order lt → (items : List Orbit) (rs : List (Row K)) → Ascends lt rs → Ascends lt (noted lt of items rs)
unfolding noted
ascends_noted lt of o [] rs h = h
ascends_noted lt of o (s ∷ ss) rs h = ascends_noted lt of o ss _ (ascends_note_of lt o (of s) (instant s) rs h)

-- the counts' sum
pub total-note : {K : Type 0} (lt : K → K → Bool) (k : K) (t : ℕ) (rs : List (Row K)) → total_of (note lt k t rs) ≡ 1 + total_of rs
unfolding note total_of
total-note lt k t [] = refl
total-note lt k t (r ∷ rs) =
    note_ways lt k t r rs (λ z. total_of z ≡ 1 + total_of (r ∷ rs))
    (λ _. let h = total-note lt k t rs in omega arith)
    (λ _ _. refl)
    (λ _ _. omega arith)

pub total-note_of : {K : Type 0} (lt : K → K → Bool) (k : Option K) (t : ℕ) (rs : List (Row K)) → total_of (note_of lt k t rs) ≡ one_if k + total_of rs
total-note_of lt None t rs = omega arith
total-note_of lt (Some k) t rs = total-note lt k t rs

pub total-noted : {K : Type 0} (lt : K → K → Bool) (of : Orbit → Option K) (items : List Orbit) (rs : List (Row K)) → total_of (noted lt of items rs) ≡ met of items + total_of rs
unfolding noted met
total-noted lt of [] rs = omega arith
total-noted lt of (s ∷ ss) rs = let h = total-noted lt of ss (note_of lt (of s) (instant s) rs) in let i = total-note_of lt (of s) (instant s) rs in omega arith

-- the row of a key
abbrev pub found : {K : Type 0} → (K → K → Bool) → K → List (Row K) → Option (Row K)
found lt k [] = None
found lt k (r ∷ rs) = cond (same lt k r.key) (Some r) (found lt k rs)

abbrev pub joined_in : {K : Type 0} → K → ℕ → Option (Row K) → Option (Row K)
joined_in k t None = Some (fresh k t)
joined_in k t (Some r) = Some (more t r)

abbrev pub folded : {K : Type 0} → K → List ℕ → Option (Row K) → Option (Row K)
folded k [] o = o
folded k (t ∷ ts) o = folded k ts (joined_in k t o)

pub found-above : {K : Type 0} (lt : K → K → Bool) (k : K) (rs : List (Row K)) → AllAbove lt k rs → found lt k rs ≡ None
found-above lt k [] h = refl
found-above lt k (r ∷ rs) h = cond-false _ _ _ (and_left _ _ (not_from_true _ h.0)) ∙ found-above lt k rs h.1

pub found_hit : {K : Type 0} (lt : K → K → Bool) → Order lt → (k : K) (t : ℕ) (rs : List (Row K)) → Ascends lt rs → found lt k (note lt k t rs) ≡ joined_in k t (found lt k rs)
unfolding note
found_hit lt o k t [] h = cond-true _ _ _ (same_self lt o k)
found_hit lt o k t (r ∷ rs) h =
    note_ways lt k t r rs (λ z. found lt k z ≡ joined_in k t (found lt k (r ∷ rs)))
    (λ e. let d : same lt k r.key ≡ false = and_right _ _ (not_from_true _ e) in
    cond-false _ _ _ d ∙ found_hit lt o k t rs h.1 ∙ ap (joined_in k t) (sym (cond-false _ _ _ d)))
    (λ e f. cond-true _ _ _ (same_self lt o k) ∙ ap (joined_in k t) (sym (found-above lt k (r ∷ rs) (f, above_down lt o k r.key rs f h.0))))
    (λ e f. let d : same lt k r.key ≡ true = and_from _ _ (not_from_false _ f) (not_from_false _ e) in
    cond-true _ _ _ d ∙ ap (joined_in k t) (sym (cond-true _ _ _ d)))

pub found_miss : {K : Type 0} (lt : K → K → Bool) → Order lt → (j k : K) (t : ℕ) (rs : List (Row K)) → same lt j k ≡ false → found lt j (note lt k t rs) ≡ found lt j rs
unfolding note
found_miss lt o j k t [] m = cond-false _ _ _ m
found_miss lt o j k t (r ∷ rs) m =
    note_ways lt k t r rs (λ z. found lt j z ≡ found lt j (r ∷ rs))
    (λ e. ap (cond (same lt j r.key) (Some r)) (found_miss lt o j k t rs m))
    (λ e f. cond-false _ _ _ m)
    (λ e f. let d : same lt j r.key ≡ false = subst (λ z. same lt j z ≡ false) (o.connected k r.key f e) m in
    cond-false _ _ _ d ∙ sym (cond-false _ _ _ d))

pub found-note_of : {K : Type 0} (lt : K → K → Bool) → Order lt → (j : K) (k : Option K) (t : ℕ) (ts : List ℕ) (rs : List (Row K)) → Ascends lt rs →
    folded j ts (found lt j (note_of lt k t rs)) ≡ folded j (times_of lt j k t ts) (found lt j rs)
found-note_of lt o j None t ts rs h = refl
found-note_of lt o j (Some k) t ts rs h =
    cond_both (same lt j k) (t ∷ ts) ts (λ z. folded j ts (found lt j (note lt k t rs)) ≡ folded j z (found lt j rs))
    (λ e. subst (λ z. folded j ts (found lt j (note lt z t rs)) ≡ folded j ts (joined_in j t (found lt j rs))) (same_is lt o j k e) (ap (folded j ts) (found_hit lt o j t rs h)))
    (λ e. ap (folded j ts) (found_miss lt o j k t rs e))

pub found-noted : {K : Type 0} (lt : K → K → Bool) (of : Orbit → Option K) → Order lt → (j : K) (items : List Orbit) (rs : List (Row K)) → Ascends lt rs →
    found lt j (noted lt of items rs) ≡ folded j (times lt of j items) (found lt j rs)
unfolding noted times
found-noted lt of o j [] rs h = refl
found-noted lt of o j (s ∷ ss) rs h =
    found-noted lt of o j ss _ (ascends_note_of lt o (of s) (instant s) rs h) ∙ found-note_of lt o j (of s) (instant s) _ rs h

-- what a run of times makes of a row
abbrev pub low_from : ℕ → List ℕ → ℕ
low_from a [] = a
low_from a (t ∷ ts) = low_from (min a t) ts

abbrev pub high_from : ℕ → List ℕ → ℕ
high_from a [] = a
high_from a (t ∷ ts) = high_from (max a t) ts

pub folded_some : {K : Type 0} (k : K) (ts : List ℕ) (r : Row K) →
    folded k ts (Some r) ≡ Some (record { key = r.key; count = r.count + length ts; first = low_from r.first ts; last = high_from r.last ts })
folded_some k [] r = let e : r.count + 0 ≡ r.count = omega arith in rw e
folded_some k (t ∷ ts) r = let e : (r.count + 1) + length ts ≡ r.count + suc (length ts) = omega arith in folded_some k ts (more t r) ∙ rw e

pub min_ways : (a t : ℕ) → (min a t ≡ a) ⊎ (min a t ≡ t)
min_ways a t = ⊎_elim (λ h. inl (omega arith)) (λ h. inr (omega arith)) (cases_lt a t)

pub max_ways : (a t : ℕ) → (max a t ≡ a) ⊎ (max a t ≡ t)
max_ways a t = ⊎_elim (λ h. inr (omega arith)) (λ h. inl (omega arith)) (cases_lt a t)

pub least : (a : ℕ) (ts : List ℕ) → Least (low_from a ts) (a ∷ ts)
least a [] = record { there = inl refl; bounds = λ u h. ⊎_elim (λ e. omega arith) (λ b. absurd b) h }
least a (t ∷ ts) =
    let i = least (min a t) ts in
    let b : low_from (min a t) ts ≤ min a t = i.bounds (min a t) (inl refl) in
    record {
      there = ⊎_elim (λ e. ⊎_elim (λ q. inl (e ∙ q)) (λ q. inr (inl (e ∙ q))) (min_ways a t)) (λ m. inr (inr m)) i.there;
      bounds = λ u h. ⊎_elim (λ e. omega arith) (⊎_elim (λ e. omega arith) (λ m. i.bounds u (inr m))) h;
    }

pub greatest : (a : ℕ) (ts : List ℕ) → Greatest (high_from a ts) (a ∷ ts)
greatest a [] = record { there = inl refl; bounds = λ u h. ⊎_elim (λ e. omega arith) (λ b. absurd b) h }
greatest a (t ∷ ts) =
    let i = greatest (max a t) ts in
    let b : max a t ≤ high_from (max a t) ts = i.bounds (max a t) (inl refl) in
    record {
      there = ⊎_elim (λ e. ⊎_elim (λ q. inl (e ∙ q)) (λ q. inr (inl (e ∙ q))) (max_ways a t)) (λ m. inr (inr m)) i.there;
      bounds = λ u h. ⊎_elim (λ e. omega arith) (⊎_elim (λ e. omega arith) (λ m. i.bounds u (inr m))) h;
    }

-- a row that stands among ascending rows is the row of its key
pub above_among : {K : Type 0} (lt : K → K → Bool) (k : K) (r : Row K) (rs : List (Row K)) → AllAbove lt k rs → Among r rs → lt k r.key ≡ true
above_among lt k r [] h m = absurd m
above_among lt k r (s ∷ ss) h m = ⊎_elim (λ e. subst (λ z. lt k z.key ≡ true) (sym e) h.0) (above_among lt k r ss h.1) m

pub found_among : {K : Type 0} (lt : K → K → Bool) → Order lt → (r : Row K) (rs : List (Row K)) → Ascends lt rs → Among r rs → found lt r.key rs ≡ Some r
found_among lt o r [] h m = absurd m
found_among lt o r (s ∷ ss) h m =
    ⊎_elim
    (λ e. subst (λ z. found lt z.key (s ∷ ss) ≡ Some z) (sym e) (cond-true _ _ _ (same_self lt o s.key)))
    (λ n. cond-false _ _ _ (and_right _ _ (not_from_true _ (above_among lt s.key r ss h.0 n))) ∙ found_among lt o r ss h.1 n)
    m

pub among_found : {K : Type 0} (lt : K → K → Bool) → Order lt → (k : K) (r : Row K) (rs : List (Row K)) → found lt k rs ≡ Some r → Among r rs × (r.key ≡ k)
among_found lt o k r [] = λ e. let z : ◌≡◌ {A = ℕ} 0 1 = cc in let b : ⊥ = omega arith in absurd b
among_found lt o k r (s ∷ ss) =
    cond_both (same lt k s.key) (Some s) (found lt k ss) (λ z. z ≡ Some r → Among r (s ∷ ss) × (r.key ≡ k))
    (λ t e. let q : r ≡ s = cc in (inl q, ap (λ z. z.key) q ∙ sym (same_is lt o k s.key t)))
    (λ t e. let q = among_found lt o k r ss e in (inr q.0, q.1))

pub tells_of : {K : Type 0} (k : K) (r : Row K) (ts : List ℕ) → folded k ts None ≡ Some r → Tells r ts
tells_of k r [] e = let z : ◌≡◌ {A = ℕ} 0 1 = cc in let b : ⊥ = omega arith in absurd b
tells_of k r (t ∷ ts) e =
    let f = folded_some k ts (fresh k t) in
    let w : Row _ = record { key = k; count = 1 + length ts; first = low_from t ts; last = high_from t ts } in
    let q : w ≡ r = cc in
    let v : Tells w (t ∷ ts) = record { count = omega arith; first = least t ts; last = greatest t ts } in
    subst (λ z. Tells z (t ∷ ts)) q v

pub times_some : {K : Type 0} (k : K) (t : ℕ) (ts : List ℕ) → (r : Row K) × (folded k (t ∷ ts) None ≡ Some r)
times_some k t ts = (_, folded_some k ts (fresh k t))

pub met-more : {K : Type 0} (lt : K → K → Bool) (j : K) (k : Option K) (t : ℕ) (ts : List ℕ) → (r : Row K) × (folded j ts None ≡ Some r) → (r : Row K) × (folded j (times_of lt j k t ts) None ≡ Some r)
met-more lt j None t ts h = h
met-more lt j (Some k) t ts h = cond_both (same lt j k) (t ∷ ts) ts (λ z. (r : Row _) × (folded j z None ≡ Some r)) (λ _. times_some j t ts) (λ _. h)

pub times-met : {K : Type 0} (lt : K → K → Bool) (of : Orbit → Option K) → Order lt → (k : K) (s : Orbit) (items : List Orbit) → Among s items → of s ≡ Some k →
    (r : Row K) × (folded k (times lt of k items) None ≡ Some r)
unfolding times
times-met lt of o k s [] m e = absurd m
times-met lt of o k s (x ∷ xs) m e =
    ⊎_elim
    (λ q. let d : times_of lt k (of x) (instant x) (times lt of k xs) ≡ instant x ∷ times lt of k xs =
    ap (λ z. times_of lt k z (instant x) (times lt of k xs)) (ap of (sym q) ∙ e) ∙ cond-true _ _ _ (same_self lt o k) in
    let n = times_some k (instant x) (times lt of k xs) in
    (n.0, ap (λ z. folded k z None) d ∙ n.1))
    (λ n. met-more lt k (of x) (instant x) _ (times-met lt of o k s xs n e))
    m

pub recount : {K : Type 0} (lt : K → K → Bool) (of : Orbit → Option K) → Order lt → (items : List Orbit) → Recount lt of items (rows_of lt of items)
unfolding total_of
recount lt of o items =
    let a = ascends_noted lt of o items [] tt in
    record {
      ascends = a;
      total = total-noted lt of items [] ∙ (omega arith);
      tells = λ r m. tells_of r.key r _ (sym (found-noted lt of o r.key items [] tt) ∙ found_among lt o r _ a m);
      whole = λ s k m e. let n = times-met lt of o k s items m e in (n.0, among_found lt o k n.0 _ (found-noted lt of o k items [] tt ∙ n.1));
    }
