-- The orbit records in a row of cells.
use Rattle.std.proofs.Common.{◌≡◌, ℕ, zero, suc, ◌+◌, ◌-◌, ◌<◌, ◌≤◌, min, false, List, [], ◌∷◌, ◌++◌, map, length, get_or, take, drop, is_err, Some, None, Option, sym, refl, ap, ◌∙◌, arith}
use Rattle.std.proofs.lemmas.List.{take_more, take_min, drop_min, length-drop, get_or-drop}
use Rattle.std.proofs.lemmas.Bool.{cond-false}
use Rattle.std.specs.Result.{result_ok}
use Rattle.packet.specs.Packets.{words_of, bytes_of, header_like}
use Rattle.packet.proofs.PacketLaws.{words_back}
use Rattle.carrier.specs.Cells.{Cell, holds, damaged, cell_at, reply, filled}
use Rattle.record.specs.Kinds.{judged, plain}
use Rattle.record.proofs.Data.{no_header}
use Rattle.orbit.specs.Orbits.{Orbit}
use Rattle.orbit.specs.Orbits.{packed, unpacked, bad}
use Rattle.orbit.specs.OrbitKindLaws.{read_back, headless, nine_words, narrow}
use Rattle.summary.specs.Found.{orbit_in, orbit_at, before, orbits_in}

before_push : (o : Option Orbit) (xs ys : List Orbit) → before o (xs ++ ys) ≡ before o xs ++ ys
before_push None xs ys = refl
before_push (Some x) xs ys = refl

orbits_push : (cs : List Cell) (c : Cell) → orbits_in (cs ++ c ∷ []) ≡ orbits_in cs ++ before (orbit_in c) []
unfolding orbits_in
orbits_push [] c = refl
orbits_push (d ∷ cs) c = ap (before (orbit_in d)) (orbits_push cs c) ∙ before_push (orbit_in d) (orbits_in cs) _

at_place : (cells : List Cell) (k : ℕ) (d : Cell) → k < length cells → cell_at cells k ≡ Some (get_or cells k d)
at_place [] k d h = absurd (omega arith)
at_place (c ∷ cs) zero d h = refl
at_place (c ∷ cs) (suc k) d h = at_place cs k d (omega arith)

-- the records from cell s on, with one cell more
pub orbits-more : (cells : List Cell) (s k : ℕ) → s ≤ k → k < length cells →
    orbits_in (take (k + 1 - s) (drop s cells)) ≡ orbits_in (take (k - s) (drop s cells)) ++ before (orbit_at (cell_at cells k)) []
orbits-more cells s k l h =
    let d = damaged 0 in
    let e : k + 1 - s ≡ k - s + 1 = omega arith in
    let f : s + (k - s) ≡ k = omega arith in
    let n : length (drop s cells) ≡ length cells - s = length-drop s cells in
    ap (λ (z : ℕ). orbits_in (take z (drop s cells))) e
    ∙ ap orbits_in (take_more (drop s cells) (k - s) d (omega arith))
    ∙ orbits_push (take (k - s) (drop s cells)) (get_or (drop s cells) (k - s) d)
    ∙ ap (λ z. orbits_in (take (k - s) (drop s cells)) ++ before (orbit_in z) []) (get_or-drop s cells (k - s) d ∙ ap (λ (z : ℕ). get_or cells z d) f)
    ∙ ap (λ z. orbits_in (take (k - s) (drop s cells)) ++ before (orbit_at z) []) (sym (at_place cells k d h))

before_few : (o : Option Orbit) (xs : List Orbit) → length (before o xs) ≤ length xs + 1
before_few None xs = omega arith
before_few (Some x) xs = omega arith

-- no more records than cells
pub orbits_few : (cs : List Cell) → length (orbits_in cs) ≤ length cs
unfolding orbits_in
orbits_few [] = omega arith
orbits_few (c ∷ cs) = let h = orbits_few cs in let i = before_few (orbit_in c) (orbits_in cs) in omega arith

-- a stretch that may reach beyond the end, and its cells
pub clipped : {X : Type 0} (xs : List X) (from count s n : ℕ) → s ≡ min from (length xs) → n ≡ min count (length xs - s) → take n (drop s xs) ≡ take count (drop from xs)
clipped xs from count s n p q =
    ap (λ (z : ℕ). take z (drop s xs)) (q ∙ ap (min count) (sym (length-drop s xs)))
    ∙ take_min count (drop s xs)
    ∙ ap (λ (z : ℕ). take count (drop z xs)) p
    ∙ ap (take count) (drop_min from xs)

ok_judged : (k b : ℕ) (o : Option Orbit) → result_ok (judged k b 0 o) ≡ o
ok_judged k b None = refl
ok_judged k b (Some x) = refl

-- what is read from a cell is its record
pub found : (k : ℕ) (c : Option Cell) (p old : List ℕ) → is_err (reply k c) ≡ false → p ≡ filled c old → header_like p ≡ false → result_ok (plain unpacked bad k p) ≡ orbit_at c
found k None p old e f h = let z : ◌≡◌ {A = ℕ} 0 1 = cc in absurd (omega arith)
found k (Some (damaged b)) p old e f h = let z : ◌≡◌ {A = ℕ} 0 1 = cc in absurd (omega arith)
found k (Some (holds q)) p old e f h =
    ok_judged k (bad (words_of p)) (unpacked (words_of p)) ∙ ap (λ z. unpacked (words_of z)) f ∙ sym (cond-false _ _ _ (ap header_like (sym f) ∙ h))

-- the records of the packets of some records are those records
one_back : (x : Orbit) → orbit_in (holds (bytes_of (packed x))) ≡ Some x
one_back x =
    cond-false _ _ _ (no_header (packed x) (nine_words x) (narrow x) (λ e _. headless x e))
    ∙ ap unpacked (words_back (packed x) (bytes_of (packed x)) (nine_words x) (narrow x) refl)
    ∙ read_back x

pub orbits_back : (xs : List Orbit) → orbits_in (map (λ x. holds (bytes_of (packed x))) xs) ≡ xs
unfolding orbits_in
orbits_back [] = refl
orbits_back (x ∷ xs) = ap (λ z. before z (orbits_in (map (λ y. holds (bytes_of (packed y))) xs))) (one_back x) ∙ ap (λ z. x ∷ z) (orbits_back xs)
