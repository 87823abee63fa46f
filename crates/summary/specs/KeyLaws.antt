-- The order of lists of numbers is total, and so is the order of keys.
use Rattle.std.specs.Prelude.{◌≡◌, ℕ, ◌<◌, Bool, true, false, cond, ◌||◌, ◌&&◌, ◌⊎◌, List, [], ◌∷◌, ◌==◌, nat_lt, slice_index, refl}
use Rattle.std.proofs.Common.{sym, ap, ◌∙◌, inl, inr, ⊎_elim, arith}
use Rattle.std.proofs.lemmas.Bool.{both_ways, or_cases, or_parts, or_left, or_right, and_parts, and_from, or_from, ltb-true, ltb-false, eqb-true, lt-ltb, le-ltb, eq-eqb}
use Rattle.std.specs.Ordering.{nat_cmp, ordering_then, is_lt}
use Rattle.std.specs.declared.cmp.Ordering.{Ordering}
use Rattle.std.specs.declared.cmp.Ordering.TheVariants.{Less, Equal, Greater}
use Rattle.summary.specs.Orders.{Order, lexb}
use Rattle.summary.specs.SummaryKeys.{ranks, summary_lt}
use Rattle.summary.specs.declared.summary_key.SummaryKey.{SummaryKey}

lex_irreflexive : (xs : List ℕ) → lexb xs xs ≡ false
lex_irreflexive [] = refl
lex_irreflexive (x ∷ xs) = or_from _ _ (le-ltb x x (omega arith)) (ap (λ z. (x == x) && z) (lex_irreflexive xs) ∙ off (x == x))
  where
    off : (b : Bool) → (b && false) ≡ false
    off true = refl
    off false = refl

-- the ways of being before
ways : (x y : ℕ) (xs ys : List ℕ) → lexb (x ∷ xs) (y ∷ ys) ≡ true → (x < y) ⊎ ((x ≡ y) × (lexb xs ys ≡ true))
ways x y xs ys e = ⊎_elim (λ h. inl (ltb-true x y h)) (λ h. let p = and_parts _ _ h in inr (eqb-true x y p.0, p.1)) (or_cases _ _ e)

lex_transitive : (xs ys zs : List ℕ) → lexb xs ys ≡ true → lexb ys zs ≡ true → lexb xs zs ≡ true
lex_transitive [] [] [] e f = e
lex_transitive [] [] (z ∷ zs) e f = refl
lex_transitive [] (y ∷ ys) [] e f = f
lex_transitive [] (y ∷ ys) (z ∷ zs) e f = refl
lex_transitive (x ∷ xs) [] [] e f = e
lex_transitive (x ∷ xs) [] (z ∷ zs) e f = let b : ⊥ = both_ways false refl e in absurd b
lex_transitive (x ∷ xs) (y ∷ ys) [] e f = f
lex_transitive (x ∷ xs) (y ∷ ys) (z ∷ zs) e f =
    ⊎_elim
    (λ a. ⊎_elim (λ b. or_left _ _ (lt-ltb x z (omega arith))) (λ b. or_left _ _ (lt-ltb x z (omega arith))) (ways y z ys zs f))
    (λ a. ⊎_elim (λ b. or_left _ _ (lt-ltb x z (omega arith)))
    (λ b. or_right _ _ (and_from _ _ (eq-eqb x z (a.0 ∙ b.0)) (lex_transitive xs ys zs a.1 b.1))) (ways y z ys zs f))
    (ways x y xs ys e)

lex_connected : (xs ys : List ℕ) → lexb xs ys ≡ false → lexb ys xs ≡ false → xs ≡ ys
lex_connected [] [] e f = refl
lex_connected [] (y ∷ ys) e f = let b : ⊥ = both_ways true e refl in absurd b
lex_connected (x ∷ xs) [] e f = let b : ⊥ = both_ways true f refl in absurd b
lex_connected (x ∷ xs) (y ∷ ys) e f =
    let p = or_parts _ _ e in
    let q = or_parts _ _ f in
    let a = ltb-false x y p.0 in
    let b = ltb-false y x q.0 in
    let s : x ≡ y = omega arith in
    let u : lexb xs ys ≡ false = ap (λ z. z && lexb xs ys) (sym (eq-eqb x y s)) ∙ p.1 in
    let v : lexb ys xs ≡ false = ap (λ z. z && lexb ys xs) (sym (eq-eqb y x (sym s))) ∙ q.1 in
    let t = lex_connected xs ys u v in
    cc

ranks_apart : (x y : SummaryKey) → ranks x ≡ ranks y → x ≡ y
ranks_apart x y t = ap (λ (l : List ℕ). record { receiver = slice_index l 0; downlink = slice_index l 1; kind = slice_index l 2; channel = slice_index l 3 }) t

pub summary_ordered : Order summary_lt
summary_ordered = record {
  irreflexive = λ x. lex_irreflexive (ranks x);
  transitive = λ x y z. lex_transitive (ranks x) (ranks y) (ranks z);
  connected = λ x y e f. ranks_apart x y (lex_connected (ranks x) (ranks y) e f);
}

-- one more number to compare
cmp_more : (a b : ℕ) (below : Bool) (o : Ordering) → below ≡ is_lt o → (nat_lt a b || (a == b && below)) ≡ is_lt (ordering_then (nat_cmp a b) o)
cmp_more a b below o e = go (nat_lt a b) (a == b)
  where
    go : (less level : Bool) → (less || (level && below)) ≡ is_lt (ordering_then (cond less Less (cond level Equal Greater)) o)
    go true level = refl
    go false true = e
    go false false = refl

cmp_last : (a b : ℕ) → (nat_lt a b || (a == b && false)) ≡ is_lt (nat_cmp a b)
cmp_last a b = go (nat_lt a b) (a == b)
  where
    go : (less level : Bool) → (less || (level && false)) ≡ is_lt (cond less Less (cond level Equal Greater))
    go true level = refl
    go false true = refl
    go false false = refl

-- `cmp` of two keys, field by field, answers by their order
pub summary_compares : (x y : SummaryKey) → summary_lt x y ≡ is_lt (ordering_then (nat_cmp x.receiver y.receiver) (ordering_then (nat_cmp x.downlink y.downlink) (ordering_then (nat_cmp x.kind y.kind) (nat_cmp x.channel y.channel))))
summary_compares x y =
    let channel = cmp_last x.channel y.channel in
    let kind = cmp_more x.kind y.kind _ _ channel in
    let downlink = cmp_more x.downlink y.downlink _ _ kind in
    cmp_more x.receiver y.receiver _ _ downlink
