-- The whole table is computed once, by one test.
use Rattle.std.proofs.Common.{◌≡◌, Bool, true, false, ◌&&◌, eqb, List, [], ◌∷◌, ℤ, pos, negsuc, ap}
use Rattle.std.specs.List.{AllByRecursion}
use Rattle.std.proofs.lemmas.Bool.{eqb-true, and_parts, false≢true}

unfoldable pub same : ℤ → ℤ → Bool
same (pos a) (pos b) = eqb a b
same (pos a) (negsuc b) = false
same (negsuc a) (pos b) = false
same (negsuc a) (negsuc b) = eqb a b

same_true : (a b : ℤ) → same a b ≡ true → a ≡ b
unfolding same
same_true (pos a) (pos b) h = ap pos (eqb-true a b h)
same_true (pos a) (negsuc b) h = absurd (false≢true h)
same_true (negsuc a) (pos b) h = absurd (false≢true h)
same_true (negsuc a) (negsuc b) h = ap negsuc (eqb-true a b h)

unfoldable pub test : List (ℤ × ℤ) → Bool
test [] = true
test (e ∷ es) = same e.0 e.1 && test es

pub tested : (es : List (ℤ × ℤ)) → test es ≡ true → AllByRecursion (λ e. e.0 ≡ e.1) es
unfolding test
tested [] h = tt
tested (e ∷ es) h = let p = and_parts (same e.0 e.1) (test es) h in (same_true e.0 e.1 p.0, tested es p.1)
