-- Total orders, as tests.
use Rattle.std.specs.Prelude.{◌≡◌, ℕ, Bool, true, false, ◌&&◌, ◌||◌, List, [], ◌∷◌, ◌==◌, nat_lt}

pub record Order {K : Type 0} (lt : K → K → Bool) : Type 0 where
  pub irreflexive : (x : K) → lt x x ≡ false
  pub transitive : (x y z : K) → lt x y ≡ true → lt y z ≡ true → lt x z ≡ true
  pub connected : (x y : K) → lt x y ≡ false → lt y x ≡ false → x ≡ y

-- the order of lists of numbers, the first place first
abbrev pub lexb : List ℕ → List ℕ → Bool
lexb [] [] = false
lexb [] (y ∷ ys) = true
lexb (x ∷ xs) [] = false
lexb (x ∷ xs) (y ∷ ys) = nat_lt x y || (x == y && lexb xs ys)
