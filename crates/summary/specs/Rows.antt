-- The recount of orbit records by a key: its rows, and the laws that say what they tell.
use Rattle.std.specs.Prelude.{◌≡◌, ℕ, ◌+◌, ◌≤◌, min, max, Bool, true, cond, not, ◌&&◌, ◌⊎◌, List, [], ◌∷◌, length, Some, None, Option}
use Rattle.std.specs.List.{slice_get}
use Rattle.std.specs.Coded.{×_prop, Unit-prop}
use mathlib.Core.Bool.{Bool-set}
use Rattle.orbit.specs.Orbits.{Orbit}
use Rattle.orbit.specs.Orbits.{instant}
use Rattle.summary.specs.declared.table.Row.{Row}

-- neither key is below the other
abbrev pub same : {K : Type 0} → (K → K → Bool) → K → K → Bool
same lt a b = not (lt a b) && not (lt b a)

-- one record of a key: a new row, or one more in the row that the key has
abbrev pub fresh : {K : Type 0} → K → ℕ → Row K
fresh k t = record { key = k; count = 1; first = t; last = t }

abbrev pub more : {K : Type 0} → ℕ → Row K → Row K
more t r = record { key = r.key; count = r.count + 1; first = min r.first t; last = max r.last t }

unfoldable pub note : {K : Type 0} → (K → K → Bool) → K → ℕ → List (Row K) → List (Row K)
note lt k t [] = fresh k t ∷ []
note lt k t (r ∷ rs) = cond (lt r.key k) (r ∷ note lt k t rs) (cond (lt k r.key) (fresh k t ∷ r ∷ rs) (more t r ∷ rs))

abbrev pub note_of : {K : Type 0} → (K → K → Bool) → Option K → ℕ → List (Row K) → List (Row K)
note_of lt None t rows = rows
note_of lt (Some k) t rows = note lt k t rows

unfoldable pub noted : {K : Type 0} → (K → K → Bool) → (Orbit → Option K) → List Orbit → List (Row K) → List (Row K)
noted lt of [] rows = rows
noted lt of (x ∷ xs) rows = noted lt of xs (note_of lt (of x) (instant x) rows)

-- the recount of some records: each record that has a key is noted, in order
abbrev pub rows_of : {K : Type 0} → (K → K → Bool) → (Orbit → Option K) → List Orbit → List (Row K)
rows_of lt of xs = noted lt of xs []

-- the rows whose keys are above a key, or all
abbrev pub passes : {K : Type 0} → (K → K → Bool) → Option K → K → Bool
passes lt None k = true
passes lt (Some a) k = lt a k

unfoldable pub over : {K : Type 0} → (K → K → Bool) → Option K → List (Row K) → List (Row K)
over lt a [] = []
over lt a (r ∷ rs) = cond (passes lt a r.key) (r ∷ over lt a rs) (over lt a rs)

-- the key, where it is above
abbrev pub kept : {K : Type 0} → (K → K → Bool) → Option K → Option K → Option K
kept lt a None = None
kept lt a (Some k) = cond (passes lt a k) (Some k) None

-- the key of a row, and of the last of 64 rows
abbrev pub key_of : {K : Type 0} → Option (Row K) → Option K
key_of None = None
key_of (Some r) = Some r.key

abbrev pub highest_of : {K : Type 0} → List (Row K) → Option K
highest_of rows = key_of (slice_get rows 63)

-- what the laws speak of
abbrev pub Among : {A : Type 0} → A → List A → Type 0
Among x [] = ⊥
Among x (y ∷ ys) = (x ≡ y) ⊎ Among x ys

abbrev pub AllAbove : {K : Type 0} → (K → K → Bool) → K → List (Row K) → Type 0
AllAbove lt k [] = Unit {0}
AllAbove lt k (r ∷ rs) = (lt k r.key ≡ true) × AllAbove lt k rs

abbrev pub Ascends : {K : Type 0} → (K → K → Bool) → List (Row K) → Type 0
Ascends lt [] = Unit {0}
Ascends lt (r ∷ rs) = AllAbove lt r.key rs × Ascends lt rs

-- either is a fact that has one proof at most
pub AllAbove-prop : {K : Type 0} (lt : K → K → Bool) (k : K) (rs : List (Row K)) → IsProp (AllAbove lt k rs)
AllAbove-prop lt k [] = Unit-prop
AllAbove-prop lt k (r ∷ rs) = ×_prop (Bool-set _ _) (AllAbove-prop lt k rs)

pub Ascends-prop : {K : Type 0} (lt : K → K → Bool) (rs : List (Row K)) → IsProp (Ascends lt rs)
Ascends-prop lt [] = Unit-prop
Ascends-prop lt (r ∷ rs) = ×_prop (AllAbove-prop lt r.key rs) (Ascends-prop lt rs)

-- the times of the records of one key, in order
abbrev pub times_of : {K : Type 0} → (K → K → Bool) → K → Option K → ℕ → List ℕ → List ℕ
times_of lt k None t ts = ts
times_of lt k (Some j) t ts = cond (same lt k j) (t ∷ ts) ts

unfoldable pub times : {K : Type 0} → (K → K → Bool) → (Orbit → Option K) → K → List Orbit → List ℕ
times lt of k [] = []
times lt of k (x ∷ xs) = times_of lt k (of x) (instant x) (times lt of k xs)

-- how many records have a key
abbrev pub one_if : {K : Type 0} → Option K → ℕ
one_if None = 0
one_if (Some k) = 1

unfoldable pub met : {K : Type 0} → (Orbit → Option K) → List Orbit → ℕ
met of [] = 0
met of (x ∷ xs) = one_if (of x) + met of xs

unfoldable pub total_of : {K : Type 0} → List (Row K) → ℕ
total_of [] = 0
total_of (r ∷ rs) = r.count + total_of rs

pub record Least (t : ℕ) (ts : List ℕ) : Type 0 where
  pub there : Among t ts
  pub bounds : (u : ℕ) → Among u ts → t ≤ u

pub record Greatest (t : ℕ) (ts : List ℕ) : Type 0 where
  pub there : Among t ts
  pub bounds : (u : ℕ) → Among u ts → u ≤ t

-- a row tells of the times of its key
pub record Tells {K : Type 0} (r : Row K) (ts : List ℕ) : Type 0 where
  pub count : r.count ≡ length ts
  pub first : Least r.first ts
  pub last : Greatest r.last ts

-- the rows are a recount of the records: their keys ascend, each row tells of the records of its key, each key that is met
-- has its row, and the counts sum to the records that have a key
pub record Recount {K : Type 0} (lt : K → K → Bool) (of : Orbit → Option K) (xs : List Orbit) (rows : List (Row K)) : Type 0 where
  pub ascends : Ascends lt rows
  pub total : total_of rows ≡ met of xs
  pub tells : (r : Row K) → Among r rows → Tells r (times lt of r.key xs)
  pub whole : (x : Orbit) (k : K) → Among x xs → of x ≡ Some k → (r : Row K) × (Among r rows × (r.key ≡ k))
