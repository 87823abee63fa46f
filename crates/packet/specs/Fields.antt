-- Fields of fixed widths that fill a number from its top bit.
use Rattle.std.specs.Prelude.{ℕ, ◌+◌, ◌*◌, ◌/◌, ◌%◌, ◌^◌, ◌<◌, List, [], ◌∷◌}

-- the bits of all fields
abbrev pub total : List ℕ → ℕ
total [] = 0
total (w ∷ ws) = w + total ws

-- the number that has the values in its fields, the first on top
unfoldable pub join : List ℕ → List ℕ → ℕ
join [] vs = 0
join (w ∷ ws) [] = 0
join (w ∷ ws) (v ∷ vs) = v * 2 ^ total ws + join ws vs

-- the values in the fields of a number
unfoldable pub split : List ℕ → ℕ → List ℕ
split [] n = []
split (w ∷ ws) n = n / 2 ^ total ws % 2 ^ w ∷ split ws n

-- each value fits its field
abbrev pub Fill : List ℕ → List ℕ → Type 0
Fill [] [] = Unit {0}
Fill [] (v ∷ vs) = ⊥
Fill (w ∷ ws) [] = ⊥
Fill (w ∷ ws) (v ∷ vs) = (v < 2 ^ w) × Fill ws vs
