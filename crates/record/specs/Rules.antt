-- Rules of items.
use Rattle.std.specs.Prelude.{ℕ, zero, suc, Some, None, Option, Bool, true, false, not, ◌&&◌, List, [], ◌∷◌, ℤ, pos, negsuc, int_le, int_lt, nat_le}

-- the lowest place, counted from i, of a rule that is broken; 0 where each is kept
abbrev pub lowest : ℕ → List Bool → ℕ
lowest i [] = 0
lowest i (true ∷ bs) = lowest (suc i) bs
lowest i (false ∷ bs) = i

-- from a least number to a most
abbrev pub within : ℕ → ℕ → ℕ → Bool
within least most n = nat_le least n && nat_le n most

-- a signed pair: the billionths are fewer than a whole, and never of the opposite sign
abbrev pub paired : ℤ → ℤ → Bool
paired whole part = int_le (negsuc 999999998) part && int_le part (pos 999999999) && not (int_lt whole (pos 0) && int_lt (pos 0) part) && not (int_lt (pos 0) whole && int_lt part (pos 0))

-- a number of 32 bits, two's complement
abbrev pub signed32 : ℤ → Bool
signed32 z = int_le (negsuc 2147483647) z && int_le z (pos 2147483647)

-- the item that breaks its rule, if one does: no item has the number 0
abbrev pub broken : ℕ → Option ℕ
broken zero = None
broken (suc n) = Some (suc n)
