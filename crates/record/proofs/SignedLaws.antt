-- Signed numbers of 32 bits, and the words that they lie in.
use Rattle.std.proofs.Common.{◌≡◌, ◌^◌, ◌<◌, true, ℤ, arith, w32, SFits, to_z, of_z}
use Rattle.std.proofs.lemmas.Int.{to_z-of_z, ints}
use Rattle.record.specs.Rules.{paired, signed32}

pub paired_signed : (a b : ℤ) → paired a b ≡ true → signed32 b ≡ true
paired_signed a b h = grind (arith, ints)

pub fits : (z : ℤ) → signed32 z ≡ true → SFits w32 z
fits z h = record { sfits = grind (arith, ints) }

pub number_back : (z : ℤ) → signed32 z ≡ true → to_z w32 (of_z w32 z) ≡ z
number_back z h = to_z-of_z w32 z (fits z h)

pub word_below : (z : ℤ) → signed32 z ≡ true → of_z w32 z < 2 ^ 32
word_below z h = let m = (fits z h).sfits in grind (arith, ints)
