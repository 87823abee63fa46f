-- A packet as the list of its 36 bytes, and its nine words, the most significant byte of each first.
use Rattle.std.specs.Prelude.{ℕ, ◌+◌, ◌-◌, ◌*◌, ◌/◌, ◌%◌, ◌^◌, Bool, ◌&&◌, List, map, replicate, ◌==◌, slice_index}
use Rattle.std.specs.List.{range_with_len}

-- 36 bytes of hex 88
abbrev pub filler : List ℕ
filler = replicate 36 0x88

-- the number that the four bytes from place a on make
abbrev pub number : List ℕ → ℕ → ℕ
number p a = slice_index p a * 16777216 + slice_index p (a + 1) * 65536 + slice_index p (a + 2) * 256 + slice_index p (a + 3)

-- word n of a packet, counted from 1
abbrev pub word : List ℕ → ℕ → ℕ
word p n = number p (4 * (n - 1))

-- byte j of the packet of some words: the first four are those of the first word
unfoldable pub byte : List ℕ → ℕ → ℕ
byte ws j = slice_index ws (j / 4) / 256 ^ (3 - j % 4) % 256

unfoldable pub words_of : List ℕ → List ℕ
words_of p = map (word p) (range_with_len 1 9)

unfoldable pub bytes_of : List ℕ → List ℕ
bytes_of ws = map (byte ws) (range_with_len 0 36)

-- words 5 and 6 are both zero
abbrev pub header_like : List ℕ → Bool
header_like p = word p 5 == 0 && word p 6 == 0
