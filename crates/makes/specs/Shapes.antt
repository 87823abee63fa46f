-- How the makes lay packets out in blocks, and the cells that a memory has under each.
use Rattle.std.specs.Prelude.{◌≡◌, ℕ, zero, suc, ◌+◌, ◌*◌, ◌/◌, ◌%◌, ◌<◌, ◌≤◌, min, Bool, false, cond, ◌&&◌, ◌||◌, ◌≢◌, ◌⊎◌, List, [], ◌∷◌, ◌++◌, length, take, drop, Some, None, Option, ◌==◌, nat_le, nat_lt, slice_index, slice_index_or}
use Rattle.std.specs.List.{AllByRecursion}
use Rattle.carrier.specs.Cells.{Cell, holds, damaged, cell_at}

-- a make: bytes in a block, packets in it, where the first begins, and the bytes that are fixed, each by its place in the
-- block and its value, in rising order
pub record Shape : Type 0 where
  pub block : ℕ
  pub packets : ℕ
  pub first : ℕ
  pub fixed : List (ℕ × ℕ)

-- n bytes of hex 88 from place j on
abbrev pub run : ℕ → ℕ → List (ℕ × ℕ)
run j zero = []
run j (suc n) = (j, 0x88) ∷ run (suc j) n

abbrev pub disk : Shape
disk = record { block = 8064; packets = 224; first = 0; fixed = [] }

abbrev pub block1200 : Shape
block1200 = record { block = 150; packets = 3; first = 16; fixed = (15, 0) ∷ run 124 20 }

abbrev pub block4800 : Shape
block4800 = record { block = 600; packets = 16; first = 16; fixed = (15, 0) ∷ run 592 2 }

-- a place of the block that no packet takes
abbrev pub Free : Shape → ℕ → Type 0
Free sh j = (j < sh.first) ⊎ (sh.first + 36 * sh.packets ≤ j)

-- places that rise, from low on
abbrev pub Rising : ℕ → List (ℕ × ℕ) → Type 0
Rising low [] = Unit {0}
Rising low (f ∷ fs) = (low ≤ f.0) × Rising (f.0 + 1) fs

-- what holds of every make
pub record Sound (sh : Shape) : Type 0 where
  pub some : 0 < sh.packets
  pub room : sh.first + 36 * sh.packets ≤ sh.block
  pub short : sh.block ≤ 65536
  pub apart : AllByRecursion (λ f. (f.0 < sh.block) × Free sh f.0) sh.fixed
  pub rising : Rising 0 sh.fixed

-- how many cells a memory of n bytes has: those of its whole blocks, at most a million
abbrev pub count_for : Shape → ℕ → ℕ
count_for sh n = min (n / sh.block * sh.packets) 1000000

abbrev pub count_of : Shape → List ℕ → ℕ
count_of sh m = count_for sh (length m)

-- where the block of cell k begins
abbrev pub start_of : Shape → ℕ → ℕ
start_of sh k = k / sh.packets * sh.block

-- where the packet of cell k begins
abbrev pub place_of : Shape → ℕ → ℕ
place_of sh k = start_of sh k + sh.first + 36 * (k % sh.packets)

-- the first fixed byte that is wrong in the block that begins at start, counted from the start of the memory
abbrev pub wrong_in : List (ℕ × ℕ) → ℕ → List ℕ → Option ℕ
wrong_in [] start m = None
wrong_in (f ∷ fs) start m = cond (slice_index m (start + f.0) == f.1) (wrong_in fs start m) (Some (start + f.0))

abbrev pub cell_from : Option ℕ → List ℕ → Cell
cell_from None p = holds p
cell_from (Some j) p = damaged j

-- cell k of a memory: damaged exactly when a fixed byte of its block is wrong
abbrev pub cell_of : Shape → List ℕ → ℕ → Cell
cell_of sh m k = cell_from (wrong_in sh.fixed (start_of sh k) m) (take 36 (drop (place_of sh k) m))

-- f 0, f 1 .. f (n - 1)
unfoldable pub tab : {A : Type 0} → ℕ → (ℕ → A) → List A
tab zero f = []
tab (suc n) f = f 0 ∷ tab n (λ i. f (suc i))

-- the cells of a memory
unfoldable pub cells_of : Shape → List ℕ → List Cell
cells_of sh m = tab (count_of sh m) (cell_of sh m)

-- cell k holds a packet, which begins at place
pub record Located (sh : Shape) (m : List ℕ) (k place : ℕ) : Type 0 where
  pub placed : place ≡ place_of sh k
  pub within : k < count_of sh m
  pub fits : place + 36 ≤ length m
  pub held : cell_at (cells_of sh m) k ≡ Some (holds (take 36 (drop place m)))

-- the memory after PUT of p into cell k, where cell k is as told: only the 36 bytes of the cell change
abbrev pub written_at : Option Cell → Shape → List ℕ → ℕ → List ℕ → List ℕ
written_at None sh m k p = m
written_at (Some (holds q)) sh m k p = take (place_of sh k) m ++ (p ++ drop (place_of sh k + 36) m)
written_at (Some (damaged b)) sh m k p = m

-- the memory after PUT of p into cell k
abbrev pub written : Shape → List ℕ → ℕ → List ℕ → List ℕ
written sh m k p = written_at (cell_at (cells_of sh m) k) sh m k p

-- byte j lies in one of the cells below n
abbrev pub in_cells : Shape → ℕ → ℕ → Bool
in_cells sh zero j = false
in_cells sh (suc n) j = (nat_le (place_of sh n) j && nat_lt j (place_of sh n + 36)) || in_cells sh n j

-- a memory but for its cells, whose bytes are shown as zero
unfoldable pub outside_of : Shape → List ℕ → List ℕ
outside_of sh m = tab (length m) (λ j. cond (in_cells sh (count_of sh m) j) 0 (slice_index m j))

-- what every writing call on a carrier over a memory keeps: how it is laid out, which memory it is, by its ghost name, and
-- that memory but for its cells
pub record Kept : Type 0 where
  pub shape : Shape
  pub name : ℕ
  pub outside : List ℕ

abbrev pub kept_of : Shape → ℕ → List ℕ → Kept
kept_of sh n m = record { shape = sh; name = n; outside = outside_of sh m }

-- byte j is none of the fixed bytes of the block that begins at start
abbrev pub NotFixed : List (ℕ × ℕ) → ℕ → ℕ → Type 0
NotFixed fs start j = (i : ℕ) → i < length fs → start + (slice_index_or fs i (0, 0)).0 ≢ j

-- byte j is neither in cell k nor a fixed byte of its block
pub record Apart (sh : Shape) (k j : ℕ) : Type 0 where
  pub fixed : NotFixed sh.fixed (start_of sh k) j
  pub packet : (j < place_of sh k) ⊎ (place_of sh k + 36 ≤ j)
