-- The packet that says what kind of file follows.
use Rattle.std.specs.Prelude.{ℕ, Bool, List, map, codes, ◌==◌, slice_index}
use Rattle.std.specs.List.{range_with_len}
use Rattle.record.specs.Rules.{lowest}

-- the codes of its 36 characters
abbrev pub identifier : List ℕ
identifier = codes "TIMETAG OBSRVBL FREQ, ANCILLARY-DATA"

-- whether character k of a packet is the identifier's
abbrev pub same_character : List ℕ → ℕ → Bool
same_character p k = slice_index p k == slice_index identifier k

abbrev pub same_characters : List ℕ → List Bool
same_characters p = map (same_character p) (range_with_len 0 36)

-- the lowest character, counted from 1, that differs from the identifier's; 0 where none does
unfoldable pub bad_identifier : List ℕ → ℕ
bad_identifier p = lowest 1 (same_characters p)
