-- The rules of a label's items, and its nine words.
use Rattle.std.specs.Prelude.{ℕ, ◌+◌, ◌-◌, ◌*◌, ◌/◌, ◌%◌, ◌^◌, Bool, ◌||◌, List, [], ◌∷◌, ◌++◌, map, ◌==◌, slice_index}
use Rattle.std.specs.List.{range_with_len}
use Rattle.record.specs.Rules.{lowest, within}
use Rattle.label.specs.Calendar.{is_date, is_time}
use Rattle.label.specs.declared.label.LabelItems.{LabelItems}

-- character k of a text of eight, counted from 0: the first is in the top byte
abbrev pub character : ℕ → ℕ → ℕ
character text k = text / 2 ^ (56 - 8 * k) % 256

abbrev pub character_rule : ℕ → ℕ → Bool
character_rule text k = within 0x20 0x7E (character text k)

-- the rules of a text's eight characters
abbrev pub text_rules : ℕ → List Bool
text_rules text = map (character_rule text) (range_with_len 0 8)

-- items 1 to 21, in order
abbrev pub label_rules : LabelItems → List Bool
label_rules i = text_rules i.system ++ text_rules i.program ++ within 1 1023 i.spacecraft ∷ is_date i.date ∷ is_time i.time ∷ (i.refdate == 0 || i.refdate == 19500101) ∷ (i.reftime == 0) ∷ []

-- the lowest item that breaks its rule; 0 where none does
unfoldable pub bad_label : LabelItems → ℕ
bad_label i = lowest 1 (label_rules i)

-- the lowest bad item, and what the two texts have beyond 64 bits: 0 for a label
abbrev pub unfit : LabelItems → ℕ
unfit i = bad_label i + i.system / 2 ^ 64 + i.program / 2 ^ 64

unfoldable pub label_words : LabelItems → List ℕ
label_words i = i.system / 2 ^ 32 ∷ i.system % 2 ^ 32 ∷ i.program / 2 ^ 32 ∷ i.program % 2 ^ 32 ∷ i.spacecraft ∷ i.date ∷ i.time ∷ i.refdate ∷ i.reftime ∷ []

unfoldable pub label_of : List ℕ → LabelItems
label_of w = record { system = slice_index w 0 * 2 ^ 32 + slice_index w 1; program = slice_index w 2 * 2 ^ 32 + slice_index w 3; spacecraft = slice_index w 4; date = slice_index w 5; time = slice_index w 6; refdate = slice_index w 7; reftime = slice_index w 8 }
