-- A lawful label by its items, and by nine words.
use Rattle.std.specs.Prelude.{◌≡◌, ℕ, List, Option}
use Rattle.record.specs.Kinds.{made as made_by, packed_by, unpacked_by, bad_by}
use Rattle.record.specs.declared.kind.Packed.{Ghosts as PackedGhosts}
use Rattle.record.specs.declared.lawful.Items.{Ghosts as ItemsGhosts}
use Rattle.record.specs.declared.lawful.Lawful.{Lawful}
use Rattle.label.specs.LabelRules.{bad_label, unfit, label_words, label_of}
use Rattle.label.specs.declared.label.LabelItems.{LabelItems}

-- the rules of a label's items, and the nine words that they lie in
abbrev pub rules : ItemsGhosts LabelItems
rules = record { bad = bad_label; unfit = unfit }

abbrev pub words : PackedGhosts LabelItems
words = record { packed = label_words; unpacked = label_of }

abbrev pub Label : Type 0
Label = Lawful LabelItems rules

abbrev pub items_of : Label → LabelItems
items_of x = x.items

-- the label of items that fit
abbrev pub made : (i : LabelItems) → unfit i ≡ 0 → Label
made = made_by rules

abbrev pub packed : Label → List ℕ
packed = packed_by rules words

abbrev pub unpacked : List ℕ → Option Label
unpacked = unpacked_by rules words

abbrev pub bad : List ℕ → ℕ
bad = bad_by rules words
