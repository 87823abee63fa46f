-- What holds of the records of every kind, from the laws of its items.
use Rattle.std.specs.Prelude.{◌≡◌, ℕ, ◌^◌, ◌<◌, List, length, Some, slice_index, refl}
use Rattle.std.proofs.Common.{ap, ◌∙◌}
use Rattle.record.specs.Kinds.{made, packed_by, unpacked_by, bad_by}
use Rattle.record.specs.declared.kind.Packed.{Ghosts as PackedGhosts}
use Rattle.record.specs.declared.lawful.Items.{Ghosts as ItemsGhosts}
use Rattle.record.specs.declared.lawful.Lawful.{Lawful}
use Rattle.record.proofs.Forming.{Forming, same as same_record, apart_by, forms, formed_items}

module _ {I : Type 0} (rules : ItemsGhosts I) where
  abbrev pub forming : Forming I (Lawful I rules)
  forming = record { bad = rules.unfit; made = made rules; items = λ x. x.items; kept = λ x. x.lawful; whole = λ x. refl; exact = λ i e. refl }

  -- two records with the same items are one
  pub same : (x y : Lawful I rules) → x.items ≡ y.items → x ≡ y
  same = same_record forming

  module _ (words : PackedGhosts I) (back : (i : I) → rules.unfit i ≡ 0 → words.unpacked (words.packed i) ≡ i) where
    -- a record is read back from its nine words
    pub read_back : (x : Lawful I rules) → unpacked_by rules words (packed_by rules words x) ≡ Some x
    read_back x = forms forming x (words.unpacked (words.packed x.items)) (back x.items x.lawful)

    -- no two records have the same nine words
    pub apart : (x y : Lawful I rules) → packed_by rules words x ≡ packed_by rules words y → x ≡ y
    apart = apart_by (packed_by rules words) (unpacked_by rules words) read_back

    -- the nine words of a record have no bad item
    pub lawful : ((i : I) → rules.unfit i ≡ 0 → rules.bad i ≡ 0) → (x : Lawful I rules) → bad_by rules words (packed_by rules words x) ≡ 0
    lawful keeps x = ap rules.bad (back x.items x.lawful) ∙ keeps x.items x.lawful

  -- nine words of 32 bits of which a record was made are its own
  pub given : (words : PackedGhosts I) → ((w : List ℕ) → length w ≡ 9 → ((k : ℕ) → slice_index w k < 2 ^ 32) → words.packed (words.unpacked w) ≡ w) → (w : List ℕ) (x : Lawful I rules) → length w ≡ 9 → ((k : ℕ) → slice_index w k < 2 ^ 32) → unpacked_by rules words w ≡ Some x → packed_by rules words x ≡ w
  given words exact w x n h e = ap words.packed (formed_items forming x (words.unpacked w) e) ∙ exact w n h
