-- A kind of record as the reader of a file sees it.
use Rattle.std.specs.Prelude.{◌≡◌, ℕ, zero, suc, min, List, Some, None, Ok, Err, Option, Result, refl}
use Rattle.packet.specs.Packets.{words_of}
use Rattle.record.specs.declared.fault.RecordFault.{RecordFault}
use Rattle.record.specs.declared.fault.RecordFault.TheVariants.{BadItem}
use Rattle.record.specs.declared.kind.RecordKind.{Ghosts as KindGhosts}
use Rattle.record.specs.declared.lawful.Items.{Ghosts as ItemsGhosts}
use Rattle.record.specs.declared.lawful.Lawful.{Lawful}
use Rattle.record.specs.declared.kind.Packed.{Ghosts as PackedGhosts}

-- how records lie in nine words and which record nine words are; the lowest bad item of nine words, 0 where there is none; the item
-- at which nine words name another owner than the one given, 0 where they do not; when a record starts, and the time before which none may follow it
pub record Kind (R : Type 0) : Type 0 where
  pub packed : R → List ℕ
  pub unpacked : List ℕ → Option R
  pub bad : List ℕ → ℕ
  pub foreign : ℕ → List ℕ → ℕ
  pub starts : R → ℕ
  pub until : R → ℕ

abbrev pub kind_by : {R : Type 0} → (R → List ℕ) → (List ℕ → Option R) → (List ℕ → ℕ) → (ℕ → List ℕ → ℕ) → (R → ℕ) → (R → ℕ) → Kind R
kind_by p u b f s t = record { packed = p; unpacked = u; bad = b; foreign = f; starts = s; until = t }

-- the lower of two items, where 0 is none
abbrev pub lower : ℕ → ℕ → ℕ
lower zero b = b
lower (suc a) zero = suc a
lower (suc a) (suc b) = min (suc a) (suc b)

-- the record that packet k was found to be; else the lowest bad item, its owner's among them
abbrev pub judged : {R : Type 0} → ℕ → ℕ → ℕ → Option R → Result R RecordFault
judged k bad foreign None = Err (BadItem k (lower bad foreign))
judged k bad zero (Some x) = Ok x
judged k bad (suc i) (Some x) = Err (BadItem k (suc i))

-- packet p, which has number k, as a record, whatever its owner
abbrev pub plain : {R : Type 0} → (List ℕ → Option R) → (List ℕ → ℕ) → ℕ → List ℕ → Result R RecordFault
plain unpacked bad k p = judged k (bad (words_of p)) 0 (unpacked (words_of p))

-- packet p, which has number k, as a record of this owner
abbrev pub owned : {R : Type 0} → Kind R → ℕ → ℕ → List ℕ → Result R RecordFault
owned κ o k p = judged k (κ.bad (words_of p)) (κ.foreign o (words_of p)) (κ.unpacked (words_of p))

-- the record of these items, where no rule is broken: n is the lowest that is
abbrev pub formed_if : {I R : Type 0} (bad : I → ℕ) → ((i : I) → bad i ≡ 0 → R) → (i : I) (n : ℕ) → bad i ≡ n → Option R
formed_if bad made i zero e = Some (made i e)
formed_if bad made i (suc n) e = None

abbrev pub formed : {I R : Type 0} (bad : I → ℕ) → ((i : I) → bad i ≡ 0 → R) → I → Option R
formed bad made i = formed_if bad made i (bad i) refl

-- the record of items that break no rule
abbrev pub made : {I : Type 0} (rules : ItemsGhosts I) (i : I) → rules.unfit i ≡ 0 → Lawful I rules
made rules i e = record { items = i; lawful = e }

-- a record's nine words, the record that nine words are, and their lowest bad item, 0 where there is none
abbrev pub packed_by : {I : Type 0} (rules : ItemsGhosts I) → PackedGhosts I → Lawful I rules → List ℕ
packed_by rules words x = words.packed x.items

abbrev pub unpacked_by : {I : Type 0} (rules : ItemsGhosts I) → PackedGhosts I → List ℕ → Option (Lawful I rules)
unpacked_by rules words w = formed rules.unfit (made rules) (words.unpacked w)

abbrev pub bad_by : {I : Type 0} → ItemsGhosts I → PackedGhosts I → List ℕ → ℕ
bad_by rules words w = rules.bad (words.unpacked w)

-- the kind of the records that these items form
abbrev pub kind_of : {I : Type 0} (rules : ItemsGhosts I) → PackedGhosts I → KindGhosts I → Kind (Lawful I rules)
kind_of rules words kind = record {
  packed = packed_by rules words;
  unpacked = unpacked_by rules words;
  bad = bad_by rules words;
  foreign = λ o w. kind.foreign o (words.unpacked w);
  starts = λ x. kind.starts x.items;
  until = λ x. kind.until x.items;
}
