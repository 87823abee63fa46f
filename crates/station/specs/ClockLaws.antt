-- The nine words of a clock record and its items are one another's inverse.
use Rattle.std.specs.Prelude.{◌≡◌, ℕ, ◌^◌, ◌<◌, ◌≤◌, true, List, length, Some, ◌≢◌, nat_le, slice_index, slice_index_or, refl}
use Rattle.std.proofs.Common.{sym, arith, lit<}
use Rattle.std.specs.Int.{w32}
use Rattle.std.proofs.lemmas.Int.{of_z-to_z}
use Rattle.std.proofs.lemmas.Bool.{leb-true, eqb-true, and_parts}
use Rattle.record.specs.Rules.{signed32}
use Rattle.record.proofs.LawfulLaws as lawful_laws
use Rattle.record.proofs.Lowest.{kept}
use Rattle.record.proofs.Words.{nine, each_at}
use Rattle.station.specs.ClockRules.{bad_clock, clock_rules, clock_words, clock_of}
use Rattle.station.specs.ClockWords.{Clock, rules, words, items_of, packed, unpacked}
use Rattle.station.specs.declared.clock.items.ClockItems.{ClockItems}
use Rattle.record.proofs.SignedLaws.{paired_signed, number_back, word_below}

-- what the rules say of each item
pub record Kept (i : ClockItems) : Type 0 where
  pub seconds : i.seconds ≤ 4294967295
  pub fraction : i.fraction ≤ 999999999
  pub offset : signed32 i.offset ≡ true
  pub part : signed32 i.part ≡ true
  pub primary : (1 ≤ i.primary) × (i.primary ≤ 1023)
  pub secondary : i.secondary ≤ 1023
  pub spare : i.spare ≡ 0
  pub endseconds : i.endseconds ≡ 0
  pub endfraction : i.endfraction ≡ 0

pub keeps : (i : ClockItems) → bad_clock i ≡ 0 → Kept i
unfolding bad_clock
keeps i e =
    let at : (k : ℕ) → k < 9 → slice_index_or (clock_rules i) k true ≡ true = kept 1 (clock_rules i) (lit< tt) e in
    let primary = and_parts (nat_le 1 i.primary) (nat_le i.primary 1023) (at 4 (lit< tt)) in
    record {
      seconds = leb-true i.seconds 4294967295 (at 0 (lit< tt));
      fraction = leb-true i.fraction 999999999 (at 1 (lit< tt));
      offset = at 2 (lit< tt);
      part = paired_signed i.offset i.part (at 3 (lit< tt));
      primary = (leb-true 1 i.primary primary.0, leb-true i.primary 1023 primary.1);
      secondary = leb-true i.secondary 1023 (at 5 (lit< tt));
      spare = eqb-true i.spare 0 (at 6 (lit< tt));
      endseconds = eqb-true i.endseconds 0 (at 7 (lit< tt));
      endfraction = eqb-true i.endfraction 0 (at 8 (lit< tt));
    }

pub time_fits : (i : ClockItems) → bad_clock i ≡ 0 → (i.seconds ≤ 4294967295) × (i.fraction ≤ 999999999)
time_fits i e = let k = keeps i e in (k.seconds, k.fraction)

back : (i : ClockItems) → Kept i → clock_of (clock_words i) ≡ i
unfolding clock_words clock_of
back i k = rw (number_back i.offset k.offset, number_back i.part k.part)

-- items that break no rule are read back from their nine words
pub items_back : (i : ClockItems) → bad_clock i ≡ 0 → clock_of (clock_words i) ≡ i
items_back i e = back i (keeps i e)

pub words_back : (w : List ℕ) → length w ≡ 9 → slice_index w 2 < 2 ^ 32 → slice_index w 3 < 2 ^ 32 → clock_words (clock_of w) ≡ w
unfolding clock_words clock_of
words_back w n h k = rw (of_z-to_z w32 (slice_index w 2) h, of_z-to_z w32 (slice_index w 3) k) (sym (nine w n))

-- nine words of 32 bits are those of the items in them
pub words_given : (w : List ℕ) → length w ≡ 9 → ((k : ℕ) → slice_index w k < 2 ^ 32) → clock_words (clock_of w) ≡ w
words_given w n h = words_back w n (h 2) (h 3)

pub items_nine : (i : ClockItems) → length (clock_words i) ≡ 9
unfolding clock_words
items_nine i = refl

pub items_narrow : (i : ClockItems) → bad_clock i ≡ 0 → (k : ℕ) → slice_index (clock_words i) k < 2 ^ 32
unfolding clock_words
items_narrow i e =
    let h = keeps i e in
    each_at (clock_words i)
    (omega arith, (omega arith, (word_below i.offset h.offset, (word_below i.part h.part, (omega arith, (omega arith, (omega arith, (omega arith, (omega arith, tt)))))))))

pub items_headless : (i : ClockItems) → bad_clock i ≡ 0 → slice_index (clock_words i) 4 ≢ 0
unfolding clock_words
items_headless i e z = let h = keeps i e in omega arith

-- the same of records
pub holds : (x : Clock) → Kept (items_of x)
holds x = keeps x.items x.lawful

pub lawful : (x : Clock) → bad_clock (clock_of (clock_words (items_of x))) ≡ 0
lawful = lawful_laws.lawful rules words items_back (λ i e. e)

pub same : (x y : Clock) → items_of x ≡ items_of y → x ≡ y
same = lawful_laws.same rules

pub items_again : (x : Clock) → clock_of (packed x) ≡ items_of x
items_again x = items_back x.items x.lawful

pub read_back : (x : Clock) → unpacked (packed x) ≡ Some x
read_back = lawful_laws.read_back rules words items_back

pub apart : (x y : Clock) → clock_words (items_of x) ≡ clock_words (items_of y) → x ≡ y
apart = lawful_laws.apart rules words items_back

pub given : (w : List ℕ) (x : Clock) → length w ≡ 9 → ((k : ℕ) → slice_index w k < 2 ^ 32) → unpacked w ≡ Some x → packed x ≡ w
given = lawful_laws.given rules words words_given

pub nine_words : (x : Clock) → length (clock_words (items_of x)) ≡ 9
nine_words x = items_nine x.items

pub narrow : (x : Clock) (k : ℕ) → slice_index (clock_words (items_of x)) k < 2 ^ 32
narrow x = items_narrow x.items x.lawful

pub headless : (x : Clock) → slice_index (clock_words (items_of x)) 4 ≢ 0
headless x = items_headless x.items x.lawful
