-- The nine words of a ramp record and its items are one another's inverse.
use Rattle.std.specs.Prelude.{◌≡◌, ℕ, ◌+◌, ◌*◌, ◌/◌, ◌%◌, ◌^◌, ◌<◌, ◌≤◌, true, List, length, Some, ◌≢◌, nat_le, slice_index, slice_index_or, refl}
use Rattle.std.proofs.Common.{sym, arith, lit<}
use Rattle.std.specs.Int.{w32}
use Rattle.std.proofs.lemmas.Int.{of_z-to_z}
use Rattle.std.proofs.lemmas.Bool.{leb-true, and_parts}
use Rattle.std.proofs.lemmas.Bool.Decides.{nat_tests}
use Rattle.record.specs.Rules.{signed32}
use Rattle.record.proofs.LawfulLaws as lawful_laws
use Rattle.record.proofs.Lowest.{kept}
use Rattle.record.proofs.Words.{nine, each_at}
use Rattle.station.specs.RampRules.{ended, bad_ramp, ramp_rules, ramp_words, ramp_of}
use Rattle.station.specs.RampWords.{Ramp, rules, words, items_of, packed, unpacked}
use Rattle.station.specs.declared.ramp.items.RampItems.{RampItems}
use Rattle.record.proofs.SignedLaws.{paired_signed, number_back, word_below}

-- what the rules say of each item
pub record Kept (i : RampItems) : Type 0 where
  pub seconds : i.seconds ≤ 4294967295
  pub fraction : i.fraction ≤ 999999999
  pub rate : signed32 i.rate ≡ true
  pub part : signed32 i.part ≡ true
  pub gigahertz : i.gigahertz ≤ 4194303
  pub station : (1 ≤ i.station) × (i.station ≤ 1023)
  pub hertz : i.hertz ≤ 999999999
  pub hertzpart : i.hertzpart ≤ 999999999
  pub endseconds : i.endseconds ≤ 4294967295
  pub endfraction : i.endfraction ≤ 999999999

end_fits : (i : RampItems) → ended i ≡ true → (i.endseconds ≤ 4294967295) × (i.endfraction ≤ 999999999)
end_fits i h = (grind (arith, nat_tests), grind (arith, nat_tests))

pub keeps : (i : RampItems) → bad_ramp i ≡ 0 → Kept i
unfolding bad_ramp
keeps i e =
    let at : (k : ℕ) → k < 9 → slice_index_or (ramp_rules i) k true ≡ true = kept 1 (ramp_rules i) (lit< tt) e in
    let station = and_parts (nat_le 1 i.station) (nat_le i.station 1023) (at 5 (lit< tt)) in
    let end = end_fits i (at 8 (lit< tt)) in
    record {
      seconds = leb-true i.seconds 4294967295 (at 0 (lit< tt));
      fraction = leb-true i.fraction 999999999 (at 1 (lit< tt));
      rate = at 2 (lit< tt);
      part = paired_signed i.rate i.part (at 3 (lit< tt));
      gigahertz = leb-true i.gigahertz 4194303 (at 4 (lit< tt));
      station = (leb-true 1 i.station station.0, leb-true i.station 1023 station.1);
      hertz = leb-true i.hertz 999999999 (at 6 (lit< tt));
      hertzpart = leb-true i.hertzpart 999999999 (at 7 (lit< tt));
      endseconds = end.0;
      endfraction = end.1;
    }

pub time_fits : (i : RampItems) → bad_ramp i ≡ 0 → (i.seconds ≤ 4294967295) × (i.fraction ≤ 999999999)
time_fits i e = let k = keeps i e in (k.seconds, k.fraction)

pub end_time_fits : (i : RampItems) → bad_ramp i ≡ 0 → (i.endseconds ≤ 4294967295) × (i.endfraction ≤ 999999999)
end_time_fits i e = let k = keeps i e in (k.endseconds, k.endfraction)

high : (m n : ℕ) → n ≤ 1023 → (m * 1024 + n) / 1024 ≡ m
high m n h = omega arith

low : (m n : ℕ) → n ≤ 1023 → (m * 1024 + n) % 1024 ≡ n
low m n h = omega arith

joined : (n : ℕ) → n / 1024 * 1024 + n % 1024 ≡ n
joined n = omega arith

back : (i : RampItems) → Kept i → ramp_of (ramp_words i) ≡ i
unfolding ramp_words ramp_of
back i k = rw (number_back i.rate k.rate, number_back i.part k.part, high i.gigahertz i.station k.station.1, low i.gigahertz i.station k.station.1)

-- items that break no rule are read back from their nine words
pub items_back : (i : RampItems) → bad_ramp i ≡ 0 → ramp_of (ramp_words i) ≡ i
items_back i e = back i (keeps i e)

pub words_back : (w : List ℕ) → length w ≡ 9 → slice_index w 2 < 2 ^ 32 → slice_index w 3 < 2 ^ 32 → ramp_words (ramp_of w) ≡ w
unfolding ramp_words ramp_of
words_back w n h k = rw (of_z-to_z w32 (slice_index w 2) h, of_z-to_z w32 (slice_index w 3) k, joined (slice_index w 4)) (sym (nine w n))

-- nine words of 32 bits are those of the items in them
pub words_given : (w : List ℕ) → length w ≡ 9 → ((k : ℕ) → slice_index w k < 2 ^ 32) → ramp_words (ramp_of w) ≡ w
words_given w n h = words_back w n (h 2) (h 3)

pub items_nine : (i : RampItems) → length (ramp_words i) ≡ 9
unfolding ramp_words
items_nine i = refl

pub items_narrow : (i : RampItems) → bad_ramp i ≡ 0 → (k : ℕ) → slice_index (ramp_words i) k < 2 ^ 32
unfolding ramp_words
items_narrow i e =
    let h = keeps i e in
    each_at (ramp_words i)
    (omega arith, (omega arith, (word_below i.rate h.rate, (word_below i.part h.part, (omega arith, (omega arith, (omega arith, (omega arith, (omega arith, tt)))))))))

pub items_headless : (i : RampItems) → bad_ramp i ≡ 0 → slice_index (ramp_words i) 4 ≢ 0
unfolding ramp_words
items_headless i e z = let h = keeps i e in omega arith

-- the same of records
pub holds : (x : Ramp) → Kept (items_of x)
holds x = keeps x.items x.lawful

pub lawful : (x : Ramp) → bad_ramp (ramp_of (ramp_words (items_of x))) ≡ 0
lawful = lawful_laws.lawful rules words items_back (λ i e. e)

pub same : (x y : Ramp) → items_of x ≡ items_of y → x ≡ y
same = lawful_laws.same rules

pub items_again : (x : Ramp) → ramp_of (packed x) ≡ items_of x
items_again x = items_back x.items x.lawful

pub read_back : (x : Ramp) → unpacked (packed x) ≡ Some x
read_back = lawful_laws.read_back rules words items_back

pub apart : (x y : Ramp) → ramp_words (items_of x) ≡ ramp_words (items_of y) → x ≡ y
apart = lawful_laws.apart rules words items_back

pub given : (w : List ℕ) (x : Ramp) → length w ≡ 9 → ((k : ℕ) → slice_index w k < 2 ^ 32) → unpacked w ≡ Some x → packed x ≡ w
given = lawful_laws.given rules words words_given

pub nine_words : (x : Ramp) → length (ramp_words (items_of x)) ≡ 9
nine_words x = items_nine x.items

pub narrow : (x : Ramp) (k : ℕ) → slice_index (ramp_words (items_of x)) k < 2 ^ 32
narrow x = items_narrow x.items x.lawful

pub headless : (x : Ramp) → slice_index (ramp_words (items_of x)) 4 ≢ 0
headless x = items_headless x.items x.lawful
