-- What the rules of a label say of its words, and that its words and its items are one another's inverse.
use Rattle.std.specs.Prelude.{◌≡◌, ℕ, ◌+◌, ◌*◌, ◌/◌, ◌%◌, ◌^◌, ◌<◌, Bool, true, false, List, ◌∷◌, length, Some, ◌≢◌, slice_index, slice_index_or, refl}
use Rattle.std.proofs.Common.{sym, arith, lit<}
use Rattle.std.proofs.lemmas.Nat.{shr_split}
use Rattle.std.proofs.lemmas.Bool.Decides.{nat_tests}
use Rattle.record.proofs.LawfulLaws as lawful_laws
use Rattle.record.proofs.Lowest.{kept}
use Rattle.record.proofs.Words.{nine, each_at}
use Rattle.label.specs.Calendar.{is_date, is_time}
use Rattle.label.specs.LabelRules.{label_rules, bad_label, unfit, label_words, label_of}
use Rattle.label.specs.Fits.{fits_lawful, fits_narrow}
use Rattle.label.specs.Labels.{Label, rules, words, items_of, made, packed, unpacked}
use Rattle.label.specs.declared.label.LabelItems.{LabelItems}

-- eight rules, read one by one
abbrev pub eight : List Bool → List Bool → List Bool
eight s more = slice_index_or s 0 false ∷ slice_index_or s 1 false ∷ slice_index_or s 2 false ∷ slice_index_or s 3 false ∷ slice_index_or s 4 false ∷ slice_index_or s 5 false ∷ slice_index_or s 6 false ∷ slice_index_or s 7 false ∷ more

pub items_back : (i : LabelItems) → label_of (label_words i) ≡ i
unfolding label_words label_of
items_back i = rw (shr_split i.system 32, shr_split i.program 32)

halves : (a b : ℕ) → b < 2 ^ 32 → ((a * 2 ^ 32 + b) / 2 ^ 32 ≡ a) × ((a * 2 ^ 32 + b) % 2 ^ 32 ≡ b)
halves a b h = (omega arith, omega arith)

pub words_back : (w : List ℕ) → length w ≡ 9 → slice_index w 1 < 2 ^ 32 → slice_index w 3 < 2 ^ 32 → label_words (label_of w) ≡ w
unfolding label_words label_of
words_back w n h k =
    let s = halves (slice_index w 0) (slice_index w 1) h in
    let p = halves (slice_index w 2) (slice_index w 3) k in
    rw (s.0, s.1, p.0, p.1) (sym (nine w n))

-- nine words of 32 bits are those of the items in them
pub words_given : (w : List ℕ) → length w ≡ 9 → ((k : ℕ) → slice_index w k < 2 ^ 32) → label_words (label_of w) ≡ w
words_given w n h = words_back w n (h 1) (h 3)

date_narrow : (d : ℕ) → is_date d ≡ true → d < 2 ^ 32
unfolding is_date
date_narrow d h = grind (arith, nat_tests)

time_narrow : (t : ℕ) → is_time t ≡ true → t < 2 ^ 32
unfolding is_time
time_narrow t h = grind (arith, nat_tests)

-- what the rules say of the last five words
pub record Narrow (i : LabelItems) : Type 0 where
  pub spacecraft : (0 < i.spacecraft) × (i.spacecraft < 2 ^ 32)
  pub date : i.date < 2 ^ 32
  pub time : i.time < 2 ^ 32
  pub refdate : i.refdate < 2 ^ 32
  pub reftime : i.reftime < 2 ^ 32

narrow_items : (i : LabelItems) → bad_label i ≡ 0 → Narrow i
unfolding bad_label
narrow_items i e =
    let at : (k : ℕ) → k < 21 → slice_index_or (label_rules i) k true ≡ true = kept 1 (label_rules i) (lit< tt) e in
    let c = at 16 (lit< tt) in
    let r = at 19 (lit< tt) in
    let z = at 20 (lit< tt) in
    record {
      spacecraft = (grind (arith, nat_tests), grind (arith, nat_tests));
      date = date_narrow i.date (at 17 (lit< tt));
      time = time_narrow i.time (at 18 (lit< tt));
      refdate = grind (arith, nat_tests);
      reftime = grind (arith, nat_tests);
    }

-- items that fit lie in nine words of 32 bits, of which the fifth is not 0
pub narrow_fit : (i : LabelItems) → unfit i ≡ 0 → Narrow i
narrow_fit i e = narrow_items i (fits_lawful i e)

pub items_nine : (i : LabelItems) → length (label_words i) ≡ 9
unfolding label_words
items_nine i = refl

pub items_narrow : (i : LabelItems) → unfit i ≡ 0 → (k : ℕ) → slice_index (label_words i) k < 2 ^ 32
unfolding label_words
items_narrow i e k =
    let n = narrow_fit i e in
    let f = fits_narrow i e in
    let s : i.system / 2 ^ 32 < 2 ^ 32 = omega arith in
    let t : i.system % 2 ^ 32 < 2 ^ 32 = omega arith in
    let p : i.program / 2 ^ 32 < 2 ^ 32 = omega arith in
    let q : i.program % 2 ^ 32 < 2 ^ 32 = omega arith in
    each_at (label_words i) (s, (t, (p, (q, (n.spacecraft.1, (n.date, (n.time, (n.refdate, (n.reftime, tt))))))))) k

pub items_headless : (i : LabelItems) → unfit i ≡ 0 → slice_index (label_words i) 4 ≢ 0
unfolding label_words
items_headless i e z = let n = narrow_fit i e in omega arith

-- the same of labels
fits : (x : Label) → unfit (items_of x) ≡ 0
fits x = x.lawful

pub narrow_label : (x : Label) → Narrow (items_of x)
narrow_label x = narrow_fit x.items x.lawful

pub same : (x y : Label) → items_of x ≡ items_of y → x ≡ y
same = lawful_laws.same rules

-- a label made of its own items is that label
whole : (x : Label) (e : unfit (items_of x) ≡ 0) → made (items_of x) e ≡ x
whole x e = same (made (items_of x) e) x refl

pub read_back : (x : Label) → unpacked (packed x) ≡ Some x
read_back = lawful_laws.read_back rules words (λ i e. items_back i)

pub apart : (x y : Label) → label_words (items_of x) ≡ label_words (items_of y) → x ≡ y
apart = lawful_laws.apart rules words (λ i e. items_back i)

pub given : (w : List ℕ) (x : Label) → length w ≡ 9 → ((k : ℕ) → slice_index w k < 2 ^ 32) → unpacked w ≡ Some x → packed x ≡ w
given = lawful_laws.given rules words words_given

pub lawful : (x : Label) → bad_label (label_of (label_words (items_of x))) ≡ 0
lawful = lawful_laws.lawful rules words (λ i e. items_back i) fits_lawful

pub nine_words : (x : Label) → length (label_words (items_of x)) ≡ 9
nine_words x = items_nine x.items

pub narrow : (x : Label) (k : ℕ) → slice_index (label_words (items_of x)) k < 2 ^ 32
narrow x = items_narrow x.items x.lawful

pub headless : (x : Label) → slice_index (label_words (items_of x)) 4 ≢ 0
headless x = items_headless x.items x.lawful
