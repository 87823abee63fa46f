-- The nine words of an orbit record and its items are one another's inverse.
use Rattle.std.specs.Prelude.{◌≡◌, ℕ, ◌+◌, ◌*◌, ◌/◌, ◌%◌, ◌^◌, ◌<◌, ◌≤◌, Bool, true, not, ◌||◌, List, [], ◌∷◌, length, ℤ, is_some, ◌==◌, nat_le, slice_index, slice_index_or}
use Rattle.std.proofs.Common.{◌∙◌, ap, sym, div-one, arith, lit<, to_z}
use Rattle.std.specs.Int.Signed.{mag}
use Rattle.std.specs.Int.{w32}
use Rattle.std.proofs.lemmas.Int.{of_z-to_z, ints}
use Rattle.std.proofs.lemmas.Bool.{and_parts, leb-true, eqb-true}
use Rattle.std.proofs.lemmas.Bool.Decides.{nat_tests}
use Rattle.packet.specs.Fields.{join, split, Fill}
use Rattle.orbit.specs.Types.{class_at}
use Rattle.record.specs.Rules.{signed32}
use Rattle.orbit.specs.OrbitRules.{held, orbit_rules, bad_orbit, auxiliary_rule}
use Rattle.orbit.specs.OrbitWords.{of20, to20, W2, W5, W67, W89, items2, items5, items67, items89, orbit_words, orbit_of, orbit_from}
use Rattle.orbit.specs.declared.items.OrbitItems.{OrbitItems}
use Rattle.record.proofs.SignedLaws.{paired_signed, number_back}
use Rattle.record.proofs.Words.{nine}
use Rattle.record.proofs.Lowest.{kept}
use Rattle.packet.proofs.FieldLaws.{join-split, split-join}

-- what the rules say of the widths
pub record Wide (i : OrbitItems) : Type 0 where
  pub two : Fill W2 (items2 i)
  pub five : Fill W5 (items5 i)
  pub six : Fill W67 (items67 i)
  pub eight : Fill W89 (items89 i)
  pub delayed : mag i.auxiliary < 2 ^ 19
  pub wholly : signed32 i.whole ≡ true
  pub partly : signed32 i.part ≡ true

known : (k : ℕ) → is_some (class_at k) ≡ true → k < 64
unfolding class_at
known k h = grind (arith, nat_tests)

most : (v m : ℕ) (b : Bool) → held v m b ≡ true → v ≤ m
most v m b h = leb-true v m (and_parts (nat_le v m) (not b || v == 0) h).0

delay_mag : (k n : ℕ) (z : ℤ) → auxiliary_rule k n z ≡ true → mag z < 2 ^ 19
delay_mag k n z h = grind (arith, ints)

of20_below : (z : ℤ) → mag z < 2 ^ 19 → of20 z < 2 ^ 20
of20_below z h = grind (arith, ints)

pub wide : (i : OrbitItems) → bad_orbit i ≡ 0 → Wide i
unfolding bad_orbit orbit_rules
wide i e =
    let at : (k : ℕ) → k < 22 → slice_index_or (orbit_rules i) k true ≡ true = kept 1 (orbit_rules i) (lit< tt) e in
    let millis = leb-true i.millis 999 (at 1 (lit< tt)) in
    let count = leb-true i.delay 4194303 (at 2 (lit< tt)) in
    let format = eqb-true i.format 2 (at 5 (lit< tt)) in
    let receiver = leb-true i.receiver 127 (and_parts (nat_le 1 i.receiver) (nat_le i.receiver 127) (at 6 (lit< tt))).1 in
    let sender = most i.transmitter 127 _ (at 7 (lit< tt)) in
    let network = leb-true i.network 3 (at 8 (lit< tt)) in
    let kind = known i.kind (at 9 (lit< tt)) in
    let up = most i.downlink 3 _ (at 10 (lit< tt)) in
    let down = most i.uplink 3 _ (at 11 (lit< tt)) in
    let exciter = most i.exciter 3 _ (at 12 (lit< tt)) in
    let invalid = leb-true i.validity 1 (at 13 (lit< tt)) in
    let channel = most i.channel 127 _ (at 14 (lit< tt)) in
    let craft = leb-true i.target 1023 (at 15 (lit< tt)) in
    let flag = most i.indicator 1 _ (at 16 (lit< tt)) in
    let high = most i.high 4194303 _ (at 17 (lit< tt)) in
    let low = most i.low 16777215 _ (at 18 (lit< tt)) in
    let delay = delay_mag i.kind i.network i.auxiliary (at 19 (lit< tt)) in
    let bits = of20_below i.auxiliary delay in
    let first = most i.compression 4194303 _ (at 20 (lit< tt)) in
    let second = most i.updelay 4194303 _ (at 21 (lit< tt)) in
    record {
      two = (omega arith, (omega arith, tt));
      five = (omega arith, (omega arith, (omega arith, (omega arith, (omega arith, (omega arith, (omega arith, (omega arith, (omega arith, tt)))))))));
      six = (omega arith, (omega arith, (omega arith, (omega arith, (omega arith, tt)))));
      eight = (omega arith, (omega arith, (omega arith, tt)));
      delayed = delay;
      wholly = (and_parts _ _ (at 3 (lit< tt))).0;
      partly = paired_signed i.whole i.part (and_parts _ _ (at 4 (lit< tt))).0;
    }

to20-of20 : (z : ℤ) → mag z < 2 ^ 19 → to20 (of20 z) ≡ z
to20-of20 z h = grind (arith, nat_tests)

of20-to20 : (n : ℕ) → n < 2 ^ 20 → of20 (to20 n) ≡ n
of20-to20 n h = grind (arith, nat_tests)

regroup : (n : ℕ) → n / 2 ^ 32 * 2 ^ 32 + n % 2 ^ 32 ≡ n
regroup n = omega arith

assembled : (i : OrbitItems) (a b d : ℤ) (l2 l5 l67 l89 : List ℕ) → a ≡ i.whole → b ≡ i.part → l2 ≡ items2 i → l5 ≡ items5 i → l67 ≡ items67 i → l89 ≡ items89 i → to20 (of20 i.auxiliary) ≡ i.auxiliary → orbit_from i.seconds a b l2 l5 l67 l89 ≡ i
assembled i a b d l2 l5 l67 l89 ea eb e2 e5 e6 e8 ed = rw (ea, eb, e2, e5, e6, e8, ed)

pub items_back : (i : OrbitItems) → Wide i → orbit_of (orbit_words i) ≡ i
unfolding orbit_of orbit_words
items_back i w =
    assembled i _ _ i.auxiliary _ _ _ _
    (number_back i.whole w.wholly)
    (number_back i.part w.partly)
    (split-join W2 (items2 i) w.two)
    (split-join W5 (items5 i) w.five)
    (ap (split W67) (regroup (join W67 (items67 i))) ∙ split-join W67 (items67 i) w.six)
    (ap (split W89) (regroup (join W89 (items89 i))) ∙ split-join W89 (items89 i) w.eight)
    (to20-of20 i.auxiliary w.delayed)

re2 : (n : ℕ) → n < 2 ^ 32 → join W2 (slice_index (split W2 n) 0 ∷ slice_index (split W2 n) 1 ∷ []) ≡ n
unfolding split
re2 n h = join-split W2 n ∙ omega arith

re5 : (n : ℕ) → n < 2 ^ 32 → join W5 (slice_index (split W5 n) 0 ∷ slice_index (split W5 n) 1 ∷ slice_index (split W5 n) 2 ∷ slice_index (split W5 n) 3 ∷ slice_index (split W5 n) 4 ∷ slice_index (split W5 n) 5 ∷ slice_index (split W5 n) 6 ∷ slice_index (split W5 n) 7 ∷ slice_index (split W5 n) 8 ∷ []) ≡ n
unfolding split
re5 n h = join-split W5 n ∙ omega arith

re67 : (n : ℕ) → n < 2 ^ 64 → join W67 (slice_index (split W67 n) 0 ∷ slice_index (split W67 n) 1 ∷ slice_index (split W67 n) 2 ∷ slice_index (split W67 n) 3 ∷ slice_index (split W67 n) 4 ∷ []) ≡ n
unfolding split
re67 n h = join-split W67 n ∙ omega arith

low20 : (n : ℕ) → slice_index (split W89 n) 0 < 2 ^ 20
unfolding split
low20 n = omega arith

re89 : (n : ℕ) → n < 2 ^ 64 → join W89 (of20 (to20 (slice_index (split W89 n) 0)) ∷ slice_index (split W89 n) 1 ∷ slice_index (split W89 n) 2 ∷ []) ≡ n
unfolding split
re89 n h = ap (λ (x : ℕ). join W89 (x ∷ slice_index (split W89 n) 1 ∷ slice_index (split W89 n) 2 ∷ [])) (of20-to20 (slice_index (split W89 n) 0) (low20 n)) ∙ join-split W89 n ∙ omega arith

above : (a b : ℕ) → b < 2 ^ 32 → (a * 2 ^ 32 + b) / 2 ^ 32 ≡ a
above a b h = omega arith

under : (a b : ℕ) → b < 2 ^ 32 → (a * 2 ^ 32 + b) % 2 ^ 32 ≡ b
under a b h = omega arith

pub words_back : (w : List ℕ) → length w ≡ 9 → ((k : ℕ) → slice_index w k < 2 ^ 32) → orbit_words (orbit_of w) ≡ w
unfolding orbit_of orbit_words
words_back w n h =
    let h5 = h 5 in
    let h6 = h 6 in
    let h7 = h 7 in
    let h8 = h 8 in
    rw (
      re2 (slice_index w 1) (h 1),
      of_z-to_z w32 (slice_index w 2) (h 2),
      of_z-to_z w32 (slice_index w 3) (h 3),
      re5 (slice_index w 4) (h 4),
      re67 (slice_index w 5 * 2 ^ 32 + slice_index w 6) (omega arith),
      re89 (slice_index w 7 * 2 ^ 32 + slice_index w 8) (omega arith),
      above (slice_index w 5) (slice_index w 6) h6,
      under (slice_index w 5) (slice_index w 6) h6,
      above (slice_index w 7) (slice_index w 8) h8,
      under (slice_index w 7) (slice_index w 8) h8,
    )
    (sym (nine w n))

-- what the code reads, from the two pairs of words m and l
abbrev pub Taken : List ℕ → ℕ → ℕ → ℤ → ℤ → ℤ → OrbitItems
Taken w m l a b d = record {
  seconds = slice_index w 0;
  millis = slice_index w 1 / 4194304 % 1024;
  delay = slice_index w 1 % 4194304;
  whole = a;
  part = b;
  format = slice_index w 4 / 536870912 % 8;
  receiver = slice_index w 4 / 4194304 % 128;
  transmitter = slice_index w 4 / 32768 % 128;
  network = slice_index w 4 / 8192 % 4;
  kind = slice_index w 4 / 128 % 64;
  downlink = slice_index w 4 / 32 % 4;
  uplink = slice_index w 4 / 8 % 4;
  exciter = slice_index w 4 / 2 % 4;
  validity = slice_index w 4 % 2;
  channel = m / 144115188075855872 % 128;
  target = m / 140737488355328 % 1024;
  indicator = m / 70368744177664 % 2;
  high = m / 16777216 % 4194304;
  low = m % 16777216;
  auxiliary = d;
  compression = l / 4194304 % 4194304;
  updelay = l % 4194304;
}

pub taken : (w : List ℕ) (m l : ℕ) (a b d : ℤ) → m ≡ slice_index w 5 * 2 ^ 32 + slice_index w 6 → l ≡ slice_index w 7 * 2 ^ 32 + slice_index w 8 → a ≡ to_z w32 (slice_index w 2) → b ≡ to_z w32 (slice_index w 3) → d ≡ to20 (l / 17592186044416 % 1048576) → Taken w m l a b d ≡ orbit_of w
unfolding orbit_of split
taken w m l a b d em el ea eb ed = rw (ed, ea, eb, em, el) (simp div-one)
