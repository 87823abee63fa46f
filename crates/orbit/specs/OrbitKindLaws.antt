-- The law of the kind, for orbit records.
use Rattle.std.specs.Prelude.{◌≡◌, ℕ, ◌^◌, ◌<◌, ◌≤◌, List, length, Some, ◌≢◌, slice_index, refl}
use Rattle.std.proofs.Common.{arith, lit<}
use Rattle.std.proofs.lemmas.Bool.{eqb-true, leb-true}
use Rattle.packet.specs.Fields.{join}
use Rattle.packet.proofs.FieldLaws.{join_below}
use Rattle.record.proofs.LawfulLaws as laws
use Rattle.record.proofs.Lowest.{kept}
use Rattle.record.proofs.SignedLaws.{word_below}
use Rattle.record.proofs.Words.{each_at}
use Rattle.orbit.specs.OrbitRules.{bad_orbit, orbit_rules}
use Rattle.orbit.specs.OrbitWords.{orbit_words, orbit_of, W2, W5, W67, W89, items2, items5, items67, items89}
use Rattle.orbit.specs.Orbits.{Orbit, rules, words, items_of, packed, unpacked}
use Rattle.orbit.specs.declared.items.OrbitItems.{OrbitItems}
use Rattle.orbit.specs.OrbitLaws.{wide, items_back, words_back}

pub back : (i : OrbitItems) → bad_orbit i ≡ 0 → orbit_of (orbit_words i) ≡ i
back i e = items_back i (wide i e)

pub same : (x y : Orbit) → items_of x ≡ items_of y → x ≡ y
same = laws.same rules

pub read_back : (x : Orbit) → unpacked (packed x) ≡ Some x
read_back = laws.read_back rules words back

pub apart : (x y : Orbit) → orbit_words (items_of x) ≡ orbit_words (items_of y) → x ≡ y
apart = laws.apart rules words back

pub given : (w : List ℕ) (x : Orbit) → length w ≡ 9 → ((k : ℕ) → slice_index w k < 2 ^ 32) → unpacked w ≡ Some x → packed x ≡ w
given = laws.given rules words words_back

pub lawful : (x : Orbit) → bad_orbit (orbit_of (orbit_words (items_of x))) ≡ 0
lawful = laws.lawful rules words back (λ i e. e)

two : (i : OrbitItems) → bad_orbit i ≡ 0 → i.format ≡ 2
unfolding bad_orbit orbit_rules
two i e = eqb-true i.format 2 (kept 1 (orbit_rules i) (lit< tt) e 5 (lit< tt))

pub headless_items : (i : OrbitItems) → bad_orbit i ≡ 0 → slice_index (orbit_words i) 4 ≢ 0
unfolding orbit_words join
headless_items i e h = let f = two i e in omega arith

pub headless : (x : Orbit) → slice_index (orbit_words (items_of x)) 4 ≢ 0
headless x = headless_items x.items x.lawful

pub nine_items : (i : OrbitItems) → length (orbit_words i) ≡ 9
unfolding orbit_words
nine_items i = refl

pub nine_words : (x : Orbit) → length (orbit_words (items_of x)) ≡ 9
nine_words x = nine_items x.items

pub timed : (i : OrbitItems) → bad_orbit i ≡ 0 → (i.seconds ≤ 4294967295) × (i.millis ≤ 999)
unfolding bad_orbit orbit_rules
timed i e = (
  leb-true i.seconds 4294967295 (kept 1 (orbit_rules i) (lit< tt) e 0 (lit< tt)),
  leb-true i.millis 999 (kept 1 (orbit_rules i) (lit< tt) e 1 (lit< tt)),
)

pub narrow_items : (i : OrbitItems) → bad_orbit i ≡ 0 → (k : ℕ) → slice_index (orbit_words i) k < 2 ^ 32
unfolding orbit_words
narrow_items i e k =
    let w = wide i e in
    let m = join_below W67 (items67 i) w.six in
    let l = join_below W89 (items89 i) w.eight in
    let t = timed i e in
    each_at (orbit_words i) (omega arith, (join_below W2 (items2 i) w.two, (word_below i.whole w.wholly, (word_below i.part w.partly, (join_below W5 (items5 i) w.five, (omega arith, (omega arith, (omega arith, (omega arith, tt))))))))) k

pub narrow : (x : Orbit) (k : ℕ) → slice_index (orbit_words (items_of x)) k < 2 ^ 32
narrow x = narrow_items x.items x.lawful
