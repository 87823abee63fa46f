-- How the items of an orbit record lie in nine words.
use Rattle.std.specs.Prelude.{ℕ, suc, ◌+◌, ◌-◌, ◌*◌, ◌/◌, ◌%◌, ◌^◌, cond, ◌||◌, ◌==◌, List, [], ◌∷◌, ℤ, pos, negsuc, nat_lt, slice_index}
use Rattle.std.proofs.Common.{to_z, of_z}
use Rattle.std.specs.Int.{w32}
use Rattle.packet.specs.Fields.{join, split}
use Rattle.orbit.specs.declared.items.OrbitItems.{OrbitItems}

-- twenty bits, two's complement
abbrev pub of20 : ℤ → ℕ
of20 (pos n) = n
of20 (negsuc n) = 2 ^ 20 - suc n

abbrev pub to20 : ℕ → ℤ
to20 n = cond (nat_lt n (2 ^ 19)) (pos n) (negsuc (2 ^ 20 - suc n))

abbrev pub W2 : List ℕ
W2 = 10 ∷ 22 ∷ []

abbrev pub W5 : List ℕ
W5 = 3 ∷ 7 ∷ 7 ∷ 2 ∷ 6 ∷ 2 ∷ 2 ∷ 2 ∷ 1 ∷ []

abbrev pub W67 : List ℕ
W67 = 7 ∷ 10 ∷ 1 ∷ 22 ∷ 24 ∷ []

abbrev pub W89 : List ℕ
W89 = 20 ∷ 22 ∷ 22 ∷ []

abbrev pub items2 : OrbitItems → List ℕ
items2 i = i.millis ∷ i.delay ∷ []

abbrev pub items5 : OrbitItems → List ℕ
items5 i = i.format ∷ i.receiver ∷ i.transmitter ∷ i.network ∷ i.kind ∷ i.downlink ∷ i.uplink ∷ i.exciter ∷ i.validity ∷ []

abbrev pub items67 : OrbitItems → List ℕ
items67 i = i.channel ∷ i.target ∷ i.indicator ∷ i.high ∷ i.low ∷ []

abbrev pub items89 : OrbitItems → List ℕ
items89 i = of20 i.auxiliary ∷ i.compression ∷ i.updelay ∷ []

unfoldable pub orbit_words : OrbitItems → List ℕ
orbit_words i =
    i.seconds ∷ join W2 (items2 i) ∷ of_z w32 i.whole ∷ of_z w32 i.part ∷ join W5 (items5 i)
    ∷ join W67 (items67 i) / 2 ^ 32 ∷ join W67 (items67 i) % 2 ^ 32 ∷ join W89 (items89 i) / 2 ^ 32 ∷ join W89 (items89 i) % 2 ^ 32 ∷ []

-- the items from a whole number, two signed ones and the four groups of fields
abbrev pub orbit_from : ℕ → ℤ → ℤ → List ℕ → List ℕ → List ℕ → List ℕ → OrbitItems
orbit_from s a b l2 l5 l67 l89 = record {
  seconds = s;
  millis = slice_index l2 0;
  delay = slice_index l2 1;
  whole = a;
  part = b;
  format = slice_index l5 0;
  receiver = slice_index l5 1;
  transmitter = slice_index l5 2;
  network = slice_index l5 3;
  kind = slice_index l5 4;
  downlink = slice_index l5 5;
  uplink = slice_index l5 6;
  exciter = slice_index l5 7;
  validity = slice_index l5 8;
  channel = slice_index l67 0;
  target = slice_index l67 1;
  indicator = slice_index l67 2;
  high = slice_index l67 3;
  low = slice_index l67 4;
  auxiliary = to20 (slice_index l89 0);
  compression = slice_index l89 1;
  updelay = slice_index l89 2;
}

unfoldable pub orbit_of : List ℕ → OrbitItems
orbit_of w = orbit_from (slice_index w 0) (to_z w32 (slice_index w 2)) (to_z w32 (slice_index w 3)) (split W2 (slice_index w 1)) (split W5 (slice_index w 4)) (split W67 (slice_index w 5 * 2 ^ 32 + slice_index w 6)) (split W89 (slice_index w 7 * 2 ^ 32 + slice_index w 8))

-- item 16 names the spacecraft, but for types 3, 4 and 6, where it names a quasar
abbrev pub foreign_orbit : ℕ → OrbitItems → ℕ
foreign_orbit o i = cond (i.kind == 3 || i.kind == 4 || i.kind == 6 || i.target == o) 0 16
