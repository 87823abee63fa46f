-- Worked examples: what the definitions give, beside what the example says.
use Rattle.std.specs.Prelude.{◌≡◌, ℕ, cond, List, [], ◌∷◌, ℤ, pos, negsuc, slice_index}
use Rattle.std.specs.List.{AllByRecursion}
use Rattle.packet.specs.Packets.{bytes_of, header_like}
use Rattle.makes.specs.Shapes.{disk, block1200, block4800, count_for, place_of}
use Rattle.orbit.specs.OrbitRules.{bad_orbit}
use Rattle.orbit.specs.OrbitWords.{orbit_words}
use Rattle.orbit.specs.Values.{value_of, reference_of}
use Rattle.orbit.specs.declared.items.OrbitItems.{OrbitItems}
use Rattle.orbit.specs.declared.orbit.value.Value.{Value}
use Rattle.orbit.specs.declared.orbit.value.Value.TheVariants.{Billionths, Nanoseconds}
use Rattle.station.specs.RampRules.{ramp_words}
use Rattle.station.specs.declared.ramp.items.RampItems.{RampItems}

-- items of an orbit record, of which the examples name the words
abbrev pub sample : OrbitItems
sample = record {
  seconds = 0;
  millis = 500;
  delay = 100;
  whole = negsuc 2;
  part = negsuc 249999999;
  format = 2;
  receiver = 14;
  transmitter = 14;
  network = 0;
  kind = 12;
  downlink = 2;
  uplink = 2;
  exciter = 2;
  validity = 0;
  channel = 1;
  target = 53;
  indicator = 0;
  high = 1;
  low = 0;
  auxiliary = negsuc 0;
  compression = 1;
  updelay = 2;
}

-- the same with a fraction of the other sign
abbrev pub opposed : OrbitItems
opposed = record {
  seconds = 0;
  millis = 500;
  delay = 100;
  whole = negsuc 2;
  part = pos 250000000;
  format = 2;
  receiver = 14;
  transmitter = 14;
  network = 0;
  kind = 12;
  downlink = 2;
  uplink = 2;
  exciter = 2;
  validity = 0;
  channel = 1;
  target = 53;
  indicator = 0;
  high = 1;
  low = 0;
  auxiliary = negsuc 0;
  compression = 1;
  updelay = 2;
}

-- a ramp at 8 GHz sharp for station 14
abbrev pub sharp : RampItems
sharp = record { seconds = 100; fraction = 0; rate = pos 0; part = pos 0; gigahertz = 8; station = 14; hertz = 0; hertzpart = 0; endseconds = 200; endfraction = 0 }

abbrev pub measured : Value → ℤ
measured (Billionths n) = n
measured (Nanoseconds n p) = n

-- word n of the sample, counted from 1
abbrev pub sample_word : ℕ → ℤ
sample_word n = pos (slice_index (0 ∷ orbit_words sample) n)

unfoldable pub examples : List (ℤ × ℤ)
examples =
    -- cells in 8,063 and in 8,064 bytes of a disk image
    (pos (count_for disk 8063), pos 0)
    ∷ (pos (count_for disk 8064), pos 224)
    -- where cell 4 of a 1200-bit carrier and cell 17 of a 4800-bit one begin
    ∷ (pos (place_of block1200 4), pos 202)
    ∷ (pos (place_of block4800 17), pos 652)
    -- 500 ms and a delay of 100
    ∷ (sample_word 2, pos 0x7D000064)
    -- format 2, stations 14 and 14, network 0, type 12, bands 2, good
    ∷ (sample_word 5, pos 0x43870654)
    -- channel 1, spacecraft 53, flag 0, reference parts 1 and 0
    ∷ (sample_word 6, pos 0x021A8000)
    ∷ (sample_word 7, pos 0x01000000)
    ∷ (pos (reference_of sample), pos 16777216)
    -- items 20 to 22 of -1, 1 and 2
    ∷ (sample_word 8, pos 0xFFFFF000)
    ∷ (sample_word 9, pos 0x00400002)
    -- -3 and -250,000,000 give -3,250,000,000; -3 and 250,000,000 break the rule of item 5
    ∷ (measured (value_of sample), negsuc 3249999999)
    ∷ (pos (bad_orbit opposed), pos 5)
    -- a ramp at 8 GHz sharp for station 14: words 5 and 6, and that it is data and no header
    ∷ (pos (slice_index (ramp_words sharp) 4), pos 0x200E)
    ∷ (pos (slice_index (ramp_words sharp) 5), pos 0)
    ∷ (pos (cond (header_like (bytes_of (ramp_words sharp))) 1 0), pos 0)
    ∷ []

-- each example holds
abbrev pub Hold : Type 0
Hold = AllByRecursion (λ e. e.0 ≡ e.1) examples
