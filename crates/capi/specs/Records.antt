-- The items of records as plain signed numbers.
use Rattle.std.specs.Prelude.{ℕ, ◌^◌, ◌<◌, List, [], ◌∷◌, pos}
use Rattle.orbit.specs.declared.items.OrbitItems.{OrbitItems}
use Rattle.station.specs.declared.clock.items.ClockItems.{ClockItems}
use Rattle.station.specs.declared.ramp.items.RampItems.{RampItems}
use Rattle.capi.specs.declared.numbers.OdfClock.{OdfClock}
use Rattle.capi.specs.declared.numbers.OdfOrbit.{OdfOrbit}
use Rattle.capi.specs.declared.numbers.OdfRamp.{OdfRamp}

abbrev pub orbit_numbers : OrbitItems → OdfOrbit
orbit_numbers i = record {
  seconds = pos i.seconds;
  millis = pos i.millis;
  delay = pos i.delay;
  whole = i.whole;
  part = i.part;
  format = pos i.format;
  receiver = pos i.receiver;
  transmitter = pos i.transmitter;
  network = pos i.network;
  kind = pos i.kind;
  downlink = pos i.downlink;
  uplink = pos i.uplink;
  exciter = pos i.exciter;
  validity = pos i.validity;
  channel = pos i.channel;
  target = pos i.target;
  indicator = pos i.indicator;
  high = pos i.high;
  low = pos i.low;
  auxiliary = i.auxiliary;
  compression = pos i.compression;
  updelay = pos i.updelay;
}

abbrev pub ramp_numbers : RampItems → OdfRamp
ramp_numbers i = record {
  seconds = pos i.seconds;
  fraction = pos i.fraction;
  rate = i.rate;
  part = i.part;
  gigahertz = pos i.gigahertz;
  station = pos i.station;
  hertz = pos i.hertz;
  hertzpart = pos i.hertzpart;
  endseconds = pos i.endseconds;
  endfraction = pos i.endfraction;
}

abbrev pub clock_numbers : ClockItems → OdfClock
clock_numbers i = record {
  seconds = pos i.seconds;
  fraction = pos i.fraction;
  offset = i.offset;
  part = i.part;
  primary = pos i.primary;
  secondary = pos i.secondary;
  spare = pos i.spare;
  endseconds = pos i.endseconds;
  endfraction = pos i.endfraction;
}

-- the unsigned items
abbrev pub orbit_naturals : OrbitItems → List ℕ
orbit_naturals i = i.seconds ∷ i.millis ∷ i.delay ∷ i.format ∷ i.receiver ∷ i.transmitter ∷ i.network ∷ i.kind ∷ i.downlink ∷ i.uplink ∷ i.exciter ∷ i.validity ∷ i.channel ∷ i.target ∷ i.indicator ∷ i.high ∷ i.low ∷ i.compression ∷ i.updelay ∷ []

abbrev pub ramp_naturals : RampItems → List ℕ
ramp_naturals i = i.seconds ∷ i.fraction ∷ i.gigahertz ∷ i.station ∷ i.hertz ∷ i.hertzpart ∷ i.endseconds ∷ i.endfraction ∷ []

abbrev pub clock_naturals : ClockItems → List ℕ
clock_naturals i = i.seconds ∷ i.fraction ∷ i.primary ∷ i.secondary ∷ i.spare ∷ i.endseconds ∷ i.endfraction ∷ []

-- each is a number of 32 bits, and so a signed one of 64 bits
abbrev pub Small : List ℕ → Type 0
Small [] = Unit {0}
Small (n ∷ ns) = (n < 2 ^ 32) × Small ns
