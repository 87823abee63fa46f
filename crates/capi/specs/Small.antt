-- The unsigned items of a lawful record are numbers of 32 bits.
use Rattle.std.proofs.Common.{◌≡◌, ℕ, ◌<◌, ◌≤◌, Bool, true, leb, slice_index_or, is_some, arith, lit<}
use Rattle.std.proofs.lemmas.Bool.{and_parts, leb-true, eqb-true}
use Rattle.std.proofs.lemmas.Bool.Decides.{nat_tests}
use Rattle.record.proofs.Lowest.{kept}
use Rattle.orbit.specs.OrbitRules.{held, orbit_rules, bad_orbit}
use Rattle.orbit.specs.Types.{class_at}
use Rattle.orbit.specs.declared.items.OrbitItems.{OrbitItems}
use Rattle.station.specs.ClockRules.{clock_rules, bad_clock}
use Rattle.station.specs.RampRules.{ramp_rules, bad_ramp}
use Rattle.station.specs.declared.clock.items.ClockItems.{ClockItems}
use Rattle.station.specs.declared.ramp.items.RampItems.{RampItems}
use Rattle.capi.specs.Records.{Small, orbit_naturals, ramp_naturals, clock_naturals}

-- a data type has at most six bits
known : (k : ℕ) → is_some (class_at k) ≡ true → k < 64
unfolding class_at
known k h = grind (arith, nat_tests)

most : (v m : ℕ) (b : Bool) → held v m b ≡ true → v ≤ m
most v m b h = leb-true v m (and_parts (leb v m) _ h).0

pub small_orbit : (i : OrbitItems) → bad_orbit i ≡ 0 → Small (orbit_naturals i)
unfolding bad_orbit orbit_rules
small_orbit i e =
    let at : (k : ℕ) → k < 22 → slice_index_or (orbit_rules i) k true ≡ true = kept 1 (orbit_rules i) (lit< tt) e in
    let seconds = leb-true i.seconds 4294967295 (at 0 (lit< tt)) in
    let millis = leb-true i.millis 999 (at 1 (lit< tt)) in
    let delay = leb-true i.delay 4194303 (at 2 (lit< tt)) in
    let format = eqb-true i.format 2 (at 5 (lit< tt)) in
    let receiver = leb-true i.receiver 127 (and_parts (leb 1 i.receiver) _ (at 6 (lit< tt))).1 in
    let transmitter = most i.transmitter 127 _ (at 7 (lit< tt)) in
    let network = leb-true i.network 3 (at 8 (lit< tt)) in
    let kind = known i.kind (at 9 (lit< tt)) in
    let downlink = most i.downlink 3 _ (at 10 (lit< tt)) in
    let uplink = most i.uplink 3 _ (at 11 (lit< tt)) in
    let exciter = most i.exciter 3 _ (at 12 (lit< tt)) in
    let validity = leb-true i.validity 1 (at 13 (lit< tt)) in
    let channel = most i.channel 127 _ (at 14 (lit< tt)) in
    let target = leb-true i.target 1023 (at 15 (lit< tt)) in
    let indicator = most i.indicator 1 _ (at 16 (lit< tt)) in
    let high = most i.high 4194303 _ (at 17 (lit< tt)) in
    let low = most i.low 16777215 _ (at 18 (lit< tt)) in
    let compression = most i.compression 4194303 _ (at 20 (lit< tt)) in
    let updelay = most i.updelay 4194303 _ (at 21 (lit< tt)) in
    search arith

pub small_ramp : (i : RampItems) → bad_ramp i ≡ 0 → Small (ramp_naturals i)
unfolding bad_ramp
small_ramp i e =
    let at : (k : ℕ) → k < 9 → slice_index_or (ramp_rules i) k true ≡ true = kept 1 (ramp_rules i) (lit< tt) e in
    let a = at 0 (lit< tt) in
    let b = at 1 (lit< tt) in
    let c = at 4 (lit< tt) in
    let d = at 5 (lit< tt) in
    let f = at 6 (lit< tt) in
    let g = at 7 (lit< tt) in
    let h = at 8 (lit< tt) in
    grind (arith, nat_tests)

pub small_clock : (i : ClockItems) → bad_clock i ≡ 0 → Small (clock_naturals i)
unfolding bad_clock
small_clock i e =
    let at : (k : ℕ) → k < 9 → slice_index_or (clock_rules i) k true ≡ true = kept 1 (clock_rules i) (lit< tt) e in
    let a = at 0 (lit< tt) in
    let b = at 1 (lit< tt) in
    let c = at 4 (lit< tt) in
    let d = at 5 (lit< tt) in
    let f = at 6 (lit< tt) in
    let g = at 7 (lit< tt) in
    let h = at 8 (lit< tt) in
    grind (arith, nat_tests)
