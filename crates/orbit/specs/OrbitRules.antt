-- The rules of an orbit record, a rule an item.
use Rattle.std.specs.Prelude.{ℕ, ◌%◌, Bool, true, cond, not, ◌&&◌, ◌||◌, List, [], ◌∷◌, ℤ, pos, negsuc, is_some, ◌==◌, int_le, nat_le, unsigned_abs}
use Rattle.record.specs.Rules.{lowest, within, paired, signed32}
use Rattle.orbit.specs.Types.{class_at, is_angle}
use Rattle.orbit.specs.declared.items.OrbitItems.{OrbitItems}

-- at most so much, and zero where it has to be
abbrev pub held : ℕ → ℕ → Bool → Bool
held v most zero = nat_le v most && (not zero || v == 0)

abbrev pub angle : ℕ → Bool
angle k = is_angle (class_at k)

-- one-way Doppler, or a range without a transmitting station
abbrev pub one_way : ℕ → ℕ → Bool
one_way k transmitter = k == 11 || transmitter == 0 && (k == 36 || k == 37 || k == 41)

-- types that have no transmitting station
abbrev pub receive_only : ℕ → Bool
receive_only k = angle k || k == 3 || k == 4 || k == 6 || k == 11

-- records that have no reference frequency
abbrev pub no_reference : ℕ → ℕ → ℕ → Bool
no_reference k transmitter network = angle k || k == 2 || k == 4 || network == 3 && not (one_way k transmitter)

abbrev pub whole_rule : ℕ → ℤ → Bool
whole_rule k z = signed32 z && (not (k == 41) || int_le (pos 0) z && int_le z (pos 999999999))

abbrev pub part_rule : ℕ → ℤ → ℤ → Bool
part_rule k whole part = paired whole part && (not (k == 41) || int_le (pos 0) part)

-- at least -100,000 for types 1 to 6, and a multiple of 10,000 for 1 to 4; free for 37 and for 11 to 13 in network 2; else zero
abbrev pub auxiliary_rule : ℕ → ℕ → ℤ → Bool
auxiliary_rule k network z =
    int_le (negsuc 524287) z && int_le z (pos 524287)
    && cond (within 1 4 k) (int_le (negsuc 99999) z && unsigned_abs z % 10000 == 0)
    (cond (within 5 6 k) (int_le (negsuc 99999) z)
    (cond (k == 37) true
    (cond (within 11 13 k && network == 2) true (unsigned_abs z == 0))))

unfoldable pub orbit_rules : OrbitItems → List Bool
orbit_rules i =
    nat_le i.seconds 4294967295
    ∷ nat_le i.millis 999
    ∷ nat_le i.delay 4194303
    ∷ whole_rule i.kind i.whole
    ∷ part_rule i.kind i.whole i.part
    ∷ (i.format == 2)
    ∷ within 1 127 i.receiver
    ∷ held i.transmitter 127 (receive_only i.kind)
    ∷ nat_le i.network 3
    ∷ is_some (class_at i.kind)
    ∷ held i.downlink 3 (angle i.kind)
    ∷ held i.uplink 3 (angle i.kind || one_way i.kind i.transmitter)
    ∷ held i.exciter 3 (angle i.kind)
    ∷ nat_le i.validity 1
    ∷ held i.channel 127 (angle i.kind || i.kind == 36)
    ∷ nat_le i.target 1023
    ∷ held i.indicator 1 (angle i.kind)
    ∷ held i.high 4194303 (no_reference i.kind i.transmitter i.network)
    ∷ held i.low 16777215 (no_reference i.kind i.transmitter i.network)
    ∷ auxiliary_rule i.kind i.network i.auxiliary
    ∷ held i.compression 4194303 (angle i.kind || i.kind == 36 || i.kind == 41)
    ∷ held i.updelay 4194303 (angle i.kind)
    ∷ []

-- the lowest item that breaks its rule; 0 where each is kept
unfoldable pub bad_orbit : OrbitItems → ℕ
bad_orbit i = lowest 1 (orbit_rules i)
