-- What an orbit record measured.
use Rattle.std.specs.Prelude.{ℕ, ◌+◌, ◌*◌, ◌^◌, cond, pos, ◌+ℤ◌, ◌*ℤ◌, ◌==◌}
use Rattle.orbit.specs.declared.items.OrbitItems.{OrbitItems}
use Rattle.orbit.specs.declared.orbit.value.Value.{Value}
use Rattle.orbit.specs.declared.orbit.value.Value.TheVariants.{Billionths, Nanoseconds}

-- whole and billionths joined; for a range of type 41 the seconds are in item 15, the nanoseconds in item 4
abbrev pub value_of : OrbitItems → Value
value_of i =
    cond (i.kind == 41)
    (Nanoseconds (pos i.channel *ℤ pos 1000000000 +ℤ i.whole) i.part)
    (Billionths (i.whole *ℤ pos 1000000000 +ℤ i.part))

-- the high part counts 2^24 millihertz
abbrev pub reference_of : OrbitItems → ℕ
reference_of i = i.high * 2 ^ 24 + i.low
