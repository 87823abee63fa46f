-- The data types of orbit records: which there are, and what each measures.
use Rattle.std.specs.Prelude.{ℕ, Bool, true, false, cond, ◌||◌, Some, None, Option, ◌==◌}
use Rattle.record.specs.Rules.{within}
use Rattle.orbit.specs.declared.types.Class.{Class}
use Rattle.orbit.specs.declared.types.Class.TheVariants.{Vlbi, Doppler, Range, Angle}

unfoldable pub class_at : ℕ → Option Class
class_at k =
    cond (within 1 6 k) (Some Vlbi)
    (cond (within 11 13 k) (Some Doppler)
    (cond (k == 36 || k == 37 || k == 41) (Some Range)
    (cond (within 51 58 k) (Some Angle) None)))

abbrev pub is_angle : Option Class → Bool
is_angle None = false
is_angle (Some Vlbi) = false
is_angle (Some Doppler) = false
is_angle (Some Range) = false
is_angle (Some Angle) = true
