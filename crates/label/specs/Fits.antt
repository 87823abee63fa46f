-- Items that fit a label: they break no rule, and their texts have 64 bits.
use Rattle.std.specs.Prelude.{◌≡◌, ◌^◌, ◌<◌}
use Rattle.std.proofs.Common.{arith}
use Rattle.label.specs.LabelRules.{bad_label, unfit}
use Rattle.label.specs.declared.label.LabelItems.{LabelItems}

pub fits_lawful : (i : LabelItems) → unfit i ≡ 0 → bad_label i ≡ 0
fits_lawful i e = omega arith

pub fits_narrow : (i : LabelItems) → unfit i ≡ 0 → (i.system < 2 ^ 64) × (i.program < 2 ^ 64)
fits_narrow i e = (omega arith, omega arith)

pub unfit_none : (i : LabelItems) → bad_label i ≡ 0 → i.system < 2 ^ 64 → i.program < 2 ^ 64 → unfit i ≡ 0
unfit_none i e s p = omega arith
