use Rattle.std.proofs.Common.{arith}
use Rattle.orbit.specs.OrbitLaws.{wide}
use Rattle.orbit.proofs.orbit.value.reference_of.Goals as goal

pub overflow_mul-result : goal.overflow_mul-result
overflow_mul-result c = let w = (wide c.items-items.result c.items-items.ensures.lawful).six in omega arith

pub overflow_add-result : goal.overflow_add-result
overflow_add-result c = let w = (wide c.items-items.result c.items-items.ensures.lawful).six in omega arith
