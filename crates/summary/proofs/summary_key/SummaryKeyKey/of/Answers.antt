use Rattle.std.proofs.Common.{arith}
use Rattle.orbit.specs.OrbitLaws.{wide}
use Rattle.summary.proofs.summary_key.SummaryKeyKey.of.Goals as goal

pub overflow_cast-result : goal.overflow_cast-result
overflow_cast-result c = let w = (wide c.items-items.result c.items-items.ensures.lawful).five in omega arith

pub overflow_cast-result-2 : goal.overflow_cast-result-2
overflow_cast-result-2 c = let w = (wide c.items-items.result c.items-items.ensures.lawful).five in omega arith

pub overflow_cast-result-3 : goal.overflow_cast-result-3
overflow_cast-result-3 c = let w = (wide c.items-items.result c.items-items.ensures.lawful).five in omega arith

pub overflow_cast-result-then-doppler : goal.overflow_cast-result-then-doppler
overflow_cast-result-then-doppler c = let w = (wide c.items-items.result c.items-items.ensures.lawful).six in omega arith
