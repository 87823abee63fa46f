use Rattle.std.proofs.Common.{◌≤◌}
use Rattle.odflist.proofs.read_input.Given as goal

abbrev pub invariant-loop : goal.invariant-loop
invariant-loop l = l.length ≤ 64512
