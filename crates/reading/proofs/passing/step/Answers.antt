use Rattle.std.proofs.Common.{ap, ◌∙◌, rules}
use Rattle.reading.specs.Reading.{ramps_above, clock_group, summary, end_packet, nothing}
use Rattle.reading.specs.Walking.{passed}
use Rattle.reading.proofs.Walks.{stepped_by}
use Rattle.reading.proofs.passing.step.Goals as goal

pub returns-in-Orbits-eq2030 : goal.returns-in-Orbits-eq2030
returns-in-Orbits-eq2030 g c = c.pass_ramps.ensures ∙ stepped_by _ c.args.walk (g.C.Carrier.cells c.args.carrier.now) _ _ (ramps_above 0) c.walk.view_is c.in_ok-packet.ensures.answer (search rules) c.words_of.ensures.words (search rules)

pub returns-in-Ramps-eq2030 : goal.returns-in-Ramps-eq2030
returns-in-Ramps-eq2030 g c = c.pass_ramps-in-Ramps-eq2030.ensures ∙ stepped_by _ c.args.walk (g.C.Carrier.cells c.args.carrier.now) _ _ (ramps_above c.in-Ramps-eq2030.station) c.walk.view_is c.in_ok-packet.ensures.answer (search rules) c.words_of.ensures.words (search rules)

pub returns-in-Orbits-eq2040 : goal.returns-in-Orbits-eq2040
returns-in-Orbits-eq2040 g c = c.pass_clocks.ensures ∙ stepped_by _ c.args.walk (g.C.Carrier.cells c.args.carrier.now) _ _ clock_group c.walk.view_is c.in_ok-packet.ensures.answer (search rules) c.words_of.ensures.words (search rules)

pub returns-in_default-eq105 : goal.returns-in_default-eq105
returns-in_default-eq105 g c = c.pass_summary.ensures ∙ stepped_by _ c.args.walk (g.C.Carrier.cells c.args.carrier.now) _ _ summary c.walk.view_is c.in_ok-packet.ensures.answer (search rules) c.words_of.ensures.words (search rules)

pub returns-in_default-eq4294967295 : goal.returns-in_default-eq4294967295
returns-in_default-eq4294967295 g c = c.pass_end.ensures ∙ stepped_by _ c.args.walk (g.C.Carrier.cells c.args.carrier.now) _ _ end_packet c.walk.view_is c.in_ok-packet.ensures.answer (search rules) c.words_of.ensures.words (search rules)

pub returns-in_default : goal.returns-in_default
returns-in_default g c = ap (λ w. passed w (g.C.Carrier.cells c.args.carrier.now) nothing) c.walk.view_is ∙ stepped_by _ c.args.walk (g.C.Carrier.cells c.args.carrier.now) _ _ nothing c.walk.view_is c.in_ok-packet.ensures.answer (search rules) c.words_of.ensures.words (search rules)
