use Rattle.std.proofs.Common.{ap, ◌∙◌, refl}
use Rattle.record.specs.Rules.{broken, lowest}
use Rattle.orbit.specs.OrbitRules.{bad_orbit}
use Rattle.orbit.proofs.rules.OrbitItemsItems.bad_item.Goals as goal

pub returns : goal.returns
unfolding bad_orbit
returns c = record { item = c.lowest_broken.ensures ∙ ap (λ l. broken (lowest 1 l)) c.rules.ensures; fits = refl }
