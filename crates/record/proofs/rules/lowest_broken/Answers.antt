use Rattle.std.proofs.Common.{◌≡◌, suc, ap, ◌∙◌, rules}
use Rattle.std.specs.Option.{option_map}
use Rattle.record.proofs.Lowest.{first}
use Rattle.record.proofs.rules.lowest_broken.Goals as goal

pub returns : goal.returns
returns c =
    let more : c.map.result ≡ option_map suc c.first_broken.result = search rules in
    more ∙ ap (option_map suc) c.first_broken.ensures ∙ first c.args.rules.now
