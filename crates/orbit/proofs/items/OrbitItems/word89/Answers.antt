use Rattle.std.proofs.Common.{◌≡◌, ap, ◌∙◌, arith, w64, SFits, rules}
use Rattle.std.proofs.lemmas.Int.{to_z-of_z}
use Rattle.packet.specs.Fields.{join}
use Rattle.orbit.specs.OrbitWords.{of20}
use Rattle.orbit.proofs.items.OrbitItems.word89.Goals as goal

pub returns : goal.returns
unfolding join
returns c =
    let f : SFits w64 c.args.self.now.auxiliary = search rules in
    let e : c.bits20.result ≡ of20 c.args.self.now.auxiliary = c.bits20.ensures ∙ ap of20 (to_z-of_z w64 c.args.self.now.auxiliary f) in
    omega arith
