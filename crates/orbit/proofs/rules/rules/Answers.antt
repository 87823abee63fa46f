use Rattle.std.proofs.Common.{w64, SFits, rules}
use Rattle.std.proofs.lemmas.Int.{to_z-of_z}
use Rattle.orbit.specs.OrbitRules.{orbit_rules}
use Rattle.orbit.proofs.rules.rules.Goals as goal

pub returns : goal.returns
unfolding orbit_rules
returns c =
    let fw : SFits w64 c.args.items.now.whole = search rules in
    let fp : SFits w64 c.args.items.now.part = search rules in
    let fd : SFits w64 c.args.items.now.auxiliary = search rules in
    let a = c.is_angle-angle.ensures in
    let o = c.has_no_reference-unreferenced.ensures in
    let w = simp to_z-of_z at c.keeps_whole.ensures in
    let p = simp to_z-of_z at c.keeps_part.ensures in
    let d = simp to_z-of_z at c.keeps_auxiliary.ensures in
    simp (w, p, d, c.is_within.ensures, c.is_held.ensures, c.is_held-2.ensures, c.is_held-3.ensures, c.is_held-4.ensures, c.is_held-5.ensures, c.is_held-6.ensures, c.is_held-7.ensures, c.is_held-8.ensures, c.is_held-9.ensures, c.is_held-10.ensures, c.is_known.ensures, c.is_receive_only.ensures, c.is_one_way.ensures, o, a)
