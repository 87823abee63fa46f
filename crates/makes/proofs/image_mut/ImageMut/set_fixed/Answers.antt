use Rattle.std.proofs.Common.{ℕ, List, sym, subst, arith, rules}
use Rattle.makes.specs.Shapes.{Rising}
use Rattle.makes.proofs.Rows.{fixed-within}
use Rattle.makes.proofs.Clears.{set_right, set_others}
use Rattle.makes.proofs.image_mut.ImageMut.set_fixed.Goals as goal

pub loop-place-preserved : goal.loop-place-preserved
loop-place-preserved g c =
    let s = g.met.L.Layout.sound c.args.self.now.layout in
    let xs = c.fixed-place-items.result.now in
    let m = c.loop-place.self.memory.now in
    let i = c.loop-place.invariant in
    let h = fixed-within (g.L.Layout.shape c.args.self.now.layout) s xs c.fixed-place-items.ensures c.loop-place.place-index c.loop-place-test.true in
    let P : List (ℕ × ℕ) → Type 0 = λ ys. Rising 0 ys in
    let r = subst P (sym c.fixed-place-items.ensures) s.rising in (
      set_right xs r c.args.start c.loop-place.place-index m c.loop-place-test.true (omega (arith, i.2)) i.0,
      set_others xs c.args.start c.loop-place.place-index m c.args.self.now.memory.now i.1,
      search rules,
      i.3,
      i.4,
    )
