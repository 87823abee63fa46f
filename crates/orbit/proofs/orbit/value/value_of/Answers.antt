use Rattle.std.proofs.Common.{◌≡◌, ℤ, pos, ◌+ℤ◌, ◌*ℤ◌, sym, ap, ◌∙◌, arith, w64, SFits, to_z, of_z, rules}
use Rattle.std.proofs.lemmas.Int.{to_z-of_z, to_z_pos}
use Rattle.std.proofs.lemmas.Bool.{le-leb, eq-eqb, ne_eqb, cond-true, cond-false}
use Rattle.orbit.specs.declared.orbit.value.Value.TheVariants.{Billionths, Nanoseconds}
use Rattle.orbit.specs.OrbitLaws.{wide}
use Rattle.orbit.specs.Values.{value_of}
use Rattle.orbit.proofs.orbit.value.value_of.Goals as goal

pub overflow_cast-items : goal.overflow_cast-items
overflow_cast-items c = let w = (wide c.items-items.result c.items-items.ensures.lawful).six in record { sfits = omega arith }

pub joined-requires : goal.joined-requires
joined-requires c =
    let x = c.items-items.result in
    let w = wide x c.items-items.ensures.lawful in
    let n = w.six in
    let e : to_z w64 x.channel ≡ pos x.channel = to_z_pos w64 x.channel (omega arith) in
    let f : SFits w64 x.whole = search rules in
    record { whole = rw e (le-leb _ _ (omega arith)); part = simp to_z-of_z w.wholly }

pub joined-requires-else-items-eq41 : goal.joined-requires-else-items-eq41
joined-requires-else-items-eq41 c =
    let x = c.items-items.result in
    let w = wide x c.items-items.ensures.lawful in
    let f : SFits w64 x.whole = search rules in
    let g : SFits w64 x.part = search rules in
    record { whole = simp to_z-of_z w.wholly; part = simp to_z-of_z w.partly }

pub returns-then-items-eq41 : goal.returns-then-items-eq41
returns-then-items-eq41 c =
    let x = c.items-items.result in
    let n = (wide x c.items-items.ensures.lawful).six in
    let f : SFits w64 x.whole = search rules in
    let g : SFits w64 x.part = search rules in
    let d : to_z w64 x.channel ≡ pos x.channel = to_z_pos w64 x.channel (omega arith) in
    let j : to_z w64 (of_z w64 c.joined.result) ≡ pos x.channel *ℤ pos 1000000000 +ℤ x.whole =
    to_z-of_z w64 c.joined.result (record { sfits = c.joined.type_inv })
    ∙ c.joined.ensures
    ∙ ap (λ (v : ℤ). v *ℤ pos 1000000000 +ℤ to_z w64 (of_z w64 x.whole)) d
    ∙ ap (λ (v : ℤ). pos x.channel *ℤ pos 1000000000 +ℤ v) (to_z-of_z w64 x.whole f) in
    let e : Nanoseconds (pos x.channel *ℤ pos 1000000000 +ℤ x.whole) x.part ≡ value_of x = sym (cond-true _ _ _ (eq-eqb x.kind 41 c.if-items-eq41.true)) in
    ap (λ (v : ℤ). Nanoseconds v (to_z w64 (of_z w64 x.part))) j
    ∙ ap (λ (v : ℤ). Nanoseconds (pos x.channel *ℤ pos 1000000000 +ℤ x.whole) v) (to_z-of_z w64 x.part g)
    ∙ e
    ∙ ap value_of c.items-items.ensures.same

pub returns-else-items-eq41 : goal.returns-else-items-eq41
returns-else-items-eq41 c =
    let x = c.items-items.result in
    let f : SFits w64 x.whole = search rules in
    let g : SFits w64 x.part = search rules in
    let j : to_z w64 (of_z w64 c.joined-else-items-eq41.result) ≡ x.whole *ℤ pos 1000000000 +ℤ x.part =
    to_z-of_z w64 c.joined-else-items-eq41.result (record { sfits = c.joined-else-items-eq41.type_inv })
    ∙ c.joined-else-items-eq41.ensures
    ∙ ap (λ (v : ℤ). v *ℤ pos 1000000000 +ℤ to_z w64 (of_z w64 x.part)) (to_z-of_z w64 x.whole f)
    ∙ ap (λ (v : ℤ). x.whole *ℤ pos 1000000000 +ℤ v) (to_z-of_z w64 x.part g) in
    let e : Billionths (x.whole *ℤ pos 1000000000 +ℤ x.part) ≡ value_of x = sym (cond-false _ _ _ (ne_eqb x.kind 41 c.if-items-eq41.false)) in
    ap Billionths j ∙ e ∙ ap value_of c.items-items.ensures.same
