-- A memory that is cleared and then filled again.
use Rattle.std.proofs.Common.{◌≡◌, ℕ, ◌-◌, ◌≤◌, List, [], ◌++◌, length, drop, replicate, Ok, Err, Result, sym, ap, ◌∙◌, subst, arith}
use Rattle.std.proofs.lemmas.Bool.{le-ltb, cond-false}
use Rattle.carrier.specs.declared.fault.CarrierFault.{CarrierFault}
use Rattle.std.proofs.lemmas.List.{length-replicate, drop-replicate}
use Rattle.packet.specs.Packets.{filler}
use Rattle.carrier.specs.Cells.{Cell, holds, first_damage}
use Rattle.carrier.proofs.Rows.{whole_replicate}
use Rattle.makes.specs.Shapes.{Shape, count_for, cells_of, outside_of}
use Rattle.makes.proofs.Rows.{length_cells}
use Rattle.makes.proofs.Outside.{outside_long, outside-same}
use Rattle.convert.specs.Conversion.{Refilled, placed}

-- the cells of a cleared memory
all_filler : (g : Shape) (t u : List ℕ) → Refilled g [] t u → cells_of g u ≡ replicate (length (cells_of g t)) (holds filler)
all_filler g t u r = let e : length (cells_of g t) - 0 ≡ length (cells_of g t) = omega arith in r.cells ∙ ap (λ n. replicate n (holds filler)) e

pub cleared_whole : (g : Shape) (t u : List ℕ) → Refilled g [] t u → first_damage 0 (cells_of g u) ≡ Ok tt
cleared_whole g t u r = ap (first_damage 0) (all_filler g t u r) ∙ whole_replicate 0 (length (cells_of g t)) filler

pub cleared_long : (g : Shape) (t u : List ℕ) → Refilled g [] t u → length (cells_of g u) ≡ length (cells_of g t)
cleared_long g t u r = ap length (all_filler g t u r) ∙ length-replicate (length (cells_of g t)) (holds filler)

-- the memory t cleared is u; v has the cells us in its first cells, and is otherwise u; w is v
pub refilled : (g : Shape) (us : List Cell) (t u v w : List ℕ) → w ≡ v → Refilled g [] t u → cells_of g v ≡ us ++ drop (length us) (cells_of g u) → outside_of g v ≡ outside_of g u → Refilled g us t w
refilled g us t u v w e r c same =
    let long : length v ≡ length u = sym (outside_long g v) ∙ ap length same ∙ outside_long g u in
    let cells = length_cells g u in
    let kept = cleared_long g t u r in
    subst (λ m. Refilled g us t m) (sym e) (record {
      cells = c ∙ ap (λ x. us ++ drop (length us) x) (all_filler g t u r) ∙ ap (λ x. us ++ x) (drop-replicate (length us) (length (cells_of g t)) (holds filler));
      others = λ j h. outside-same g u v j (ap (count_for g) long) same (λ i l. (h i (omega arith)).packet) ∙ r.others j h;
    })

-- what an answer says: with enough room only damage is refused
pub answer_damage : (n room : ℕ) (e : CarrierFault) (r : Result (Unit {0}) CarrierFault) → n ≤ room → Err e ≡ placed n room r → r ≡ Err e
answer_damage n room e (Err d) l h = let q : d ≡ e = cc in ap Err q
answer_damage n room e (Ok u) l h =
    let q = h ∙ cond-false _ _ _ (le-ltb room n l) in
    let z : ◌≡◌ {A = ℕ} 0 1 = cc in
    absurd (omega arith)
