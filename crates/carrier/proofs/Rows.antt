-- Facts about rows of cells.
use Rattle.std.proofs.Common.{◌≡◌, ℕ, zero, suc, ◌<◌, List, [], ◌∷◌, ◌++◌, length, get_or, drop, set, replicate, Some, None, Ok, Err, Option, refl, ap, subst, arith}
use Rattle.carrier.specs.Cells.{Cell, holds, damaged, Proper, Whole, cell_at, reply, put_at, stored, first_damage}
use Rattle.carrier.specs.declared.fault.CarrierFault.{CarrierFault}

-- the cell that a call was not refused at
pub answered : (k : ℕ) (x : Option Cell) → reply k x ≡ Ok tt → (p : List ℕ) × (x ≡ Some (holds p))
answered k None h = let z : ◌≡◌ {A = ℕ} 0 1 = cc in absurd (omega arith)
answered k (Some (holds p)) h = (p, refl)
answered k (Some (damaged b)) h = let z : ◌≡◌ {A = ℕ} 0 1 = cc in absurd (omega arith)

pub stored_ok : (cs : List Cell) (k : ℕ) (p : List ℕ) → reply k (cell_at cs k) ≡ Ok tt → stored cs k p ≡ set cs k (holds p)
stored_ok cs k p h = let a = answered k (cell_at cs k) h in ap (λ x. put_at x cs k p) a.1

pub refused_stored : (x : Option Cell) (e : CarrierFault) (cs : List Cell) (k : ℕ) (p : List ℕ) → reply k x ≡ Err e → put_at x cs k p ≡ cs
refused_stored None e cs k p h = refl
refused_stored (Some (holds q)) e cs k p h = let z : ◌≡◌ {A = ℕ} 0 1 = cc in absurd (omega arith)
refused_stored (Some (damaged b)) e cs k p h = refl

-- a walk that looks for damage, the cell at i having number k: where it stops, goes on and ends
pub damage_stop : (k : ℕ) (cs : List Cell) (i : ℕ) (e : CarrierFault) → i < length cs → reply k (cell_at cs i) ≡ Err e → first_damage k (drop i cs) ≡ Err e
damage_stop k [] i e l h = absurd (omega arith)
damage_stop k (holds p ∷ cs) zero e l h = let z : ◌≡◌ {A = ℕ} 0 1 = cc in absurd (omega arith)
damage_stop k (damaged b ∷ cs) zero e l h = h
damage_stop k (c ∷ cs) (suc i) e l h = damage_stop k cs i e (omega arith) h

pub damage_more : (k : ℕ) (cs : List Cell) (i : ℕ) → reply k (cell_at cs i) ≡ Ok tt → first_damage (suc k) (drop (suc i) cs) ≡ first_damage k (drop i cs)
damage_more k [] i h = let z : ◌≡◌ {A = ℕ} 0 1 = cc in absurd (omega arith)
damage_more k (holds p ∷ cs) zero h = refl
damage_more k (damaged b ∷ cs) zero h = let z : ◌≡◌ {A = ℕ} 0 1 = cc in absurd (omega arith)
damage_more k (c ∷ cs) (suc i) h = damage_more k cs i h

-- a row without damage: each cell holds a packet
pub whole_at : (k : ℕ) (cs : List Cell) (i : ℕ) → first_damage k cs ≡ Ok tt → i < length cs → (p : List ℕ) × (cell_at cs i ≡ Some (holds p))
whole_at k [] i h l = absurd (omega arith)
whole_at k (holds p ∷ cs) zero h l = (p, refl)
whole_at k (holds p ∷ cs) (suc i) h l = whole_at (suc k) cs i h (omega arith)
whole_at k (damaged b ∷ cs) i h l = let z : ◌≡◌ {A = ℕ} 0 1 = cc in absurd (omega arith)

pub whole_replicate : (k n : ℕ) (p : List ℕ) → first_damage k (replicate n (holds p)) ≡ Ok tt
whole_replicate k zero p = refl
whole_replicate k (suc n) p = whole_replicate (suc k) n p

-- cell k of a row that is put together from another's first k cells and its own others
pub at_append : (us vs : List Cell) (k : ℕ) → length us ≡ k → cell_at (us ++ vs) k ≡ cell_at vs 0
at_append [] vs zero h = refl
at_append [] vs (suc k) h = absurd (omega arith)
at_append (u ∷ us) vs zero h = absurd (omega arith)
at_append (u ∷ us) vs (suc k) h = at_append us vs k (omega arith)

pub at_drop : (cs : List Cell) (k : ℕ) → cell_at (drop k cs) 0 ≡ cell_at cs k
at_drop [] zero = refl
at_drop [] (suc k) = refl
at_drop (c ∷ cs) zero = refl
at_drop (c ∷ cs) (suc k) = at_drop cs k

pub at_get_or : (cs : List Cell) (k : ℕ) (c d : Cell) → cell_at cs k ≡ Some c → get_or cs k d ≡ c
at_get_or [] k c d h = let z : ◌≡◌ {A = ℕ} 0 1 = cc in absurd (omega arith)
at_get_or (x ∷ cs) zero c d h = cc
at_get_or (x ∷ cs) (suc k) c d h = at_get_or cs k c d h

-- a row of which each packet has 36 bytes
pub whole_at_cell : (cs : List Cell) (k : ℕ) (p : List ℕ) → Whole cs → cell_at cs k ≡ Some (holds p) → Proper (holds p)
whole_at_cell [] k p w h = let z : ◌≡◌ {A = ℕ} 0 1 = cc in absurd (omega arith)
whole_at_cell (c ∷ cs) zero p w h = let e : c ≡ holds p = cc in subst Proper e w.0
whole_at_cell (c ∷ cs) (suc k) p w h = whole_at_cell cs k p w.1 h

pub whole_drop : (cs : List Cell) (k : ℕ) → Whole cs → Whole (drop k cs)
whole_drop [] zero w = w
whole_drop [] (suc k) w = w
whole_drop (c ∷ cs) zero w = w
whole_drop (c ∷ cs) (suc k) w = whole_drop cs k w.1

-- what is left of a row from cell k on
pub drop_some : (cs : List Cell) (k : ℕ) (c : Cell) → cell_at cs k ≡ Some c → drop k cs ≡ c ∷ drop (suc k) cs
drop_some [] k c h = let z : ◌≡◌ {A = ℕ} 0 1 = cc in absurd (omega arith)
drop_some (x ∷ cs) zero c h = let e : x ≡ c = cc in ap (λ y. y ∷ cs) e
drop_some (x ∷ cs) (suc k) c h = drop_some cs k c h

pub drop-none : (cs : List Cell) (k : ℕ) → cell_at cs k ≡ None → drop k cs ≡ []
drop-none [] zero h = refl
drop-none [] (suc k) h = refl
drop-none (x ∷ cs) zero h = let z : ◌≡◌ {A = ℕ} 0 1 = cc in absurd (omega arith)
drop-none (x ∷ cs) (suc k) h = drop-none cs k h
