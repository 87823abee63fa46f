-- Records that are their items with the proof that no rule is broken.
use Rattle.std.proofs.Common.{◌≡◌, ℕ, zero, suc, List, Some, Option, sym, refl, ap, ◌∙◌, arith}
use mathlib.Core.HLevel.{is_prop→PathP}
use native.Mathlib.Nat.{ℕ_set}
use Rattle.record.specs.Kinds.{formed_if, formed}

pub record Forming (I R : Type 0) : Type 0 where
  pub bad : I → ℕ
  pub made : (i : I) → bad i ≡ 0 → R
  pub items : R → I
  pub kept : (x : R) → bad (items x) ≡ 0
  pub whole : (x : R) → made (items x) (kept x) ≡ x
  pub exact : (i : I) (e : bad i ≡ 0) → items (made i e) ≡ i

-- two records with the same items are one
pub same : {I R : Type 0} (f : Forming I R) (x y : R) → f.items x ≡ f.items y → x ≡ y
same f x y e =
    let m : f.made (f.items x) (f.kept x) ≡ f.made (f.items y) (f.kept y) =
    λ k. f.made (e k) (is_prop→PathP (λ j. f.bad (e j) ≡ 0) (λ j. ℕ_set (f.bad (e j)) 0) (f.kept x) (f.kept y) k) in
    sym (f.whole x) ∙ m ∙ f.whole y

formed_if_lem : {I R : Type 0} (f : Forming I R) (x : R) (i : I) (n : ℕ) (e : f.bad i ≡ n) → f.items x ≡ i → formed_if f.bad f.made i n e ≡ Some x
formed_if_lem f x i zero e q = ap Some (same f (f.made i e) x (f.exact i e ∙ sym q))
formed_if_lem f x i (suc n) e q = let a = ap f.bad q in let b = f.kept x in absurd (omega arith)

items_if : {I R : Type 0} (f : Forming I R) (x : R) (i : I) (n : ℕ) (e : f.bad i ≡ n) → formed_if f.bad f.made i n e ≡ Some x → f.items x ≡ i
items_if f x i zero e q = let p : f.made i e ≡ x = cc in ap f.items (sym p) ∙ f.exact i e
items_if f x i (suc n) e q = let z : ◌≡◌ {A = ℕ} 0 1 = cc in absurd (omega arith)

-- records that are read back from what they pack to are told apart by it
pub apart_by : {R : Type 0} (p : R → List ℕ) (u : List ℕ → Option R) → ((x : R) → u (p x) ≡ Some x) → (x y : R) → p x ≡ p y → x ≡ y
apart_by p u h x y e = let q : Some x ≡ Some y = sym (h x) ∙ ap u e ∙ h y in cc

-- items that are a record's form that record
pub forms : {I R : Type 0} (f : Forming I R) (x : R) (i : I) → i ≡ f.items x → formed f.bad f.made i ≡ Some x
forms f x i q = formed_if_lem f x i (f.bad i) refl (sym q)

-- what items form has those items
pub formed_items : {I R : Type 0} (f : Forming I R) (x : R) (i : I) → formed f.bad f.made i ≡ Some x → f.items x ≡ i
formed_items f x i q = items_if f x i (f.bad i) refl q
