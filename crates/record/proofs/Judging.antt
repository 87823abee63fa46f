-- What a packet is judged to be, from what its nine words were found to be.
use Rattle.std.proofs.Common.{◌≡◌, ℕ, zero, suc, ◌<◌, Some, None, Ok, Err, Option, Result, sym, refl, ap, ◌∙◌, arith, MatchResult}
use Rattle.record.specs.Kinds.{lower, judged}
use Rattle.record.specs.Rules.{broken}
use Rattle.record.specs.declared.fault.RecordFault.{RecordFault}
use Rattle.record.specs.declared.fault.RecordFault.TheVariants.{BadItem}

lower-none : (n : ℕ) → lower n 0 ≡ n
lower-none zero = refl
lower-none (suc n) = refl

-- words with a bad item are no record's
pub judged-bad : {R : Type 0} (o : Option R) (k n f : ℕ) → ((x : R) → o ≡ Some x → n ≡ 0) → 0 < n → Err (BadItem k (lower n f)) ≡ judged k n f o
judged-bad None k n f h l = refl
judged-bad (Some x) k n f h l = let e = h x refl in absurd (omega arith)

-- a reading that looks at no owner
pub judged-plain : {R : Type 0} (r : Result R RecordFault) (o : Option R) (k n : ℕ) → ((x : R) → o ≡ Some x → n ≡ 0) → MatchResult r (λ x. o ≡ Some x) (λ e. (0 < n) × (e ≡ BadItem k n)) → r ≡ judged k n 0 o
judged-plain (Ok x) o k n h c = sym (ap (judged k n 0) c)
judged-plain (Err e) o k n h c = ap Err c.1 ∙ ap (λ (m : ℕ). Err (BadItem k m)) (sym (lower-none n)) ∙ judged-bad o k n 0 h c.0

-- where no item is named, the number is 0
pub no_item : (n : ℕ) → broken n ≡ None → n ≡ 0
no_item zero e = refl
no_item (suc n) e = let b : ⊥ = cc in absurd b

-- a record that names no other owner
pub judged-own : {R : Type 0} (o : Option R) (x : R) (k n f : ℕ) → f ≡ 0 → o ≡ Some x → Ok x ≡ judged k n f o
judged-own o x k n f e q = sym (ap (λ v. judged k n v o) e ∙ ap (judged k n 0) q)
