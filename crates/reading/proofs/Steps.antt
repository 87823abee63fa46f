-- What an accepted step says of its parts.
use Rattle.std.proofs.Common.{◌≡◌, ℕ, Bool, true, false, cond, List, [], ◌∷◌, drop, Ok, Err, Result, sym, refl, ap}
use Rattle.std.specs.Str.{bytes_eq}
use Rattle.std.proofs.lemmas.Slice.Eq.{bytes_eq-Decides}
use Rattle.carrier.specs.Cells.{Cell, holds, damaged}
use Rattle.odf.specs.declared.fault.FileFault.{FileFault}
use Rattle.reading.specs.Outcomes.{and_then, lifted, seen}
use Rattle.reading.specs.Reading.{packet_at, joined}

pub never : {A E : Type 0} {C : Type 0} (e : E) (x : A) → ◌≡◌ {A = Result A E} (Err e) (Ok x) → C
never e x h = absurd cc

pub then_ok : {A B E : Type 0} (r : Result A E) (f : A → Result B E) (y : B) → and_then r f ≡ Ok y → (x : A) × ((r ≡ Ok x) × (f x ≡ Ok y))
then_ok (Ok x) f y h = (x, (refl, h))
then_ok (Err e) f y h = never e y h

pub lifted_ok : {A E F : Type 0} (f : E → F) (r : Result A E) (x : A) → lifted f r ≡ Ok x → r ≡ Ok x
lifted_ok f (Ok y) x h = cc
lifted_ok f (Err e) x h = never (f e) x h

pub seen_ok : {A B E : Type 0} (f : A → B) (r : Result A E) (y : B) → seen f r ≡ Ok y → (x : A) × ((r ≡ Ok x) × (f x ≡ y))
seen_ok f (Ok x) y h = (x, (refl, cc))
seen_ok f (Err e) y h = never e y h

pub seen_err : {A B E : Type 0} (f : A → B) (r : Result A E) (e : E) → Err e ≡ seen f r → r ≡ Err e
seen_err f (Ok x) e h = never e _ h
seen_err f (Err g) e h = let q : e ≡ g = cc in ap Err (sym q)

pub joined_ok : {A : Type 0} (x : A) (r : Result (List A) FileFault) (xs : List A) → joined x r ≡ Ok xs → (ys : List A) × ((r ≡ Ok ys) × (x ∷ ys ≡ xs))
joined_ok x (Ok ys) xs h = (ys, (refl, cc))
joined_ok x (Err e) xs h = never e xs h

-- a test that refuses
pub if_not : {A E : Type 0} (b : Bool) (e : E) (r : Result A E) (x : A) → cond b (Err e) r ≡ Ok x → (b ≡ false) × (r ≡ Ok x)
if_not true e r x h = never e x h
if_not false e r x h = (refl, h)

pub if_so : {A E : Type 0} (b : Bool) (r : Result A E) (e : E) (x : A) → cond b r (Err e) ≡ Ok x → (b ≡ true) × (r ≡ Ok x)
if_so true r e x h = (refl, h)
if_so false r e x h = never e x h

pub packet_ok : (k : ℕ) (cs : List Cell) (p : List ℕ) → packet_at k cs ≡ Ok p → cs ≡ holds p ∷ drop 1 cs
packet_ok k [] p h = never _ p h
packet_ok k (damaged b ∷ cs) p h = never _ p h
packet_ok k (holds q ∷ cs) p h = let e : q ≡ p = cc in ap (λ x. holds x ∷ cs) e

pub same_true : (p q : List ℕ) → bytes_eq p q ≡ true → p ≡ q
same_true p q h = (bytes_eq-Decides p q).0 h

pub same_refl : (p : List ℕ) → bytes_eq p p ≡ true
same_refl p = (bytes_eq-Decides p p).1 refl
