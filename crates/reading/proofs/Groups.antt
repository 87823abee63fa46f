-- A group of records, read from its packets, and its packets, read back.
use Rattle.std.proofs.Common.{◌≡◌, ℕ, zero, suc, ◌+◌, ◌*◌, ◌^◌, ◌<◌, true, false, ltb, List, [], ◌∷◌, ◌++◌, map, length, get_or, drop, Some, None, Ok, Option, sym, refl, ap, ◌∙◌, subst, inl, inr, arith}
use Rattle.std.proofs.lemmas.List.{get_or_past}
use Rattle.std.proofs.lemmas.Bool.{cases_Bool, cases_lt, ltb-false, le-ltb}
use Rattle.packet.specs.Packets.{words_of, bytes_of, header_like}
use Rattle.packet.proofs.PacketLaws.{words_at, words_back, bytes_back}
use Rattle.carrier.specs.Cells.{Cell, holds, damaged, Proper, Whole}
use Rattle.record.specs.Kinds.{Kind, judged, owned}
use Rattle.record.proofs.Data.{no_header}
use Rattle.odf.specs.declared.fault.FileFault.TheVariants.{InRecord, OutOfOrder}
use Rattle.reading.specs.Outcomes.{lifted}
use Rattle.reading.specs.Contents.{Ordered, packed}
use Rattle.reading.specs.Reading.{records, joined}
use Rattle.reading.proofs.Steps.{never, then_ok, lifted_ok, joined_ok, if_not}

-- what a kind's packing and unpacking obey
pub record Laws {R : Type 0} (κ : Kind R) : Type 0 where
  pub back : (x : R) → κ.unpacked (κ.packed x) ≡ Some x
  pub given : (w : List ℕ) (x : R) → length w ≡ 9 → ((k : ℕ) → get_or w k 0 < 2 ^ 32) → κ.unpacked w ≡ Some x → κ.packed x ≡ w
  pub nine : (x : R) → length (κ.packed x) ≡ 9
  pub narrow : (x : R) (k : ℕ) → get_or (κ.packed x) k 0 < 2 ^ 32
  pub headless : (x : R) → get_or (κ.packed x) 4 0 ≡ 0 → get_or (κ.packed x) 5 0 ≡ 0 → ⊥

judged_ok : {R : Type 0} (k bad foreign : ℕ) (o : Option R) (x : R) → judged k bad foreign o ≡ Ok x → (foreign ≡ 0) × (o ≡ Some x)
judged_ok k bad foreign None x h = never _ x h
judged_ok k bad zero (Some y) x h = (refl, cc)
judged_ok k bad (suc i) (Some y) x h = never _ x h

-- the words of a packet of 36 bytes
pub words_long : (p : List ℕ) → length (words_of p) ≡ 9
unfolding words_of
words_long p = refl

pub words_narrow : (p : List ℕ) → ((j : ℕ) → get_or p j 0 < 256) → (k : ℕ) → get_or (words_of p) k 0 < 2 ^ 32
words_narrow p h k =
    elim (cases_lt k 9) [
      | inl l ↦ let e = words_at p k l in let a = h (4 * k) in let b = h (4 * k + 1) in let c = h (4 * k + 2) in let d = h (4 * k + 3) in omega arith
      | inr l ↦ let e = get_or_past (words_of p) k 0 (let n = words_long p in omega arith) in omega arith
    ]

-- a packet that is read as a record is the record's packet
pub owned_is : {R : Type 0} (κ : Kind R) → Laws κ → (o k : ℕ) (p : List ℕ) (x : R) → Proper (holds p) → owned κ o k p ≡ Ok x → (bytes_of (κ.packed x) ≡ p) × (κ.foreign o (κ.packed x) ≡ 0)
owned_is κ l o k p x h e =
    let j = judged_ok k _ _ _ x e in
    let w : κ.packed x ≡ words_of p = l.given (words_of p) x (words_long p) (words_narrow p h.1) j.1 in
    (bytes_back p (κ.packed x) h.0 h.1 w, ap (κ.foreign o) w ∙ j.0)

pub packed_words : {R : Type 0} (κ : Kind R) → Laws κ → (x : R) → words_of (bytes_of (κ.packed x)) ≡ κ.packed x
packed_words κ l x = words_back (κ.packed x) (bytes_of (κ.packed x)) (l.nine x) (l.narrow x) refl

pub owned_back : {R : Type 0} (κ : Kind R) → Laws κ → (o k : ℕ) (x : R) → κ.foreign o (κ.packed x) ≡ 0 → owned κ o k (bytes_of (κ.packed x)) ≡ Ok x
owned_back κ l o k x f =
    let w = packed_words κ l x in
    let a : κ.foreign o (words_of (bytes_of (κ.packed x))) ≡ 0 = ap (κ.foreign o) w ∙ f in
    let b : κ.unpacked (words_of (bytes_of (κ.packed x))) ≡ Some x = ap κ.unpacked w ∙ l.back x in
    λ i. judged k (κ.bad (words_of (bytes_of (κ.packed x)))) (a i) (b i)

pub data_like : {R : Type 0} (κ : Kind R) → Laws κ → (x : R) → header_like (bytes_of (κ.packed x)) ≡ false
data_like κ l x = no_header (κ.packed x) (l.nine x) (l.narrow x) (l.headless x)

-- records that were read are in their order, and stand in the cells
pub record Read {R : Type 0} (κ : Kind R) (o last : ℕ) (cs : List Cell) (xs : List R) : Type 0 where
  pub stand : cs ≡ map holds (packed κ xs) ++ drop (length xs) cs
  pub order : Ordered κ o last xs

read_none : {R : Type 0} (κ : Kind R) (o last : ℕ) (cs : List Cell) (xs : List R) → [] ≡ xs → Read κ o last cs xs
read_none κ o last cs xs e = subst (Read κ o last cs) e (record { stand = refl; order = tt })

read_more : {R : Type 0} (κ : Kind R) (o last : ℕ) (p : List ℕ) (cs : List Cell) (x : R) (xs ys : List R) → x ∷ ys ≡ xs → bytes_of (κ.packed x) ≡ p → κ.foreign o (κ.packed x) ≡ 0 → ltb (κ.starts x) last ≡ false → Read κ o (κ.until x) cs ys → Read κ o last (holds p ∷ cs) xs
read_more κ o last p cs x xs ys e b f t r =
    subst (Read κ o last (holds p ∷ cs)) e
    (record {
      stand = λ i. holds (sym b i) ∷ r.stand i;
      order = (ltb-false (κ.starts x) last t, f, r.order);
    })

pub records_is : {R : Type 0} (κ : Kind R) → Laws κ → (o k last : ℕ) (cs : List Cell) (xs : List R) → Whole cs → records κ o k last cs ≡ Ok xs → Read κ o last cs xs
records_is κ l o k last [] xs w h = never _ xs h
records_is κ l o k last (damaged b ∷ cs) xs w h = never _ xs h
records_is κ l o k last (holds p ∷ cs) xs w h =
    elim (cases_Bool (header_like p)) [
      | inl t ↦ read_none κ o last (holds p ∷ cs) xs (let e = (rw t at h) in cc)
      | inr t ↦
          let e = rw t at h in
          let a = then_ok (lifted InRecord (owned κ o k p)) _ xs e in
          let x = a.0 in
          let own = owned_is κ l o k p x w.0 (lifted_ok InRecord (owned κ o k p) x a.1.0) in
          let b = if_not (ltb (κ.starts x) last) (OutOfOrder k) (joined x (records κ o (suc k) (κ.until x) cs)) xs a.1.1 in
          let c = joined_ok x (records κ o (suc k) (κ.until x) cs) xs b.1 in
          read_more κ o last p cs x xs c.0 c.1.1 own.0 own.1 b.0 (records_is κ l o (suc k) (κ.until x) cs c.0 w.1 c.1.0)
    ]

-- records in their order, before a header-like packet, are read
pub records_back : {R : Type 0} (κ : Kind R) → Laws κ → (o k last : ℕ) (xs : List R) (q : List ℕ) (ds : List Cell) → Ordered κ o last xs → header_like q ≡ true → records κ o k last (map holds (packed κ xs) ++ holds q ∷ ds) ≡ Ok xs
records_back κ l o k last [] q ds h t = rw t refl
records_back κ l o k last (x ∷ xs) q ds h t =
    let r = records_back κ l o (suc k) (κ.until x) xs q ds h.2 t in
    rw (data_like κ l x, owned_back κ l o k x h.1, le-ltb (κ.starts x) last h.0, r) refl
