-- Headers, groups, summary rows and filler: what is read is what was laid.
use Rattle.std.proofs.Common.{◌≡◌, ℕ, zero, suc, ◌+◌, ◌^◌, ◌<◌, ◌≤◌, true, ◌&&◌, eqb, ltb, List, [], ◌∷◌, ◌++◌, map, length, get_or, drop, replicate, ℤ, pos, negsuc, Ok, Option, sym, refl, ap, ◌∙◌, subst, arith, lit<, w32, SFits, to_z, of_z}
use Rattle.std.proofs.Math.Seq.{drop-append_seam}
use Rattle.std.proofs.lemmas.List.{length-map}
use Rattle.std.proofs.lemmas.Int.{of_z-to_z}
use Rattle.std.proofs.lemmas.Bool.{and_parts, and_from, eqb-true, eq-eqb, ltb-false, le-ltb}
use Rattle.std.specs.Str.{bytes_eq}
use Rattle.packet.specs.Packets.{word, header_like, filler}
use Rattle.carrier.specs.Cells.{Cell, holds, damaged, Proper, Whole}
use Rattle.record.specs.Kinds.{Kind}
use Rattle.record.proofs.SignedLaws.{fits}
use Rattle.label.specs.Headers.{headed, header_packet}
use Rattle.label.proofs.HeaderLaws.{headed_is, headed-within, headed_back, header_like_lem, header_key, header_whole}
use Rattle.odf.specs.declared.fault.FileFault.TheVariants.{InRecord, Misplaced, OutOfOrder, WrongRow, NotFiller}
use Rattle.reading.specs.declared.walk.Bounds.{Bounds}
use Rattle.reading.specs.Outcomes.{lifted}
use Rattle.reading.specs.Contents.{Ordered, packed}
use Rattle.reading.specs.Reading.{above, opened, records, owner_of, enough, group, rows_at, filler_at}
use Rattle.reading.proofs.Steps.{never, then_ok, lifted_ok, if_not, if_so, same_true, same_refl}
use Rattle.reading.proofs.Groups.{Laws, records_is, records_back}

-- a key and its word
pub record Keyed (key : ℤ) (w : ℕ) : Type 0 where
  pub fit : SFits w32 key
  pub to : to_z w32 w ≡ key
  pub of : of_z w32 key ≡ w

pub orbit_key : Keyed (pos 109) 109
orbit_key = record { fit = fits (pos 109) refl; to = refl; of = refl }

pub ramp_key : Keyed (pos 2030) 2030
ramp_key = record { fit = fits (pos 2030) refl; to = refl; of = refl }

pub clock_key : Keyed (pos 2040) 2040
clock_key = record { fit = fits (pos 2040) refl; to = refl; of = refl }

pub summary_key : Keyed (pos 105) 105
summary_key = record { fit = fits (pos 105) refl; to = refl; of = refl }

pub end_key : Keyed (negsuc 0) 4294967295
end_key = record { fit = fits (negsuc 0) refl; to = refl; of = refl }

pub label_key : Keyed (pos 101) 101
label_key = record { fit = fits (pos 101) refl; to = refl; of = refl }

pub identifier_key : Keyed (pos 107) 107
identifier_key = record { fit = fits (pos 107) refl; to = refl; of = refl }

-- a secondary key that is within its bounds
pub record Within (b : Bounds) (s : ℕ) : Type 0 where
  pub least : b.least ≤ s
  pub most : s ≤ b.most
  pub lowest : b.lowest ≤ s

pub opened_is : (key : ℤ) (w len : ℕ) (b : Bounds) (k : ℕ) (p : List ℕ) (s : ℕ) → Keyed key w → Proper (holds p) → opened w len b k p ≡ Ok s → (p ≡ header_packet key s len k) × Within b s
opened_is key w len b k p s y h e =
    let a = if_so (header_like p && eqb (word p 1) w) _ (Misplaced k) s e in
    let t = and_parts _ _ a.0 in
    let c = then_ok (lifted InRecord (headed b.least b.most len k p)) (above b.lowest k) s a.1 in
    let d = if_not (ltb c.0 b.lowest) (OutOfOrder k) (Ok c.0) s c.1.1 in
    let q : c.0 ≡ s = let z = d.1 in cc in
    let g : headed b.least b.most len k p ≡ Ok s = lifted_ok InRecord (headed b.least b.most len k p) c.0 c.1.0 ∙ ap Ok q in
    let i = headed-within b.least b.most len k s p g in
    let l = ltb-false _ _ d.0 in (
      headed_is key b.least b.most len k s p h.0 h.1 t.0 (ap (to_z w32) (eqb-true _ _ t.1) ∙ y.to) g,
      record { least = i.0; most = i.1; lowest = omega arith },
    )

word_below : (p : List ℕ) → ((j : ℕ) → get_or p j 0 < 256) → word p 1 < 2 ^ 32
word_below p f = let f0 = f 0 in let f1 = f 1 in let f2 = f 2 in let f3 = f 3 in omega arith

pub first_word : (key : ℤ) (w s len k : ℕ) → Keyed key w → s < 2 ^ 32 → len < 2 ^ 32 → k < 2 ^ 32 → word (header_packet key s len k) 1 ≡ w
first_word key w s len k y a b c =
    let p = header_packet key s len k in
    let n = word_below p (header_whole key s len k).1 in
    sym (of_z-to_z w32 (word p 1) n) ∙ ap (of_z w32) (header_key key s len k y.fit a b c) ∙ y.of

pub opened_back : (key : ℤ) (w s len : ℕ) (b : Bounds) (k : ℕ) → Keyed key w → s < 2 ^ 32 → len < 2 ^ 32 → k < 2 ^ 32 → Within b s → opened w len b k (header_packet key s len k) ≡ Ok s
opened_back key w s len b k y hs hl hk i =
    let t = and_from _ _ (header_like_lem key s len k y.fit hs hl hk) (eq-eqb _ _ (first_word key w s len k y hs hl hk)) in
    rw (t, headed_back key b.least b.most s len k y.fit hs hl hk i.least i.most, le-ltb s b.lowest i.lowest) refl

-- a group, by its header and its records
pub record Grouped {R : Type 0} (κ : Kind R) (key : ℤ) (least : ℕ) (b : Bounds) (owner : Option ℕ) (k : ℕ) (cs : List Cell) (s : ℕ) (xs : List R) : Type 0 where
  pub stand : cs ≡ holds (header_packet key s 1 k) ∷ (map holds (packed κ xs) ++ drop (suc (length xs)) cs)
  pub within : Within b s
  pub order : Ordered κ (owner_of owner s) 0 xs
  pub some : least ≤ length xs

pub group_is : {R : Type 0} (κ : Kind R) → Laws κ → (key : ℤ) (w least : ℕ) (b : Bounds) (owner : Option ℕ) (k : ℕ) (cs : List Cell) (g : ℕ × List R) → Keyed key w → Whole cs → group κ w least b owner k cs ≡ Ok g → Grouped κ key least b owner k cs g.0 g.1
group_is κ l key w least b owner k [] g y h e = never _ g e
group_is κ l key w least b owner k (damaged a ∷ cs) g y h e = never _ g e
group_is κ l key w least b owner k (holds p ∷ cs) g y h e =
    let a = then_ok (opened w 1 b k p) _ g e in
    let s = a.0 in
    let c = then_ok (records κ (owner_of owner s) (suc k) 0 cs) (enough least (suc k) s) g a.1.1 in
    let xs = c.0 in
    let o = opened_is key w 1 b k p s y h.0 a.1.0 in
    let r = records_is κ l (owner_of owner s) (suc k) 0 cs xs h.1 c.1.0 in
    let d = if_not (ltb (length xs) least) (Misplaced (suc k + length xs)) (Ok (s, xs)) g c.1.1 in
    let q : (s, xs) ≡ g = let z = d.1 in cc in
    let m = ltb-false _ _ d.0 in
    subst (λ v. Grouped κ key least b owner k (holds p ∷ cs) v.0 v.1) q
    (record { stand = λ i. holds (o.0 i) ∷ r.stand i; within = o.1; order = r.order; some = omega arith })

pub group_back : {R : Type 0} (κ : Kind R) → Laws κ → (key : ℤ) (w least : ℕ) (b : Bounds) (owner : Option ℕ) (k s : ℕ) (xs : List R) (q : List ℕ) (ds : List Cell) → Keyed key w → s < 2 ^ 32 → k < 2 ^ 32 → Within b s → Ordered κ (owner_of owner s) 0 xs → least ≤ length xs → header_like q ≡ true → group κ w least b owner k (holds (header_packet key s 1 k) ∷ (map holds (packed κ xs) ++ holds q ∷ ds)) ≡ Ok (s, xs)
group_back κ l key w least b owner k s xs q ds y hs hk i o m t =
    rw (opened_back key w s 1 b k y hs (lit< tt) hk i, records_back κ l (owner_of owner s) (suc k) 0 xs q ds o t, le-ltb (length xs) least m) refl

-- what stands behind packets that were laid
pub behind_laid : (ps : List (List ℕ)) (n : ℕ) (es : List Cell) → n ≡ length ps → drop n (map holds ps ++ es) ≡ es
behind_laid ps n es h = ap (λ v. drop v (map holds ps ++ es)) (h ∙ sym (length-map ps holds)) ∙ drop-append_seam (map holds ps) es

-- the rows of the summary
pub rows_is : (k : ℕ) (rows : List (List ℕ)) (cs : List Cell) (u : Unit {0}) → rows_at k rows cs ≡ Ok u → cs ≡ map holds rows ++ drop (length rows) cs
rows_is k [] cs u e = refl
rows_is k (r ∷ rows) [] u e = never _ u e
rows_is k (r ∷ rows) (damaged b ∷ cs) u e = never _ u e
rows_is k (r ∷ rows) (holds p ∷ cs) u e =
    let a = if_so (bytes_eq p r) (rows_at (suc k) rows cs) (WrongRow k) u e in
    let q = same_true p r a.0 in
    let t = rows_is (suc k) rows cs u a.1 in
    λ i. holds (q i) ∷ t i

pub rows_back : (k : ℕ) (rows : List (List ℕ)) (ds : List Cell) → rows_at k rows (map holds rows ++ ds) ≡ Ok tt
rows_back k [] ds = refl
rows_back k (r ∷ rows) ds = rw (same_refl r, rows_back (suc k) rows ds) refl

-- filler to the end
pub filler_is : (k : ℕ) (cs : List Cell) (u : Unit {0}) → filler_at k cs ≡ Ok u → cs ≡ replicate (length cs) (holds filler)
filler_is k [] u e = refl
filler_is k (damaged b ∷ cs) u e = never _ u e
filler_is k (holds p ∷ cs) u e =
    let a = if_so (bytes_eq p filler) (filler_at (suc k) cs) (NotFiller k) u e in
    let q = same_true p filler a.0 in
    let t = filler_is (suc k) cs u a.1 in
    λ i. holds (q i) ∷ t i

pub filler_back : (k m : ℕ) → filler_at k (replicate m (holds filler)) ≡ Ok tt
filler_back k zero = refl
filler_back k (suc m) = rw (filler_back (suc k) m) refl
