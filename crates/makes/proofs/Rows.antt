-- The cells of a memory: where they lie, that they do not overlap, and what writing one changes.
use Rattle.std.proofs.Common.{◌≡◌, ℕ, zero, suc, ◌+◌, ◌-◌, ◌*◌, ◌/◌, ◌%◌, ◌<◌, ◌≤◌, ◌≢◌, ◌⊎◌, List, [], ◌∷◌, length, get_or, take, drop, set, Some, None, Option, sym, refl, ap, ◌∙◌, subst, inl, inr, mul-le-mul_right, mod-lt, div-lt_iff_lt-mul, add-mul, one-mul, div-mul-le_self, arith, rules}
use native.Mathlib.Nat.{div-add-mod}
use Rattle.std.specs.List.{between}
use Rattle.std.proofs.lemmas.List.Elements.{All-get_or, All-from_recursion}
use Rattle.std.proofs.lemmas.List.{ext_get_or, get_or-take, get_or-drop, get_or_past, length-take, length-drop, places}
use Rattle.std.proofs.lemmas.Bool.{cases_lt, cases_order}
use borrow.Rule.Slice.PartMut.{put_mid}
use Rattle.std.proofs.lemmas.Slice.{between-put_mid}
use Rattle.carrier.specs.Cells.{Cell, holds, Proper, Whole, cell_at, put_at, stored}
use Rattle.makes.specs.Shapes.{Shape, Sound, Free, Located, wrong_in, tab, start_of, place_of, cell_from, cell_of, count_for, count_of, cells_of}

pub length-tab : {A : Type 0} (n : ℕ) (f : ℕ → A) → length (tab n f) ≡ n
unfolding tab
length-tab zero f = refl
length-tab (suc n) f = ap suc (length-tab n (λ i. f (suc i)))

pub get_or-tab : {A : Type 0} (n : ℕ) (f : ℕ → A) (k : ℕ) (d : A) → k < n → get_or (tab n f) k d ≡ f k
unfolding tab
get_or-tab zero f k d h = absurd (omega arith)
get_or-tab (suc n) f zero d h = refl
get_or-tab (suc n) f (suc k) d h = get_or-tab n (λ i. f (suc i)) k d (omega arith)

pub at_tab : (n : ℕ) (f : ℕ → Cell) (k : ℕ) → k < n → cell_at (tab n f) k ≡ Some (f k)
unfolding tab
at_tab zero f k h = absurd (omega arith)
at_tab (suc n) f zero h = refl
at_tab (suc n) f (suc k) h = at_tab n (λ i. f (suc i)) k (omega arith)

pub at_tab_past : (n : ℕ) (f : ℕ → Cell) (k : ℕ) → n ≤ k → cell_at (tab n f) k ≡ None
unfolding tab
at_tab_past zero f k h = refl
at_tab_past (suc n) f zero h = absurd (omega arith)
at_tab_past (suc n) f (suc k) h = at_tab_past n (λ i. f (suc i)) k (omega arith)

pub tab-same : {A : Type 0} (n : ℕ) (f g : ℕ → A) → ((i : ℕ) → i < n → g i ≡ f i) → tab n g ≡ tab n f
unfolding tab
tab-same zero f g h = refl
tab-same (suc n) f g h =
    let e = h 0 (omega arith) in
    let r = tab-same n (λ i. f (suc i)) (λ i. g (suc i)) (λ i l. h (suc i) (omega arith)) in
    cc

pub tab-set : {A : Type 0} (n : ℕ) (f g : ℕ → A) (k : ℕ) (x : A) → k < n → g k ≡ x → ((i : ℕ) → i < n → i ≢ k → g i ≡ f i) → tab n g ≡ set (tab n f) k x
unfolding tab
tab-set zero f g k x l e h = absurd (omega arith)
tab-set (suc n) f g zero x l e h =
    let r = tab-same n (λ i. f (suc i)) (λ i. g (suc i)) (λ i l. h (suc i) (omega arith) (omega arith)) in
    cc
tab-set (suc n) f g (suc k) x l e h =
    let z = h 0 (omega arith) (omega arith) in
    let r = tab-set n (λ i. f (suc i)) (λ i. g (suc i)) k x (omega arith) e (λ i l ne. h (suc i) (omega arith) (λ q. ne (omega arith))) in
    cc

pub block_fits : (sh : Shape) → Sound sh → (n k : ℕ) → k < n / sh.block * sh.packets → k / sh.packets * sh.block + sh.block ≤ n
block_fits sh s n k h =
    let q : k / sh.packets < n / sh.block = (div-lt_iff_lt-mul s.some).1 h in
    let a = div-mul-le_self n sh.block in
    let b : (k / sh.packets + 1) * sh.block ≤ n / sh.block * sh.block = mul-le-mul_right sh.block (omega arith) in
    let c = add-mul (k / sh.packets) 1 sh.block in
    let d = one-mul sh.block in
    omega arith

pub slot_fits : (sh : Shape) → Sound sh → (k : ℕ) → sh.first + 36 * (k % sh.packets) + 36 ≤ sh.block
slot_fits sh s k =
    let m = mod-lt k s.some in
    omega (arith, s.room)

-- a fixed byte lies within its block and in no packet
pub fixed_at : (sh : Shape) → Sound sh → (i : ℕ) → i < length sh.fixed → ((get_or sh.fixed i (0, 0)).0 < sh.block) × Free sh (get_or sh.fixed i (0, 0)).0
fixed_at sh s i l =
    let P : ℕ × ℕ → Type 0 = λ f. (f.0 < sh.block) × Free sh f.0 in
    All-get_or P sh.fixed i (0, 0) l (All-from_recursion P sh.fixed s.apart)

pub fixed-within : (sh : Shape) → Sound sh → (xs : List (ℕ × ℕ)) → xs ≡ sh.fixed → (i : ℕ) → i < length xs → (get_or xs i (0, 0)).0 < sh.block
fixed-within sh s xs e i h =
    let within : (i : ℕ) → i < length sh.fixed → (get_or sh.fixed i (0, 0)).0 < sh.block = λ i l. (fixed_at sh s i l).0 in
    let Q : List (ℕ × ℕ) → Type 0 = λ ys. (i : ℕ) → i < length ys → (get_or ys i (0, 0)).0 < sh.block in
    subst Q (sym e) within i h

-- where the fixed bytes are the same, so is the first that is wrong
pub wrong_same : (xs : List (ℕ × ℕ)) (start : ℕ) (m n : List ℕ) → ((i : ℕ) → i < length xs → get_or n (start + (get_or xs i (0, 0)).0) 0 ≡ get_or m (start + (get_or xs i (0, 0)).0) 0) → wrong_in xs start n ≡ wrong_in xs start m
wrong_same [] start m n h = refl
wrong_same (f ∷ fs) start m n h =
    let e : get_or n (start + f.0) 0 ≡ get_or m (start + f.0) 0 = h 0 (omega arith) in
    let r = wrong_same fs start m n (λ i l. h (suc i) (omega arith)) in
    cc

pub length_cells : (sh : Shape) (m : List ℕ) → length (cells_of sh m) ≡ count_of sh m
unfolding cells_of
length_cells sh m = length-tab (count_of sh m) (cell_of sh m)

pub cells_past : (sh : Shape) (m : List ℕ) (k : ℕ) → count_of sh m ≤ k → cell_at (cells_of sh m) k ≡ None
unfolding cells_of
cells_past sh m k h = at_tab_past (count_of sh m) (cell_of sh m) k h

pub cells_at : (sh : Shape) (m : List ℕ) (k : ℕ) → k < count_of sh m → cell_at (cells_of sh m) k ≡ Some (cell_of sh m k)
unfolding cells_of
cells_at sh m k h = at_tab (count_of sh m) (cell_of sh m) k h

-- cell k, where w is the first fixed byte that is wrong in its block
pub cell_is : (sh : Shape) (m : List ℕ) (k start : ℕ) (w : Option ℕ) → k < count_of sh m → start ≡ start_of sh k → w ≡ wrong_in sh.fixed start m → cell_at (cells_of sh m) k ≡ Some (cell_from w (take 36 (drop (place_of sh k) m)))
cell_is sh m k start w h e f =
    let q : wrong_in sh.fixed (start_of sh k) m ≡ w = ap (λ x. wrong_in sh.fixed x m) (sym e) ∙ sym f in
    cells_at sh m k h ∙ ap (λ x. Some (cell_from x (take 36 (drop (place_of sh k) m)))) q

-- a block before another ends before it begins
pub block-before : (q r b : ℕ) → q < r → q * b + b ≤ r * b
block-before q r b h =
    let a : (q + 1) * b ≤ r * b = mul-le-mul_right b (omega arith) in
    let c = add-mul q 1 b in
    let d = one-mul b in
    omega arith

-- no two packets overlap
pub packets_apart : (sh : Shape) → Sound sh → (i k : ℕ) → i ≢ k → (place_of sh i + 36 ≤ place_of sh k) ⊎ (place_of sh k + 36 ≤ place_of sh i)
packets_apart sh s i k ne =
    let si = slot_fits sh s i in
    let sk = slot_fits sh s k in
    elim (cases_order (i / sh.packets) (k / sh.packets)) [
      | inl e ↦
          let di = div-add-mod i sh.packets in
          let dk = div-add-mod k sh.packets in
          let eb : start_of sh i ≡ start_of sh k = ap (λ q. q * sh.block) e in
          let ep : sh.packets * (i / sh.packets) ≡ sh.packets * (k / sh.packets) = ap (λ q. sh.packets * q) e in
          elim (cases_order (i % sh.packets) (k % sh.packets)) [
            | inl f ↦ absurd (ne (omega arith))
            | inr (inl f) ↦ inl (omega arith)
            | inr (inr f) ↦ inr (omega arith)
          ]
      | inr (inl f) ↦ let b = block-before _ _ sh.block f in inl (omega arith)
      | inr (inr f) ↦ let b = block-before _ _ sh.block f in inr (omega arith)
    ]

-- no fixed byte of a block lies in a packet
pub fixed_apart : (sh : Shape) → Sound sh → (i k j : ℕ) → j < sh.block → Free sh j → (start_of sh i + j < place_of sh k) ⊎ (place_of sh k + 36 ≤ start_of sh i + j)
fixed_apart sh s i k j h o =
    let sk = slot_fits sh s k in
    let mk = mod-lt k s.some in
    elim (cases_order (i / sh.packets) (k / sh.packets)) [
      | inl e ↦
          let eb : start_of sh i ≡ start_of sh k = ap (λ q. q * sh.block) e in
          elim o [ inl f ↦ inl (omega arith) | inr f ↦ inr (omega arith) ]
      | inr (inl f) ↦ let b = block-before _ _ sh.block f in inl (omega arith)
      | inr (inr f) ↦ let b = block-before _ _ sh.block f in inr (omega arith)
    ]

-- two memories that agree but for the 36 bytes at place
pub record Beside (m n : List ℕ) (place : ℕ) : Type 0 where
  pub long : length n ≡ length m
  pub below : (j : ℕ) → j < place → get_or n j 0 ≡ get_or m j 0
  pub above : (j : ℕ) → place + 36 ≤ j → get_or n j 0 ≡ get_or m j 0

pub part_same : (m n : List ℕ) (a : ℕ) → length n ≡ length m → ((j : ℕ) → a ≤ j → j < a + 36 → get_or n j 0 ≡ get_or m j 0) → take 36 (drop a n) ≡ take 36 (drop a m)
part_same m n a l h =
    ext_get_or 0 _ _ (simp (length-take, length-drop, l)) (λ i k.
    let q : i < 36 = omega (arith, simp (length-take, length-drop) at k) in
    let x = get_or-take 36 (drop a n) i 0 q in
    let y = get_or-take 36 (drop a m) i 0 q in
    let z = get_or-drop a n i 0 in
    let w = get_or-drop a m i 0 in
    let v = h (a + i) (omega arith) (omega arith) in
    cc)

pub held_clean : (w : Option ℕ) (p q : List ℕ) → cell_from w p ≡ holds q → w ≡ None
held_clean None p q h = refl
held_clean (Some j) p q h = let z : ◌≡◌ {A = ℕ} 0 1 = cc in absurd (omega arith)

pub wrong_kept : (sh : Shape) → Sound sh → (i k place : ℕ) (m n : List ℕ) → place ≡ place_of sh k → Beside m n place → wrong_in sh.fixed (start_of sh i) n ≡ wrong_in sh.fixed (start_of sh i) m
wrong_kept sh s i k place m n e b =
    wrong_same sh.fixed (start_of sh i) m n (λ a l.
    let f = fixed_at sh s a l in
    elim (fixed_apart sh s i k (get_or sh.fixed a (0, 0)).0 f.0 f.1) [ inl q ↦ b.below _ (omega arith) | inr q ↦ b.above _ (omega arith) ])

pub packet-kept : (sh : Shape) → Sound sh → (i k place : ℕ) (m n : List ℕ) → i ≢ k → place ≡ place_of sh k → Beside m n place → take 36 (drop (place_of sh i) n) ≡ take 36 (drop (place_of sh i) m)
packet-kept sh s i k place m n ne e b =
    elim (packets_apart sh s i k ne) [
      | inl l ↦ part_same m n (place_of sh i) b.long (λ j x y. b.below j (omega arith))
      | inr l ↦ part_same m n (place_of sh i) b.long (λ j x y. b.above j (omega arith))
    ]

pub put_row : (sh : Shape) → Sound sh → (m n : List ℕ) (k place : ℕ) (p : List ℕ) → Located sh m k place → Beside m n place → take 36 (drop place n) ≡ p → cells_of sh n ≡ set (cells_of sh m) k (holds p)
unfolding cells_of
put_row sh s m n k place p o b e =
    let at = cells_at sh m k o.within in
    let got : cell_of sh m k ≡ holds (take 36 (drop place m)) = let h = o.held in cc in
    let clean : wrong_in sh.fixed (start_of sh k) m ≡ None = held_clean _ _ _ got in
    let still : wrong_in sh.fixed (start_of sh k) n ≡ None = wrong_kept sh s k k place m n o.placed b ∙ clean in
    let here : cell_of sh n k ≡ holds p = ap (λ w. cell_from w (take 36 (drop (place_of sh k) n))) still ∙ ap (λ a. holds (take 36 (drop a n))) (sym o.placed) ∙ ap holds e in
    let same : count_of sh n ≡ count_of sh m = ap (count_for sh) b.long in
    ap (λ x. tab x (cell_of sh n)) same
    ∙ tab-set (count_of sh m) (cell_of sh m) (cell_of sh n) k (holds p) o.within here (λ i l ne.
    let w = wrong_kept sh s i k place m n o.placed b in
    let q = packet-kept sh s i k place m n ne o.placed b in
    cc)

-- a memory after a write of 36 bytes at place
pub beside_put_mid : (m p : List ℕ) (place w : ℕ) → place + 36 ≤ length m → length p ≡ 36 → w ≡ 36 → Beside m (put_mid place w m p) place
beside_put_mid m p place w h l e = record { long = search (rules, places); below = λ j x. search (rules, places); above = λ j x. search (rules, places) }

pub part_put_mid : (m p : List ℕ) (place w : ℕ) → place + 36 ≤ length m → length p ≡ 36 → w ≡ 36 → take 36 (drop place (put_mid place w m p)) ≡ p
part_put_mid m p place w h l e =
    let x : between place (place + 36) (put_mid place w m p) ≡ p = between-put_mid place w m p (place + 36) (omega arith) (omega arith) in
    let y : place + 36 - place ≡ 36 = omega arith in
    rw y at x

pub written_row : (sh : Shape) → Sound sh → (m : List ℕ) (k place w : ℕ) (p q : List ℕ) → Located sh m k place → length p ≡ 36 → w ≡ 36 → q ≡ p → cells_of sh (put_mid place w m q) ≡ stored (cells_of sh m) k p
written_row sh s m k place w p q o l e f =
    let lq : length q ≡ 36 = ap length f ∙ l in
    let r = put_row sh s m (put_mid place w m q) k place p o (beside_put_mid m q place w o.fits lq e) (part_put_mid m q place w o.fits lq e ∙ f) in
    r ∙ sym (ap (λ x. put_at x (cells_of sh m) k p) o.held)

-- a memory of bytes has cells of 36 bytes
whole_tab : (n : ℕ) (f : ℕ → Cell) → ((i : ℕ) → i < n → Proper (f i)) → Whole (tab n f)
unfolding tab
whole_tab zero f h = tt
whole_tab (suc n) f h = (h 0 (omega arith), whole_tab n (λ i. f (suc i)) (λ i l. h (suc i) (omega arith)))

proper_from : (w : Option ℕ) (p : List ℕ) → length p ≡ 36 → ((j : ℕ) → get_or p j 0 < 256) → Proper (cell_from w p)
proper_from None p n b = (n, b)
proper_from (Some j) p n b = tt

part_below : (m : List ℕ) (a : ℕ) → length (take 36 (drop a m)) ≡ 36 → ((j : ℕ) → get_or m j 0 < 256) → (j : ℕ) → get_or (take 36 (drop a m)) j 0 < 256
part_below m a n b j =
    elim (cases_lt j 36) [
      | inl l ↦
          let x = get_or-take 36 (drop a m) j 0 l in
          let y = get_or-drop a m j 0 in
          let z = b (a + j) in
          omega arith
      | inr l ↦ let x = get_or_past (take 36 (drop a m)) j 0 (omega arith) in omega arith
    ]

pub cells_whole : (sh : Shape) → Sound sh → (m : List ℕ) → ((j : ℕ) → get_or m j 0 < 256) → Whole (cells_of sh m)
unfolding cells_of
cells_whole sh s m b =
    whole_tab (count_of sh m) (cell_of sh m) (λ i l.
    let f = block_fits sh s (length m) i (omega arith) in
    let g = slot_fits sh s i in
    let t = length-take 36 (drop (place_of sh i) m) in
    let d = length-drop (place_of sh i) m in
    let n : length (take 36 (drop (place_of sh i) m)) ≡ 36 = omega arith in
    proper_from (wrong_in sh.fixed (start_of sh i) m) (take 36 (drop (place_of sh i) m)) n (part_below m (place_of sh i) n b))
