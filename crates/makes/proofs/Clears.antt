-- Clearing: what setting fixed bytes and filling a cell leave.
use Rattle.std.proofs.Common.{◌≡◌, ℕ, zero, suc, ◌+◌, ◌*◌, ◌/◌, ◌<◌, ◌≤◌, ◌≢◌, List, [], ◌∷◌, length, get_or, take, drop, set, replicate, Some, None, Option, sym, refl, ap, ◌∙◌, inl, inr, arith, below_more}
use Rattle.std.proofs.lemmas.List.{get_or-set_same, get_or-set_other}
use Rattle.std.proofs.lemmas.Bool.{eq-eqb, cond-true, cases_order, cases_eq}
use Rattle.packet.specs.Packets.{filler}
use Rattle.carrier.specs.Cells.{holds}
use Rattle.makes.specs.Shapes.{Shape, Sound, Rising, NotFixed, Apart, wrong_in, tab, start_of, place_of, cell_from, cell_of, count_for, count_of, cells_of}
use Rattle.makes.proofs.Rows.{Beside, length_cells, block-before, fixed_apart, fixed_at, wrong_same, wrong_kept, packet-kept, part_same, held_clean}

rising_low : (low : ℕ) (xs : List (ℕ × ℕ)) (i : ℕ) → Rising low xs → i < length xs → low ≤ (get_or xs i (0, 0)).0
rising_low low [] i r h = absurd (omega arith)
rising_low low (f ∷ fs) zero r h = r.0
rising_low low (f ∷ fs) (suc i) r h = let a = rising_low (f.0 + 1) fs i r.1 (omega arith) in omega (arith, r.0)

rising_apart : (low : ℕ) (xs : List (ℕ × ℕ)) (i j : ℕ) → Rising low xs → i < j → j < length xs → (get_or xs i (0, 0)).0 < (get_or xs j (0, 0)).0
rising_apart low [] i j r h l = absurd (omega arith)
rising_apart low (f ∷ fs) i zero r h l = absurd (omega arith)
rising_apart low (f ∷ fs) zero (suc j) r h l = let a = rising_low (f.0 + 1) fs j r.1 (omega arith) in omega arith
rising_apart low (f ∷ fs) (suc i) (suc j) r h l = rising_apart (f.0 + 1) fs i j r.1 (omega arith) (omega arith)

pub set_right : (xs : List (ℕ × ℕ)) → Rising 0 xs → (start n : ℕ) (m : List ℕ) → n < length xs → start + (get_or xs n (0, 0)).0 < length m → ((i : ℕ) → i < n → get_or m (start + (get_or xs i (0, 0)).0) 0 ≡ (get_or xs i (0, 0)).1) → (i : ℕ) → i < n + 1 → get_or (set m (start + (get_or xs n (0, 0)).0) (get_or xs n (0, 0)).1) (start + (get_or xs i (0, 0)).0) 0 ≡ (get_or xs i (0, 0)).1
set_right xs r start n m l b h =
    below_more (λ i. get_or (set m (start + (get_or xs n (0, 0)).0) (get_or xs n (0, 0)).1) (start + (get_or xs i (0, 0)).0) 0 ≡ (get_or xs i (0, 0)).1) n
    (λ i q.
    let a = rising_apart 0 xs i n r q l in
    get_or-set_other m (start + (get_or xs n (0, 0)).0) (start + (get_or xs i (0, 0)).0) (get_or xs n (0, 0)).1 0 (omega arith) ∙ h i q)
    (get_or-set_same m (start + (get_or xs n (0, 0)).0) (get_or xs n (0, 0)).1 0 b)

pub set_others : (xs : List (ℕ × ℕ)) (start n : ℕ) (m e : List ℕ) → ((j : ℕ) → ((i : ℕ) → i < n → start + (get_or xs i (0, 0)).0 ≢ j) → get_or m j 0 ≡ get_or e j 0) → (j : ℕ) → ((i : ℕ) → i < n + 1 → start + (get_or xs i (0, 0)).0 ≢ j) → get_or (set m (start + (get_or xs n (0, 0)).0) (get_or xs n (0, 0)).1) j 0 ≡ get_or e j 0
set_others xs start n m e h j ne =
    let a = ne n (omega arith) in
    get_or-set_other m (start + (get_or xs n (0, 0)).0) j (get_or xs n (0, 0)).1 0 (λ q. a (sym q)) ∙ h j (λ i l. ne i (omega arith))

pub all_right : (xs : List (ℕ × ℕ)) (start : ℕ) (m : List ℕ) → ((i : ℕ) → i < length xs → get_or m (start + (get_or xs i (0, 0)).0) 0 ≡ (get_or xs i (0, 0)).1) → wrong_in xs start m ≡ None
all_right [] start m h = refl
all_right (f ∷ fs) start m h =
    cond-true _ _ _ (eq-eqb _ _ (h 0 (omega arith))) ∙ all_right fs start m (λ i l. h (suc i) (omega arith))

held-packet : (w : Option ℕ) (p q : List ℕ) → cell_from w p ≡ holds q → p ≡ q
held-packet None p q h = cc
held-packet (Some j) p q h = let z : ◌≡◌ {A = ℕ} 0 1 = cc in absurd (omega arith)

-- the memory m, with the fixed bytes of the block of k set, is n
pub record Fixed (sh : Shape) (k : ℕ) (m n : List ℕ) : Type 0 where
  pub long : length n ≡ length m
  pub right : wrong_in sh.fixed (start_of sh k) n ≡ None
  pub others : (j : ℕ) → NotFixed sh.fixed (start_of sh k) j → get_or n j 0 ≡ get_or m j 0

-- a sound block stays sound
pub fixed_wrong : (sh : Shape) → Sound sh → (i k : ℕ) (m n : List ℕ) → Fixed sh k m n → wrong_in sh.fixed (start_of sh i) m ≡ None → wrong_in sh.fixed (start_of sh i) n ≡ None
fixed_wrong sh s i k m n f h =
    elim (cases_order (i / sh.packets) (k / sh.packets)) [
      | inl e ↦ ap (λ q. wrong_in sh.fixed (q * sh.block) n) e ∙ f.right
      | inr (inl e) ↦
          let b = block-before _ _ sh.block e in
          wrong_same sh.fixed (start_of sh i) m n (λ a l. f.others _ (λ x y. let u = (fixed_at sh s a l).0 in let v = (fixed_at sh s x y).0 in omega arith)) ∙ h
      | inr (inr e) ↦
          let b = block-before _ _ sh.block e in
          wrong_same sh.fixed (start_of sh i) m n (λ a l. f.others _ (λ x y. let u = (fixed_at sh s a l).0 in let v = (fixed_at sh s x y).0 in omega arith)) ∙ h
    ]

-- and no packet changes
pub fixed-packet : (sh : Shape) → Sound sh → (i k : ℕ) (m n : List ℕ) → Fixed sh k m n → take 36 (drop (place_of sh i) n) ≡ take 36 (drop (place_of sh i) m)
fixed-packet sh s i k m n f =
    part_same m n (place_of sh i) f.long (λ j l h. f.others j (λ x y.
    let u = fixed_at sh s x y in
    elim (fixed_apart sh s k i (get_or sh.fixed x (0, 0)).0 u.0 u.1) [ inl q ↦ omega arith | inr q ↦ omega arith ]))

pub cleared_here : (sh : Shape) → Sound sh → (k place : ℕ) (m n o : List ℕ) → place ≡ place_of sh k → Fixed sh k m n → Beside n o place → take 36 (drop place o) ≡ filler → cell_of sh o k ≡ holds filler
cleared_here sh s k place m n o e f b p =
    ap (λ w. cell_from w (take 36 (drop (place_of sh k) o))) (wrong_kept sh s k k place n o e b ∙ f.right)
    ∙ ap (λ x. holds (take 36 (drop x o))) (sym e)
    ∙ ap holds p

pub cleared_kept : (sh : Shape) → Sound sh → (k place : ℕ) (m n o : List ℕ) → place ≡ place_of sh k → Fixed sh k m n → Beside n o place → take 36 (drop place o) ≡ filler → (i : ℕ) → cell_of sh m i ≡ holds filler → cell_of sh o i ≡ holds filler
cleared_kept sh s k place m n o e f b p i h =
    elim (cases_eq i k) [
      | inl q ↦ ap (cell_of sh o) q ∙ cleared_here sh s k place m n o e f b p
      | inr q ↦
          let w = wrong_kept sh s i k place n o e b ∙ fixed_wrong sh s i k m n f (held_clean _ _ _ h) in
          let c = packet-kept sh s i k place n o q e b ∙ fixed-packet sh s i k m n f ∙ held-packet _ _ _ h in
          ap (λ x. cell_from x (take 36 (drop (place_of sh i) o))) w ∙ ap holds c
    ]

pub cleared_others : (sh : Shape) (k place : ℕ) (m n o : List ℕ) → place ≡ place_of sh k → Fixed sh k m n → Beside n o place → (j : ℕ) → Apart sh k j → get_or o j 0 ≡ get_or m j 0
cleared_others sh k place m n o e f b j a =
    elim a.packet [
      | inl l ↦ b.below j (omega arith) ∙ f.others j a.fixed
      | inr l ↦ b.above j (omega arith) ∙ f.others j a.fixed
    ]

pub tab_const : {A : Type 0} (n : ℕ) (f : ℕ → A) (x : A) → ((i : ℕ) → i < n → f i ≡ x) → tab n f ≡ replicate n x
unfolding tab
tab_const zero f x h = refl
tab_const (suc n) f x h =
    let e = h 0 (omega arith) in
    let r = tab_const n (λ i. f (suc i)) x (λ i l. h (suc i) (omega arith)) in
    cc

-- where each cell of a memory as long as m is filler, its cells are as many fillers as m has cells
pub cells_const : (sh : Shape) (m n : List ℕ) → length n ≡ length m → ((i : ℕ) → i < length (cells_of sh m) → cell_of sh n i ≡ holds filler) → cells_of sh n ≡ replicate (length (cells_of sh m)) (holds filler)
unfolding cells_of
cells_const sh m n e h =
    ap (λ x. tab (count_for sh x) (cell_of sh n)) e
    ∙ tab_const (count_of sh m) (cell_of sh n) (holds filler) (λ i l. h i (omega (arith, length_cells sh m)))
    ∙ ap (λ x. replicate x (holds filler)) (sym (length_cells sh m))
