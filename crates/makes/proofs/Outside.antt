-- What a write of one cell leaves: the bytes of the memory outside its cells.
use Rattle.std.proofs.Common.{◌≡◌, ℕ, zero, suc, ◌+◌, ◌<◌, ◌≤◌, true, false, cond, ltb, leb, ◌⊎◌, List, length, get_or, sym, refl, ap, ◌∙◌, inl, inr, arith}
use Rattle.std.proofs.lemmas.List.{get_or_past}
use Rattle.std.proofs.lemmas.Bool.{le-leb, lt-ltb, cases_lt, cases_eq, cond-false, lt-leb, le-ltb, and_from, and_left, and_right, or_left, or_right, or_from}
use Rattle.makes.specs.Shapes.{Shape, tab, count_for, count_of, place_of, in_cells, outside_of}
use Rattle.makes.proofs.Rows.{Beside, tab-same, length-tab, get_or-tab}

-- a byte of a cell below n is in the cells below n
in_cells_lem : (sh : Shape) (n k j : ℕ) → k < n → place_of sh k ≤ j → j < place_of sh k + 36 → in_cells sh n j ≡ true
in_cells_lem sh zero k j h a b = absurd (omega arith)
in_cells_lem sh (suc n) k j h a b =
    elim (cases_eq k n) [
      | inl e ↦
          let p = ap (place_of sh) e in
          let x : leb (place_of sh n) j ≡ true = le-leb _ _ (omega arith) in
          let y : ltb j (place_of sh n + 36) ≡ true = lt-ltb _ _ (omega arith) in
          or_left _ _ (and_from _ _ x y)
      | inr e ↦ or_right _ _ (in_cells_lem sh n k j (omega arith) a b)
    ]

pub outside_kept : (sh : Shape) (m n : List ℕ) (k place : ℕ) → k < count_of sh m → place ≡ place_of sh k → Beside m n place → outside_of sh n ≡ outside_of sh m
unfolding outside_of
outside_kept sh m n k place h e b =
    let shown : ℕ → List ℕ → ℕ → ℕ = λ c o j. cond (in_cells sh c j) 0 (get_or o j 0) in
    let count : count_of sh n ≡ count_of sh m = ap (count_for sh) b.long in
    let same : (j : ℕ) → j < length m → shown (count_of sh m) n j ≡ shown (count_of sh m) m j =
    λ j l. elim (cases_lt j place) [
      | inl x ↦ ap (λ v. cond (in_cells sh (count_of sh m) j) 0 v) (b.below j x)
      | inr x ↦ elim (cases_lt j (place + 36)) [
        | inl y ↦ let t = in_cells_lem sh (count_of sh m) k j h (omega arith) (omega arith) in ap (λ v. cond v 0 (get_or n j 0)) t ∙ sym (ap (λ v. cond v 0 (get_or m j 0)) t)
        | inr y ↦ ap (λ v. cond (in_cells sh (count_of sh m) j) 0 v) (b.above j y)
      ]
    ] in
    ap (λ x. tab x (shown (count_of sh n) n)) b.long
    ∙ ap (λ c. tab (length m) (shown c n)) count
    ∙ tab-same (length m) (shown (count_of sh m) m) (shown (count_of sh m) n) same

-- a memory but for its cells is as long as the memory
pub outside_long : (sh : Shape) (m : List ℕ) → length (outside_of sh m) ≡ length m
unfolding outside_of
outside_long sh m = length-tab (length m) (λ j. cond (in_cells sh (count_of sh m) j) 0 (get_or m j 0))

-- a byte of none of the cells below n is not in them
not_in_cells : (sh : Shape) (n j : ℕ) → ((k : ℕ) → k < n → (j < place_of sh k) ⊎ (place_of sh k + 36 ≤ j)) → in_cells sh n j ≡ false
not_in_cells sh zero j h = refl
not_in_cells sh (suc n) j h =
    or_from _ _
    (elim (h n (omega arith)) [
      | inl x ↦ and_left _ _ (lt-leb _ _ x)
      | inr x ↦ and_right _ _ (le-ltb _ _ x)
    ])
    (not_in_cells sh n j (λ k l. h k (omega arith)))

shown_at : (sh : Shape) (m : List ℕ) (j : ℕ) → ((k : ℕ) → k < count_of sh m → (j < place_of sh k) ⊎ (place_of sh k + 36 ≤ j)) → get_or (outside_of sh m) j 0 ≡ get_or m j 0
unfolding outside_of
shown_at sh m j h =
    elim (cases_lt j (length m)) [
      | inl l ↦ get_or-tab (length m) (λ i. cond (in_cells sh (count_of sh m) i) 0 (get_or m i 0)) j 0 l ∙ cond-false _ _ _ (not_in_cells sh (count_of sh m) j h)
      | inr l ↦
          let long = outside_long sh m in
          get_or_past (outside_of sh m) j 0 (omega arith) ∙ sym (get_or_past m j 0 l)
    ]

-- what the kept bytes say: a byte outside the cells is as it was
pub outside-same : (sh : Shape) (m n : List ℕ) (j : ℕ) → count_of sh n ≡ count_of sh m → outside_of sh n ≡ outside_of sh m → ((k : ℕ) → k < count_of sh m → (j < place_of sh k) ⊎ (place_of sh k + 36 ≤ j)) → get_or n j 0 ≡ get_or m j 0
outside-same sh m n j c e h = sym (shown_at sh n j (λ k l. h k (omega arith))) ∙ ap (λ x. get_or x j 0) e ∙ shown_at sh m j h
