-- Where a key's row stands among the rows of a table, or would stand.
use Rattle.std.specs.Prelude.{◌≡◌, ℕ, ◌<◌, ◌≤◌, Bool, true, List, length, slice_index_or}
use Rattle.summary.specs.declared.table.Row.{Row}

-- row i has the key, and the rows before it have lower ones
pub record IsRowOf {K : Type 0} (lt : K → K → Bool) (k : K) (rows : List (Row K)) (i : ℕ) : Type 0 where
  pub in_range : i < length rows
  pub lower : (j : ℕ) (d : Row K) → j < i → lt (slice_index_or rows j d).key k ≡ true
  pub here : (d : Row K) → (slice_index_or rows i d).key ≡ k

-- the rows before place i have lower keys, and those from it on have higher ones
pub record IsGapFor {K : Type 0} (lt : K → K → Bool) (k : K) (rows : List (Row K)) (i : ℕ) : Type 0 where
  pub in_range : i ≤ length rows
  pub lower : (j : ℕ) (d : Row K) → j < i → lt (slice_index_or rows j d).key k ≡ true
  pub higher : (j : ℕ) (d : Row K) → i ≤ j → j < length rows → lt k (slice_index_or rows j d).key ≡ true
