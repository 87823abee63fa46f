-- The search for the first rule that is broken.
use Rattle.std.proofs.Common.{◌≡◌, ℕ, zero, suc, ◌+◌, ◌<◌, Bool, true, false, not, List, [], ◌∷◌, length, get_or, position, refl, ap, ◌∙◌, le_of_suc-le-suc, not-suc-le-zero, arith}
use Rattle.std.proofs.lemmas.Iterator.Adapters.{position_from-zero}
use Rattle.std.specs.List.{position_from}
use Rattle.std.specs.Option.{option_map}
use Rattle.record.specs.Rules.{broken, lowest}

-- where none is broken, each is kept
pub kept : (i : ℕ) (bs : List Bool) → 0 < i → lowest i bs ≡ 0 → (k : ℕ) → k < length bs → get_or bs k true ≡ true
kept i [] p e k h = absurd (not-suc-le-zero h)
kept i (false ∷ bs) p e k h = absurd (omega arith)
kept i (true ∷ bs) p e zero h = refl
kept i (true ∷ bs) p e (suc k) h = kept (suc i) bs (omega arith) e k (le_of_suc-le-suc h)

-- the lowest broken rule, counted from 1, is one after the place of the first, counted from 0
from : (i j : ℕ) (bs : List Bool) → j ≡ i + 1 → option_map suc (position_from not i bs) ≡ broken (lowest j bs)
from i j [] e = refl
from i j (true ∷ bs) e = from (i + 1) (suc j) bs (omega arith)
from i j (false ∷ bs) e = let n : suc i ≡ j = omega arith in ap broken n

pub first : (bs : List Bool) → option_map suc (position not bs) ≡ broken (lowest 1 bs)
first bs = ap (option_map suc) (position_from-zero not bs) ∙ from 0 1 bs (omega arith)
