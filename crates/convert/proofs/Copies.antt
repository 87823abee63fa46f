-- A row of cells whose first k cells are copied from another.
use Rattle.std.proofs.Common.{◌≡◌, ℕ, ◌+◌, ◌<◌, ◌≤◌, List, [], ◌∷◌, ◌++◌, length, get_or, take, drop, set, Some, sym, ap, ◌∙◌, append_assoc, arith}
use Rattle.std.proofs.lemmas.List.{length-take-le, set_at, drop_more, take_more}
use Rattle.carrier.specs.Cells.{Cell, cell_at}
use Rattle.carrier.proofs.Rows.{at_append, at_drop, at_get_or}

pub copied_at : (us vs : List Cell) (k : ℕ) → k ≤ length us → cell_at (take k us ++ drop k vs) k ≡ cell_at vs k
copied_at us vs k l = at_append (take k us) (drop k vs) k (length-take-le k us l) ∙ at_drop vs k

pub copied_more : (us vs : List Cell) (k : ℕ) (c : Cell) → k < length us → k < length vs → cell_at us k ≡ Some c → set (take k us ++ drop k vs) k c ≡ take (k + 1) us ++ drop (k + 1) vs
copied_more us vs k c l m h =
    let d : drop k vs ≡ get_or vs k c ∷ drop (k + 1) vs = drop_more vs k c m in
    let t : take (k + 1) us ≡ take k us ++ (get_or us k c ∷ []) = take_more us k c l in
    let g : get_or us k c ≡ c = at_get_or us k c c h in
    ap (λ x. set (take k us ++ x) k c) d
    ∙ set_at (take k us) (get_or vs k c) (drop (k + 1) vs) c k (length-take-le k us (omega arith))
    ∙ sym (append_assoc (take k us) (c ∷ []) (drop (k + 1) vs))
    ∙ ap (λ x. (take k us ++ (x ∷ [])) ++ drop (k + 1) vs) (sym g)
    ∙ ap (λ x. x ++ drop (k + 1) vs) (sym t)
