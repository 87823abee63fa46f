-- Outcomes of one step after another.
use Rattle.std.specs.Prelude.{Ok, Err, Result}

-- the further step, where the first has an answer
abbrev pub and_then : {A B E : Type 0} → Result A E → (A → Result B E) → Result B E
and_then (Ok x) f = f x
and_then (Err e) f = Err e

-- a fault handed up a layer
abbrev pub lifted : {A E F : Type 0} → (E → F) → Result A E → Result A F
lifted f (Ok x) = Ok x
lifted f (Err e) = Err (f e)

-- the answer as another sees it
abbrev pub seen : {A B E : Type 0} → (A → B) → Result A E → Result B E
seen f (Ok x) = Ok (f x)
seen f (Err e) = Err e
