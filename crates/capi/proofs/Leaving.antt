-- A record that stands in the relation of a conversion is what the conversion gives.
use Rattle.std.proofs.Common.{◌≡◌, ℕ, Ok, Err, Result, MatchResult}
use Rattle.odf.specs.declared.fault.FileFault.{FileFault}
use Rattle.capi.specs.Calls.{Leaves, LeavesBy, filled}
use Rattle.capi.specs.declared.numbers.OdfFault.{OdfFault}

filled_by : {A N : Type 0} (plain : A → N) (old new : N) (a : Result A FileFault) → MatchResult a (λ x. new ≡ plain x) (λ _. new ≡ old) → new ≡ filled plain old a
filled_by plain old new (Ok x) h = h
filled_by plain old new (Err e) h = h

pub leaves : {A N : Type 0} (plain : A → N) (P : Result A FileFault → Type 0) (r : ℕ) (old new : N) (was now' : OdfFault) → LeavesBy (λ x n. n ≡ plain x) P r old new was now' → Leaves plain P r old new was now'
leaves plain P r old new was now' h = (h.0, h.1, h.2, filled_by plain old new h.0 h.3, h.4)
