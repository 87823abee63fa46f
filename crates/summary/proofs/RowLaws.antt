-- The rows of a recount as packets.
use Rattle.std.proofs.Common.{◌≡◌, ℕ, ◌+◌, ◌/◌, ◌%◌, ◌^◌, ◌<◌, ◌≤◌, Bool, true, false, List, [], ◌∷◌, length, get_or, is_some, Some, None, Option, sym, refl, ap, ◌∙◌, subst, ⊎_elim, arith, lit<}
use Rattle.std.proofs.lemmas.Bool.{cond_both, both_ways}
use Rattle.packet.specs.Packets.{header_like}
use Rattle.record.specs.Rules.{within}
use Rattle.record.proofs.Data.{no_header}
use Rattle.record.proofs.Lowest.{kept}
use Rattle.record.proofs.Words.{each_at}
use Rattle.orbit.specs.OrbitRules.{bad_orbit, orbit_rules}
use Rattle.orbit.specs.Types.{class_at}
use Rattle.orbit.specs.Orbits.{items_of, instant}
use Rattle.orbit.specs.declared.items.OrbitItems.{OrbitItems}
use Rattle.orbit.specs.Orbits.{Orbit}
use Rattle.orbit.specs.OrbitKindLaws.{timed}
use Rattle.orbit.specs.OrbitLaws.{wide}
use Rattle.summary.specs.declared.summary_key.SummaryKey.{SummaryKey}
use Rattle.summary.specs.declared.table.Row.{Row}
use Rattle.summary.specs.Orders.{Order}
use Rattle.summary.specs.RowWords.{row_words, row_packet}
use Rattle.summary.specs.Rows.{same, Among, times_of, times, rows_of}
use Rattle.summary.specs.SummaryKeys.{series_of, summary_of, summary_lt}
use Rattle.summary.specs.KeyLaws.{summary_ordered}
use Rattle.summary.proofs.Laws.{same_is, recount}

-- a record of a key, at a time
pub record From {K : Type 0} (of : Orbit → Option K) (k : K) (t : ℕ) : Type 0 where
  pub source : Orbit
  pub keyed : of source ≡ Some k
  pub timed : t ≡ instant source

from_one : {K : Type 0} (lt : K → K → Bool) (of : Orbit → Option K) → Order lt → (k : K) (t : ℕ) (x : Orbit) (o : Option K) (ts : List ℕ) → of x ≡ o → (Among t ts → From of k t) → Among t (times_of lt k o (instant x) ts) → From of k t
from_one lt of o k t x None ts e f = f
from_one lt of o k t x (Some j) ts e f =
    cond_both (same lt k j) (instant x ∷ ts) ts (λ z. Among t z → From of k t)
    (λ s m. ⊎_elim (λ q. record { source = x; keyed = e ∙ ap Some (sym (same_is lt o k j s)); timed = q }) f m)
    (λ _ m. f m)

from_times : {K : Type 0} (lt : K → K → Bool) (of : Orbit → Option K) → Order lt → (k : K) (t : ℕ) (xs : List Orbit) → Among t (times lt of k xs) → From of k t
unfolding times
from_times lt of o k t [] m = absurd m
from_times lt of o k t (x ∷ xs) m = from_one lt of o k t x (of x) (times lt of k xs) refl (from_times lt of o k t xs) m

-- a row's first and last times are those of records of its key
pub first_from : {K : Type 0} (lt : K → K → Bool) (of : Orbit → Option K) → Order lt → (xs : List Orbit) (r : Row K) → Among r (rows_of lt of xs) → From of r.key r.first
first_from lt of o xs r m = from_times lt of o r.key r.first xs ((recount lt of o xs).tells r m).first.there

pub last_from : {K : Type 0} (lt : K → K → Bool) (of : Orbit → Option K) → Order lt → (xs : List Orbit) (r : Row K) → Among r (rows_of lt of xs) → From of r.key r.last
last_from lt of o xs r m = from_times lt of o r.key r.last xs ((recount lt of o xs).tells r m).last.there

below : (x : Orbit) → instant x / 1000000000 < 2 ^ 32
below x = let t = timed (items_of x) x.lawful in omega arith

low : (n : ℕ) → n < 2 ^ 32 → n % 2 ^ 32 ≡ n
low n h = omega arith

-- of a recount the seconds of each row have 32 bits
pub whole_words : (lt : SummaryKey → SummaryKey → Bool) (of : Orbit → Option SummaryKey) → Order lt → (xs : List Orbit) (r : Row SummaryKey) → Among r (rows_of lt of xs) →
    row_words r ≡ r.first / 1000000000 ∷ r.first % 1000000000 ∷ r.key.receiver ∷ r.key.channel ∷ r.key.downlink ∷ r.key.kind ∷ r.count ∷ r.last / 1000000000 ∷ r.last % 1000000000 ∷ []
whole_words lt of o xs r m =
    let f = first_from lt of o xs r m in
    let l = last_from lt of o xs r m in
    let a : r.first / 1000000000 < 2 ^ 32 = subst (λ (t : ℕ). t / 1000000000 < 2 ^ 32) (sym f.timed) (below f.source) in
    let b : r.last / 1000000000 < 2 ^ 32 = subst (λ (t : ℕ). t / 1000000000 < 2 ^ 32) (sym l.timed) (below l.source) in
    let p = low _ a in
    let q = low _ b in
    cc

-- its words have 32 bits
times_one : {K : Type 0} (lt : K → K → Bool) (k : K) (o : Option K) (t : ℕ) (ts : List ℕ) → length (times_of lt k o t ts) ≤ length ts + 1
times_one lt k None t ts = omega arith
times_one lt k (Some j) t ts = cond_both (same lt k j) (t ∷ ts) ts (λ z. length z ≤ length ts + 1) (λ _. omega arith) (λ _. omega arith)

times_few : {K : Type 0} (lt : K → K → Bool) (of : Orbit → Option K) (k : K) (xs : List Orbit) → length (times lt of k xs) ≤ length xs
unfolding times
times_few lt of k [] = omega arith
times_few lt of k (x ∷ xs) = let h = times_few lt of k xs in let i = times_one lt k (of x) (instant x) (times lt of k xs) in omega arith

pub count_few : {K : Type 0} (lt : K → K → Bool) (of : Orbit → Option K) → Order lt → (xs : List Orbit) (r : Row K) → Among r (rows_of lt of xs) → r.count ≤ length xs
count_few lt of o xs r m = let e = ((recount lt of o xs).tells r m).count in let h = times_few lt of r.key xs in omega arith

record Keeps (k : SummaryKey) : Type 0 where
  receiver : k.receiver < 2 ^ 32
  downlink : k.downlink < 2 ^ 32
  kind : k.kind < 2 ^ 32
  channel : k.channel < 2 ^ 32
  some : k.kind ≡ 0 → ⊥

no_type : (i : OrbitItems) → bad_orbit i ≡ 0 → i.kind ≡ 0 → ⊥
unfolding bad_orbit orbit_rules class_at
no_type i e z = both_ways false refl (subst (λ (n : ℕ). is_some (class_at n) ≡ true) z (kept 1 (orbit_rules i) (lit< tt) e 9 (lit< tt)))

keeps : (x : Orbit) (k : SummaryKey) → summary_of x ≡ Some k → Keeps k
keeps x k e =
    let w = wide (items_of x) x.lawful in
    let a = w.five in
    let b = w.six in
    let q : series_of x ≡ k = cc in
    let p : Keeps (series_of x) = record {
      receiver = omega arith;
      downlink = omega arith;
      kind = omega arith;
      channel = cond_both (within 11 13 x.items.kind) x.items.channel 0 (λ (n : ℕ). n < 2 ^ 32) (λ _. omega arith) (λ _. omega arith);
      some = no_type (items_of x) x.lawful;
    } in
    subst Keeps q p

pub row_narrow : (xs : List Orbit) (r : Row SummaryKey) → length xs < 2 ^ 32 → Among r (rows_of summary_lt summary_of xs) → (k : ℕ) → get_or (row_words r) k 0 < 2 ^ 32
row_narrow xs r h m =
    let f = first_from summary_lt summary_of summary_ordered xs r m in
    let p = keeps f.source r.key f.keyed in
    let n = count_few summary_lt summary_of summary_ordered xs r m in
    each_at (row_words r) (omega arith, (omega arith, (p.receiver, (p.channel, (p.downlink, (p.kind, (omega arith, (omega arith, (omega arith, tt)))))))))

-- and its packet is not header-like
pub row_headless : (xs : List Orbit) (r : Row SummaryKey) → length xs < 2 ^ 32 → Among r (rows_of summary_lt summary_of xs) → header_like (row_packet r) ≡ false
row_headless xs r h m =
    let f = first_from summary_lt summary_of summary_ordered xs r m in
    no_header (row_words r) refl (row_narrow xs r h m) (λ _ e. (keeps f.source r.key f.keyed).some e)
