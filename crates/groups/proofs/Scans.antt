-- A walk over packets: a header opens a row, and any other packet is one more of the row before.
use Rattle.std.proofs.Common.{◌≡◌, ℕ, suc, ◌+◌, ◌≤◌, Bool, true, false, cond, List, [], ◌∷◌, ◌++◌, map, length, ℤ, pos, negsuc, sym, refl, ap, ◌∙◌, inl, inr, append_assoc, arith, lit<}
use Rattle.std.proofs.lemmas.List.{length-append, length-map}
use Rattle.std.proofs.lemmas.Bool.{cond-true, cond-false, cond_both}
use Rattle.packet.specs.Packets.{byte, bytes_of, header_like}
use Rattle.record.specs.Kinds.{Kind}
use Rattle.record.proofs.Data.{no_header}
use Rattle.orbit.specs.Orbits.{Orbit}
use Rattle.orbit.specs.Orbits.{orbit_kind}
use Rattle.station.specs.RampWords.{Ramp}
use Rattle.station.specs.RampWords.{ramp_kind}
use Rattle.station.specs.ClockWords.{Clock}
use Rattle.station.specs.ClockWords.{clock_kind}
use Rattle.label.specs.Headers.{header_words, header_of, header_packet}
use Rattle.label.specs.Identifiers.{identifier}
use Rattle.label.specs.Labels.{Label}
use Rattle.label.specs.Labels as labels
use Rattle.label.specs.LabelLaws as label-laws
use Rattle.summary.specs.declared.summary_key.SummaryKey.{SummaryKey}
use Rattle.summary.specs.declared.table.Row.{Row}
use Rattle.summary.specs.RowWords.{row_packet}
use Rattle.summary.specs.Rows.{Among, rows_of}
use Rattle.summary.specs.SummaryKeys.{summary_of, summary_lt}
use Rattle.summary.specs.KeyLaws.{summary_ordered}
use Rattle.summary.proofs.Laws.{recount}
use Rattle.summary.proofs.RowLaws.{first_from, row_headless}
use Rattle.reading.specs.Contents.{Contents, Lawful, Stations, packed, closing, timing, following}
use Rattle.reading.specs.Files.{summary_rows, packets}
use Rattle.reading.proofs.Groups.{Laws, data_like}
use Rattle.reading.proofs.Files.{orbits_lawful, ramps_lawful, clocks_lawful}
use Rattle.groups.specs.declared.GroupRow.{GroupRow}
use Rattle.groups.specs.Groups.{row_of, end_rows, clock_rows, ramp_rows, groups_of}

-- the row that header k opens
abbrev pub opens : ℕ → List ℕ → GroupRow
opens k p = row_of (header_of p).key (header_of p).secondary k 0

abbrev pub more : GroupRow → GroupRow
more r = row_of r.key r.secondary r.packet (r.packets + 1)

-- one more packet in the last row
abbrev pub grown : List GroupRow → List GroupRow
grown [] = []
grown (r ∷ []) = more r ∷ []
grown (r ∷ s ∷ rs) = r ∷ grown (s ∷ rs)

abbrev pub step : List GroupRow → ℕ → List ℕ → List GroupRow
step acc k p = cond (header_like p) (acc ++ opens k p ∷ []) (grown acc)

abbrev pub scanned : List GroupRow → ℕ → List (List ℕ) → List GroupRow
scanned acc k [] = acc
scanned acc k (p ∷ ps) = scanned (step acc k p) (suc k) ps

pub grown_last : (acc : List GroupRow) (r : GroupRow) → grown (acc ++ r ∷ []) ≡ acc ++ more r ∷ []
grown_last [] r = refl
grown_last (a ∷ []) r = refl
grown_last (a ∷ b ∷ acc) r = ap (λ v. a ∷ v) (grown_last (b ∷ acc) r)

-- packets none of which is header-like
abbrev pub AllData : List (List ℕ) → Type 0
AllData [] = Unit {0}
AllData (p ∷ ps) = (header_like p ≡ false) × AllData ps

data_scanned : (acc : List GroupRow) (key : ℤ) (s at m k : ℕ) (ps qs : List (List ℕ)) → AllData ps → scanned (acc ++ row_of key s at m ∷ []) k (ps ++ qs) ≡ scanned (acc ++ row_of key s at (m + length ps) ∷ []) (k + length ps) qs
data_scanned acc key s at m k [] qs d =
    let a : m ≡ m + 0 = omega arith in
    let b : k ≡ k + 0 = omega arith in
    λ i. scanned (acc ++ row_of key s at (a i) ∷ []) (b i) qs
data_scanned acc key s at m k (p ∷ ps) qs d =
    let a : (m + 1) + length ps ≡ m + suc (length ps) = omega arith in
    let b : suc k + length ps ≡ k + suc (length ps) = omega arith in
    ap (λ v. scanned v (suc k) (ps ++ qs)) (cond-false _ _ _ d.0 ∙ grown_last acc (row_of key s at m))
    ∙ data_scanned acc key s at (m + 1) (suc k) ps qs d.1
    ∙ (λ i. scanned (acc ++ row_of key s at (a i) ∷ []) (b i) qs)

-- a packet that opens a group with these keys
record Opening (p : List ℕ) (key : ℤ) (s : ℕ) : Type 0 where
  like : header_like p ≡ true
  keyed : (header_of p).key ≡ key
  second : (header_of p).secondary ≡ s

label-opens : Opening (header_packet (pos 101) 0 1 0) (pos 101) 0
unfolding header_words header_of byte bytes_of
label-opens = record { like = refl; keyed = refl; second = refl }

identifier-opens : Opening (header_packet (pos 107) 0 1 2) (pos 107) 0
unfolding header_words header_of byte bytes_of
identifier-opens = record { like = refl; keyed = refl; second = refl }

orbits_open : Opening (header_packet (pos 109) 0 1 4) (pos 109) 0
unfolding header_words header_of byte bytes_of
orbits_open = record { like = refl; keyed = refl; second = refl }

ramps_open : (s k : ℕ) → s ≤ 1023 → Opening (header_packet (pos 2030) s 1 k) (pos 2030) s
unfolding header_words header_of byte bytes_of
ramps_open s k h = record { like = refl; keyed = refl; second = omega arith }

clocks_open : (k : ℕ) → Opening (header_packet (pos 2040) 0 1 k) (pos 2040) 0
unfolding header_words header_of byte bytes_of
clocks_open k = record { like = refl; keyed = refl; second = refl }

summary-opens : (k : ℕ) → Opening (header_packet (pos 105) 0 1 k) (pos 105) 0
unfolding header_words header_of byte bytes_of
summary-opens k = record { like = refl; keyed = refl; second = refl }

end-opens : (k : ℕ) → Opening (header_packet (negsuc 0) 0 0 k) (negsuc 0) 0
unfolding header_words header_of byte bytes_of
end-opens k = record { like = refl; keyed = refl; second = refl }

-- a header, its data and what follows
group-scanned : (acc : List GroupRow) (p : List ℕ) (key : ℤ) (s k n : ℕ) (ps qs : List (List ℕ)) → Opening p key s → length ps ≡ n → AllData ps → scanned acc k (p ∷ (ps ++ qs)) ≡ scanned (acc ++ row_of key s k n ∷ []) (suc k + n) qs
group-scanned acc p key s k n ps qs o e d =
    let z : 0 + length ps ≡ n = omega arith in
    ap (λ v. scanned v (suc k) (ps ++ qs)) (cond-true _ _ _ o.like ∙ (λ i. acc ++ row_of (o.keyed i) (o.second i) k 0 ∷ []))
    ∙ data_scanned acc key s k 0 (suc k) ps qs d
    ∙ (λ i. scanned (acc ++ row_of key s k (z i) ∷ []) (suc k + e i) qs)

packed_data : {R : Type 0} (κ : Kind R) → Laws κ → (xs : List R) → AllData (packed κ xs)
packed_data κ l [] = tt
packed_data κ l (x ∷ xs) = (data_like κ l x, packed_data κ l xs)

-- the summary and the end
closing-scanned : (acc : List GroupRow) (s : Bool) (rows : List (List ℕ)) (k : ℕ) → AllData rows → scanned acc k (closing s rows k) ≡ acc ++ end_rows s (length rows) k
closing-scanned acc false rows k d = group-scanned acc _ (negsuc 0) 0 k 0 [] [] (end-opens k) refl tt
closing-scanned acc true rows k d =
    let e = header_packet (negsuc 0) 0 0 (suc k + length rows) in
    let r = row_of (pos 105) 0 k (length rows) in
    group-scanned acc _ (pos 105) 0 k (length rows) rows (e ∷ []) (summary-opens k) refl d
    ∙ group-scanned (acc ++ r ∷ []) e (negsuc 0) 0 (suc k + length rows) 0 [] [] (end-opens (suc k + length rows)) refl tt
    ∙ append_assoc acc (r ∷ []) (row_of (negsuc 0) 0 (suc k + length rows) 0 ∷ [])

timing-scanned : (acc : List GroupRow) (xs : List Clock) (s : Bool) (rows : List (List ℕ)) (k : ℕ) → AllData rows → scanned acc k (timing xs s rows k) ≡ acc ++ clock_rows (length xs) s (length rows) k
timing-scanned acc [] s rows k d = closing-scanned acc s rows k d
timing-scanned acc (x ∷ xs) s rows k d =
    let ys = x ∷ xs in
    let r = row_of (pos 2040) 0 k (length ys) in
    group-scanned acc _ (pos 2040) 0 k (length ys) (packed clock_kind ys) (closing s rows (suc k + length ys)) (clocks_open k) (length-map ys _) (packed_data clock_kind clocks_lawful ys)
    ∙ closing-scanned (acc ++ r ∷ []) s rows (suc k + length ys) d
    ∙ append_assoc acc (r ∷ []) (end_rows s (length rows) (suc k + length ys))

following-scanned : (acc : List GroupRow) (last : ℕ) (gs : List (ℕ × List Ramp)) (xs : List Clock) (s : Bool) (rows : List (List ℕ)) (k : ℕ) → AllData rows → Stations last gs → scanned acc k (following gs xs s rows k) ≡ acc ++ ramp_rows gs (length xs) s (length rows) k
following-scanned acc last [] xs s rows k d g = timing-scanned acc xs s rows k d
following-scanned acc last (y ∷ gs) xs s rows k d g =
    let rs = y.1 in
    let r = row_of (pos 2030) y.0 k (length rs) in
    group-scanned acc _ (pos 2030) y.0 k (length rs) (packed ramp_kind rs) (following gs xs s rows (suc k + length rs)) (ramps_open y.0 k g.1) (length-map rs _) (packed_data ramp_kind ramps_lawful rs)
    ∙ following-scanned (acc ++ r ∷ []) y.0 gs xs s rows (suc k + length rs) d g.4
    ∙ append_assoc acc (r ∷ []) (ramp_rows gs (length xs) s (length rows) (suc k + length rs))

-- whether a row of a summary is header-like goes by its key, and the row of one record is not
row_like : (r : Row SummaryKey) → header_like (row_packet r) ≡ header_like (bytes_of (0 ∷ 0 ∷ 0 ∷ 0 ∷ r.key.downlink ∷ r.key.kind ∷ []))
unfolding byte bytes_of
row_like r = refl

row_data : (xs : List Orbit) (r : Row SummaryKey) → Among r (rows_of summary_lt summary_of xs) → header_like (row_packet r) ≡ false
row_data xs r m =
    let f = first_from summary_lt summary_of summary_ordered xs r m in
    let one = f.source ∷ [] in
    let w = (recount summary_lt summary_of summary_ordered one).whole f.source r.key (inl refl) f.keyed in
    row_like r
    ∙ ap (λ (k : SummaryKey). header_like (bytes_of (0 ∷ 0 ∷ 0 ∷ 0 ∷ k.downlink ∷ k.kind ∷ []))) (sym w.1.1)
    ∙ sym (row_like w.0)
    ∙ row_headless one w.0 (lit< tt) w.1.0

each_data : (rs : List (Row SummaryKey)) → ((r : Row SummaryKey) → Among r rs → header_like (row_packet r) ≡ false) → AllData (map row_packet rs)
each_data [] h = tt
each_data (r ∷ rs) h = (h r (inl refl), each_data rs (λ s m. h s (inr m)))

summary_data : (xs : List Orbit) → AllData (summary_rows xs)
summary_data xs = each_data (rows_of summary_lt summary_of xs) (row_data xs)

label_data : (x : Label) → header_like (bytes_of (labels.packed x)) ≡ false
label_data x = no_header (labels.packed x) (label-laws.nine_words x) (label-laws.narrow x) (λ e _. label-laws.headless x e)

identifier_data : header_like identifier ≡ false
identifier_data = refl

-- the rows of a walk over all packets of a file are its groups
pub packets-scanned : (c : Contents) → Lawful c → scanned [] 0 (packets c) ≡ groups_of c
packets-scanned c l =
    let xs = c.orbits in
    let rows = summary_rows xs in
    let fs = following c.ramps c.clocks c.summary rows (5 + length xs) in
    let r0 = row_of (pos 101) 0 0 1 in
    let r1 = row_of (pos 107) 0 2 1 in
    let r2 = row_of (pos 109) 0 4 (length xs) in
    let third = header_packet (pos 109) 0 1 4 ∷ (packed orbit_kind xs ++ fs) in
    let second = header_packet (pos 107) 0 1 2 ∷ identifier ∷ third in
    group-scanned [] _ (pos 101) 0 0 1 (bytes_of (labels.packed c.label) ∷ []) second label-opens refl (label_data c.label, tt)
    ∙ group-scanned (r0 ∷ []) _ (pos 107) 0 2 1 (identifier ∷ []) third identifier-opens refl (identifier_data, tt)
    ∙ group-scanned (r0 ∷ r1 ∷ []) _ (pos 109) 0 4 (length xs) (packed orbit_kind xs) fs orbits_open (length-map xs _) (packed_data orbit_kind orbits_lawful xs)
    ∙ following-scanned (r0 ∷ r1 ∷ r2 ∷ []) 0 c.ramps c.clocks c.summary rows (5 + length xs) (summary_data xs) l.ramps

-- a walk never loses a row
length-grown : (acc : List GroupRow) → length (grown acc) ≡ length acc
length-grown [] = refl
length-grown (r ∷ []) = refl
length-grown (r ∷ s ∷ rs) = ap suc (length-grown (s ∷ rs))

length-step : (acc : List GroupRow) (k : ℕ) (p : List ℕ) → length acc ≤ length (step acc k p)
length-step acc k p =
    cond_both (header_like p) (acc ++ opens k p ∷ []) (grown acc) (λ v. length acc ≤ length v)
    (λ _. let n = length-append acc (opens k p ∷ []) in omega arith)
    (λ _. let n = length-grown acc in omega arith)

pub scanned_longer : (acc : List GroupRow) (k : ℕ) (ps : List (List ℕ)) → length acc ≤ length (scanned acc k ps)
scanned_longer acc k [] = omega arith
scanned_longer acc k (p ∷ ps) = let a = length-step acc k p in let b = scanned_longer (step acc k p) (suc k) ps in omega arith
