-- The cells of a carrier as they are walked.
use Rattle.std.proofs.Common.{◌≡◌, ℕ, zero, suc, ◌+◌, ◌<◌, ◌≤◌, true, false, cond, ltb, List, [], ◌∷◌, length, get_or, drop, Some, None, unwrap_or, Ok, Err, Option, Result, sym, refl, ap, ◌∙◌, add-one, arith, lit<, length-drop, drop_of_length-le}
use Rattle.std.specs.Str.{bytes_eq}
use Rattle.std.proofs.lemmas.Bool.{cond-true, cond-false, lt-ltb, le-ltb}
use Rattle.packet.specs.Packets.{filler, header_like, word, words_of}
use Rattle.packet.proofs.PacketLaws.{words_at}
use Rattle.std.proofs.lemmas.List.{drop-drop}
use Rattle.carrier.specs.Cells.{Cell, holds, damaged, cell_at, reply}
use Rattle.carrier.specs.declared.fault.CarrierFault.{CarrierFault}
use Rattle.carrier.proofs.Rows.{drop_some}
use Rattle.record.specs.declared.fault.RecordFault.{RecordFault}
use Rattle.record.specs.declared.fault.RecordFault.TheVariants.{InCarrier, BadItem}
use Rattle.record.specs.Kinds.{Kind, owned}
use Rattle.reading.specs.Outcomes.{and_then, lifted, seen}
use Rattle.odf.specs.declared.fault.FileFault.{FileFault}
use Rattle.odf.specs.declared.fault.FileFault.TheVariants.{InRecord, Misplaced, Ended, OutOfOrder, NotFiller}
use Rattle.reading.specs.Reading.{packet_at, filler_at, joined, records, opened, none, owner_of, enough, group, rows_at, end_behind, summary_at, Part, part, turn_to, data_packet, data_at, identified}
use Rattle.reading.specs.Walking.{Progress, counted, rows_over, advance, passed, stepped}
use Rattle.reading.specs.declared.walk.Bounds.{Bounds}
use Rattle.reading.proofs.Steps.{never, packet_ok, seen_ok, if_not}
use Rattle.reading.proofs.Turns.{drop_one_more}

pub past_end : (cs : List Cell) (k : ℕ) → length cs ≤ k → packet_at k (drop k cs) ≡ Err (Ended k)
past_end cs k h = ap (packet_at k) (drop_of_length-le cs h)

pub held : (cs : List Cell) (k : ℕ) (p : List ℕ) → cell_at cs k ≡ Some (holds p) → packet_at k (drop k cs) ≡ Ok p
held cs k p h = ap (packet_at k) (drop_some cs k (holds p) h)

abbrev raised : Result (Unit {0}) CarrierFault → Result (List ℕ) FileFault
raised (Ok u) = Ok []
raised (Err f) = Err (InRecord (InCarrier f))

pub faulty : (cs : List Cell) (k j : ℕ) (f : CarrierFault) → k < length cs → reply j (cell_at cs k) ≡ Err f → packet_at j (drop k cs) ≡ Err (InRecord (InCarrier f))
faulty [] k j f l h = absurd (omega arith)
faulty (holds p ∷ cs) zero j f l h = absurd cc
faulty (damaged b ∷ cs) zero j f l h = ap raised h
faulty (c ∷ cs) (suc k) j f l h = faulty cs k j f (omega arith) h

-- the cell that was read, and those behind it
pub next_cell : (cs : List Cell) (k : ℕ) (p : List ℕ) → packet_at k (drop k cs) ≡ Ok p → drop k cs ≡ holds p ∷ drop (suc k) cs
next_cell cs k p h = packet_ok k (drop k cs) p h ∙ ap (λ v. holds p ∷ v) (drop_one_more k cs)

-- a cell that there is
pub some_left : (cs : List Cell) (k : ℕ) → k < length cs → 0 < length (drop k cs)
some_left cs k h = let n = length-drop k cs in omega arith

recast : {A B E : Type 0} (e f : E) → ◌≡◌ {A = Result A E} (Err e) (Err f) → ◌≡◌ {A = Result B E} (Err e) (Err f)
recast e f h = let q : e ≡ f = cc in ap Err q

-- filler: where the walk stops and where it goes on
filler_fault : (k : ℕ) (ds : List Cell) (e : FileFault) → 0 < length ds → packet_at k ds ≡ Err e → filler_at k ds ≡ Err e
filler_fault k [] e l h = absurd (omega arith)
filler_fault k (damaged b ∷ ds) e l h = recast _ e h
filler_fault k (holds p ∷ ds) e l h = absurd cc

pub filler_stop : (cs : List Cell) (k : ℕ) (e : FileFault) → k < length cs → packet_at k (drop k cs) ≡ Err e → filler_at k (drop k cs) ≡ Err e
filler_stop cs k e l h = filler_fault k (drop k cs) e (some_left cs k l) h

pub filler_wrong : (cs : List Cell) (k : ℕ) (p : List ℕ) → packet_at k (drop k cs) ≡ Ok p → bytes_eq p filler ≡ false → filler_at k (drop k cs) ≡ Err (NotFiller k)
filler_wrong cs k p h e = ap (filler_at k) (next_cell cs k p h) ∙ cond-false _ _ _ e

pub filler_on : (cs : List Cell) (k : ℕ) (p : List ℕ) → packet_at k (drop k cs) ≡ Ok p → bytes_eq p filler ≡ true → filler_at k (drop k cs) ≡ filler_at (suc k) (drop (suc k) cs)
filler_on cs k p h e = ap (filler_at k) (next_cell cs k p h) ∙ cond-true _ _ _ e

-- records: where the walk stops and where it goes on
pub records_fault : {R : Type 0} (κ : Kind R) (o k last : ℕ) (ds : List Cell) (e : FileFault) → packet_at k ds ≡ Err e → records κ o k last ds ≡ Err e
records_fault κ o k last [] e h = recast _ e h
records_fault κ o k last (damaged b ∷ ds) e h = recast _ e h
records_fault κ o k last (holds p ∷ ds) e h = absurd cc

-- the records from cell k on, whose packet is known
module _ {R : Type 0} (κ : Kind R) (o : ℕ) (cs : List Cell) (k last : ℕ) (p : List ℕ) (h : packet_at k (drop k cs) ≡ Ok p) where
  abbrev later : R → Result (List R) FileFault
  later x = cond (ltb (κ.starts x) last) (Err (OutOfOrder k)) (joined x (records κ o (suc k) (κ.until x) (drop (suc k) cs)))

  inside : header_like p ≡ false → records κ o k last (drop k cs) ≡ and_then (lifted InRecord (owned κ o k p)) later
  inside t = ap (records κ o k last) (next_cell cs k p h) ∙ cond-false _ _ _ t

  pub records_on : (x : R) → header_like p ≡ false → owned κ o k p ≡ Ok x → ltb (κ.starts x) last ≡ false → records κ o k last (drop k cs) ≡ joined x (records κ o (suc k) (κ.until x) (drop (suc k) cs))
  records_on x t e b = inside t ∙ ap (λ v. and_then (lifted InRecord v) later) e ∙ cond-false _ _ _ b

-- so many records more
abbrev pub onto : {R : Type 0} → ℕ → List R → ℕ
onto n xs = n + length xs

pub onto_more : {R : Type 0} (n : ℕ) (x : R) (r : Result (List R) FileFault) → seen (onto (n + 1)) r ≡ seen (onto n) (joined x r)
onto_more n x (Ok xs) = ap Ok (omega arith)
onto_more n x (Err e) = refl

-- the owner that is given, or else the one that the header names
pub owner_of_lem : (owner : Option ℕ) (s t o : ℕ) → o ≡ unwrap_or owner t → t ≡ s → o ≡ owner_of owner s
owner_of_lem None s t o h e = h ∙ e
owner_of_lem (Some x) s t o h e = h

-- two steps of which the answer is known, and a third
then_known : {A B C E : Type 0} (r : Result A E) (f : A → Result B E) (h : B → Result C E) (y : B) → Ok y ≡ and_then r f → and_then r (λ x. and_then (f x) h) ≡ h y
then_known (Ok x) f h y e = ap (λ v. and_then v h) (sym e)
then_known (Err x) f h y e = never x _ (sym e)

-- a group, by its header and the number of its records
module _ {R : Type 0} (κ : Kind R) (key least word o : ℕ) (b : Bounds) (owner : Option ℕ) (cs : List Cell) (k s : ℕ) (i : word ≡ key) (e : Ok s ≡ and_then (packet_at k (drop k cs)) (opened word 1 b k)) (own : o ≡ owner_of owner s) where
  abbrev rest : Result (List R) FileFault
  rest = records κ o (k + 1) 0 (drop (k + 1) cs)

  behind : group κ key least b owner k (drop k cs) ≡ and_then rest (enough least (suc k) s)
  behind =
      let q : records κ (owner_of owner s) (suc k) 0 (drop 1 (drop k cs)) ≡ rest = ap (records κ (owner_of owner s) (suc k) 0) (drop_one_more k cs) ∙ (λ j. records κ (sym own j) (sym (add-one k) j) 0 (drop (sym (add-one k) j) cs)) in
      then_known (packet_at k (drop k cs)) (opened key 1 b k) (λ s'. and_then (records κ (owner_of owner s') (suc k) 0 (drop 1 (drop k cs))) (enough least (suc k) s')) s (e ∙ ap (λ v. and_then (packet_at k (drop k cs)) (opened v 1 b k)) i)
      ∙ ap (λ v. and_then v (enough least (suc k) s)) q

  err-step : (r : Result (List R) FileFault) (f : FileFault) → Err f ≡ seen length r → Err f ≡ seen counted (and_then r (enough least (suc k) s))
  err-step (Ok xs) f q = never f _ q
  err-step (Err g) f q = recast f g q

  pub grouped_err : (f : FileFault) → Err f ≡ seen length rest → Err f ≡ seen counted (group κ key least b owner k (drop k cs))
  grouped_err f q = err-step rest f q ∙ sym (ap (seen counted) behind)

  pub grouped_few : (n : ℕ) → Ok n ≡ seen length rest → n < least → Err (Misplaced (k + 1 + n)) ≡ seen counted (group κ key least b owner k (drop k cs))
  grouped_few n q l =
      let a = seen_ok length rest n (sym q) in
      let t : ltb (length a.0) least ≡ true = lt-ltb _ _ (let z = a.1.1 in omega arith) in
      let m : k + 1 + n ≡ suc k + length a.0 = let z = a.1.1 in omega arith in
      sym (ap (seen counted) (behind ∙ ap (λ v. and_then v (enough least (suc k) s)) a.1.0 ∙ cond-true _ _ _ t) ∙ ap (λ v. Err (Misplaced v)) (sym m))

  pub grouped_ok : (n : ℕ) → Ok n ≡ seen length rest → least ≤ n → Ok (record { secondary = s; records = n }) ≡ seen counted (group κ key least b owner k (drop k cs))
  grouped_ok n q l =
      let a = seen_ok length rest n (sym q) in
      let t : ltb (length a.0) least ≡ false = le-ltb _ _ (let z = a.1.1 in omega arith) in
      sym (ap (seen counted) (behind ∙ ap (λ v. and_then v (enough least (suc k) s)) a.1.0 ∙ cond-false _ _ _ t) ∙ ap (λ v. Ok (record { secondary = s; records = v })) a.1.1)

-- the summary from its header on
module _ (rows : List (List ℕ)) (cs : List Cell) (k s : ℕ) (e : Ok s ≡ and_then (packet_at k (drop k cs)) (opened 105 1 none k)) where
  abbrev compared : Result (Unit {0}) FileFault
  compared = rows_at (k + 1) rows (drop (k + 1) cs)

  abbrev closes : Result ℕ FileFault
  closes = end_behind (k + 1 + length rows) (drop (k + 1 + length rows) cs)

  summed : summary_at rows k (drop k cs) ≡ and_then compared (λ _. closes)
  summed =
      let m : suc k + length rows ≡ k + 1 + length rows = omega arith in
      let n : k + suc (length rows) ≡ k + 1 + length rows = omega arith in
      let a : rows_at (suc k) rows (drop 1 (drop k cs)) ≡ compared = ap (rows_at (suc k) rows) (drop_one_more k cs) ∙ ap (λ v. rows_at v rows (drop v cs)) (sym (add-one k)) in
      let b : end_behind (suc k + length rows) (drop (suc (length rows)) (drop k cs)) ≡ closes = (λ i. end_behind (m i) ((drop-drop (suc (length rows)) k cs ∙ ap (λ v. drop v cs) n) i)) in
      then_known (packet_at k (drop k cs)) (opened 105 1 none k) (λ _. and_then (rows_at (suc k) rows (drop 1 (drop k cs))) (λ _. end_behind (suc k + length rows) (drop (suc (length rows)) (drop k cs)))) s e
      ∙ (λ i. and_then (a i) (λ _. b i))

  rows-wrong : (r : Result (Unit {0}) FileFault) (f : FileFault) → Err f ≡ seen (λ _. length rows) r → Err f ≡ seen (λ _. length rows) (and_then r (λ _. closes))
  rows-wrong (Ok u) f q = never f _ q
  rows-wrong (Err g) f q = q

  pub summary_wrong : (f : FileFault) → Err f ≡ seen (λ _. length rows) compared → Err f ≡ seen (λ _. length rows) (summary_at rows k (drop k cs))
  summary_wrong f q = rows-wrong compared f q ∙ sym (ap (seen (λ _. length rows)) summed)

  right : (n : ℕ) → Ok n ≡ seen (λ _. length rows) compared → (length rows ≡ n) × (summary_at rows k (drop k cs) ≡ closes)
  right n q =
      let a = seen_ok (λ _. length rows) compared n (sym q) in
      (a.1.1, summed ∙ ap (λ v. and_then v (λ _. closes)) a.1.0)

  pub summary_open : (n : ℕ) (f : FileFault) → Ok n ≡ seen (λ _. length rows) compared → Err f ≡ end_behind (k + 1 + n) (drop (k + 1 + n) cs) → Err f ≡ seen (λ _. length rows) (summary_at rows k (drop k cs))
  summary_open n f q t =
      let r = right n q in
      sym (ap (seen (λ _. length rows)) (r.1 ∙ ap (λ v. end_behind (k + 1 + v) (drop (k + 1 + v) cs)) r.0 ∙ sym t))

  pub summary_done : (n m : ℕ) → Ok n ≡ seen (λ _. length rows) compared → Ok m ≡ end_behind (k + 1 + n) (drop (k + 1 + n) cs) → Ok n ≡ seen (λ _. length rows) (summary_at rows k (drop k cs))
  summary_done n m q t =
      let r = right n q in
      sym (ap (seen (λ _. length rows)) (r.1 ∙ ap (λ v. end_behind (k + 1 + v) (drop (k + 1 + v) cs)) r.0 ∙ sym t) ∙ ap Ok r.0)

-- the walk at a header-like packet with these words, by the part that its key opens
pub stepped_is : (w : Progress) (cs : List Cell) (p ws : List ℕ) → packet_at w.report.end (drop w.report.end cs) ≡ Ok p → header_like p ≡ true → ws ≡ words_of p → stepped w cs ≡ passed w cs (part w.stage (get_or ws 0 0))
stepped_is w cs p ws h t e =
    let rows = rows_over w.report.orbits cs in
    let k = w.report.end in
    let key : word p 1 ≡ get_or ws 0 0 = sym (ap (λ v. get_or v 0 0) e ∙ words_at p 0 (lit< tt)) in
    ap (λ v. seen (advance w rows) (and_then v (λ q. cond (header_like q) (turn_to rows k (drop k cs) (part w.stage (word q 1))) (Err (Misplaced k))))) h
    ∙ ap (seen (advance w rows)) (cond-true _ _ _ t)
    ∙ ap (λ v. passed w cs (part w.stage v)) key

pub stepped_by : (v w : Progress) (cs : List Cell) (p ws : List ℕ) (q : Part) → v ≡ w → Ok p ≡ packet_at v.report.end (drop v.report.end cs) → true ≡ header_like p → ws ≡ words_of p → part v.stage (get_or ws 0 0) ≡ q → passed w cs q ≡ stepped w cs
stepped_by v w cs p ws q i h t e o =
    sym (ap (λ u. stepped u cs) (sym i) ∙ stepped_is v cs p ws (sym h) (sym t) e ∙ ap (passed v cs) o ∙ ap (λ u. passed u cs q) i)

-- data: where the packet is known, what it is read as
data_then : {A : Type 0} (read : ℕ → List ℕ → Result A RecordFault) (k : ℕ) (r : Result (List ℕ) FileFault) (p : List ℕ) → and_then r (λ q. cond (header_like q) (Err (Misplaced k)) (Ok q)) ≡ Ok p → and_then r (λ q. cond (header_like q) (Err (Misplaced k)) (lifted InRecord (read k q))) ≡ lifted InRecord (read k p)
data_then read k (Err e) p h = never e p h
data_then read k (Ok q) p h =
    let a = if_not (header_like q) (Misplaced k) (Ok q) p h in
    let e : q ≡ p = let z = a.1 in cc in
    ap (λ b. cond b (Err (Misplaced k)) (lifted InRecord (read k q))) a.0 ∙ ap (λ v. lifted InRecord (read k v)) e

pub data_at_lem : {A : Type 0} (read : ℕ → List ℕ → Result A RecordFault) (k : ℕ) (ds : List Cell) (p : List ℕ) (r : Result A RecordFault) → Ok p ≡ data_packet k ds → r ≡ read k p → lifted InRecord r ≡ data_at read k ds
data_at_lem read k ds p r h e = ap (lifted InRecord) e ∙ sym (data_then read k (packet_at k ds) p (sym h))

pub identified_err : (k bad : ℕ) → (bad ≡ 0 → ⊥) → identified k bad ≡ Err (BadItem k bad)
identified_err k zero h = absurd (h refl)
identified_err k (suc i) h = refl
