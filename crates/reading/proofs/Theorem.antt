-- The law of reading.
use Rattle.std.proofs.Common.{◌≡◌, ℕ, suc, ◌+◌, ◌-◌, ◌≤◌, Bool, true, false, List, [], ◌∷◌, ◌++◌, map, length, take, drop, replicate, pos, negsuc, Some, Ok, Err, Result, sym, refl, ap, ◌∙◌, subst, zero-add, arith}
use Rattle.std.proofs.Math.Seq.{take-append_seam}
use Rattle.std.proofs.lemmas.List.{length-map, length-append, append-nil}
use Rattle.packet.specs.Packets.{bytes_of, filler}
use Rattle.carrier.specs.Cells.{Cell, holds, Whole}
use Rattle.carrier.proofs.Rows.{whole_drop}
use Rattle.orbit.specs.Orbits.{Orbit}
use Rattle.orbit.specs.Orbits.{orbit_kind}
use Rattle.station.specs.RampWords.{Ramp}
use Rattle.station.specs.RampWords.{ramp_kind}
use Rattle.station.specs.ClockWords.{Clock}
use Rattle.station.specs.ClockWords.{clock_kind}
use Rattle.label.specs.Headers.{header_packet}
use Rattle.label.specs.Labels.{Label}
use Rattle.summary.specs.Found.{orbits_in}
use Rattle.summary.proofs.FoundLaws.{orbits_back}
use Rattle.odf.specs.declared.fault.FileFault.{FileFault}
use Rattle.reading.specs.declared.report.Report.{Report}
use Rattle.reading.specs.declared.walk.Group.{Group}
use Rattle.reading.specs.declared.walk.Stage.TheVariants.{Orbits}
use Rattle.reading.specs.Outcomes.{and_then, seen}
use Rattle.reading.specs.Contents.{Contents, packed, closing, timing, following, filled}
use Rattle.reading.specs.Files.{summary_rows, packets, FileOf, ramp_count, row_count, report_of, reads, answer, Judged, up_to_end, Telling}
use Rattle.reading.specs.Reading.{none, group, end_from, Rest, opening, onward}
use Rattle.reading.specs.Walking.{counted, rows_over, ramps_end, clocks_end, start, reported, walked}
use Rattle.reading.proofs.Steps.{never, seen_ok, seen_err}
use Rattle.reading.proofs.Openings.{group_is, orbit_key}
use Rattle.reading.proofs.Turns.{drop_one_more}
use Rattle.reading.proofs.Files.{orbits_lawful, reads_is, reads_back, length_laid}

-- where the end packet stands
closing_end : (s : Bool) (rows : List (List ℕ)) (k : ℕ) → k + length (closing s rows k) ≡ suc (end_from s rows k)
closing_end false rows k = omega arith
closing_end true rows k = let n = length-append rows (header_packet (negsuc 0) 0 0 (suc k + length rows) ∷ []) in omega arith

timing-end : (xs : List Clock) (s : Bool) (rows : List (List ℕ)) (k : ℕ) → k + length (timing xs s rows k) ≡ suc (end_from s rows (clocks_end xs k))
timing-end [] s rows k = closing_end s rows k
timing-end (x ∷ xs) s rows k =
    let j = suc k + length (x ∷ xs) in
    let e = closing_end s rows j in
    let n = length-append (packed clock_kind (x ∷ xs)) (closing s rows j) in
    let m : length (packed clock_kind (x ∷ xs)) ≡ length (x ∷ xs) = length-map (x ∷ xs) _ in
    let t : k + suc (length (packed clock_kind (x ∷ xs) ++ closing s rows j)) ≡ j + length (closing s rows j) = omega arith in
    t ∙ e

following-end : (gs : List (ℕ × List Ramp)) (xs : List Clock) (s : Bool) (rows : List (List ℕ)) (k : ℕ) → k + length (following gs xs s rows k) ≡ suc (end_from s rows (clocks_end xs (ramps_end gs k)))
following-end [] xs s rows k = timing-end xs s rows k
following-end (g ∷ gs) xs s rows k =
    let j = suc k + length g.1 in
    let e = following-end gs xs s rows j in
    let n = length-append (packed ramp_kind g.1) (following gs xs s rows j) in
    let m : length (packed ramp_kind g.1) ≡ length g.1 = length-map g.1 _ in
    let t : k + suc (length (packed ramp_kind g.1 ++ following gs xs s rows j)) ≡ j + length (following gs xs s rows j) = omega arith in
    t ∙ e

-- the report that a walk comes to is that of the contents
pub report_is : (c : Contents) → reported (start (length c.orbits)) (summary_rows c.orbits) (record { summary = c.summary; ramps = c.ramps; clocks = c.clocks }) ≡ report_of c
report_is c =
    let xs = c.orbits in
    let rows = summary_rows xs in
    let k = 5 + length xs in
    let fs = following c.ramps c.clocks c.summary rows k in
    let e = following-end c.ramps c.clocks c.summary rows k in
    let n = length-append (packed orbit_kind xs) fs in
    let m : length (packed orbit_kind xs) ≡ length xs = length-map xs _ in
    let t : end_from c.summary rows (clocks_end c.clocks (ramps_end c.ramps k)) ≡ suc (suc (suc (suc (suc (length (packed orbit_kind xs ++ fs)))))) - 1 = omega arith in
    λ i. record { end = t i; orbits = length xs; groups = zero-add (length c.ramps) i; ramps = zero-add (ramp_count c.ramps) i; clocks = zero-add (length c.clocks) i; rows = row_count c.summary rows }

-- a file is read as its contents
pub file_read : (cs : List Cell) (c : Contents) → length cs ≤ 1000000 → FileOf cs c → reads cs ≡ Ok c
file_read cs c n f =
    let r = f.room in
    ap reads f.laid ∙ reads_back summary_rows c (length cs - length (packets c)) f.lawful (omega arith)

-- and what is read as some contents is their file
pub read_file : (cs : List Cell) (c : Contents) → Whole cs → reads cs ≡ Ok c → FileOf cs c
read_file cs c w e =
    let s = reads_is summary_rows cs c w e in
    let n : length cs ≡ length (packets c) + s.left = ap length s.stand ∙ length_laid (packets c) s.left in
    let m : s.left ≡ length cs - length (packets c) = omega arith in
    record { lawful = s.lawful; room = omega arith; laid = s.stand ∙ ap (λ v. map holds (packets c) ++ replicate v (holds filler)) m }

same_ok : {A E : Type 0} (x y : A) → ◌≡◌ {A = Result A E} (Ok x) (Ok y) → x ≡ y
same_ok x y e = cc

-- the law of reading
judged_by : (cs : List Cell) (r : Result Contents FileFault) → Whole cs → length cs ≤ 1000000 → reads cs ≡ r → Judged cs (seen report_of r)
judged_by cs (Ok c) w n e = (c, (e, read_file cs c w e, refl, λ d f. same_ok d c (sym (file_read cs d n f) ∙ e)))
judged_by cs (Err x) w n e = λ c f. never x c (sym e ∙ file_read cs c n f)

pub judged : (cs : List Cell) (r : Result Report FileFault) → Whole cs → length cs ≤ 1000000 → r ≡ answer cs → Judged cs r
judged cs r w n a = subst (Judged cs) (sym a) (judged_by cs (reads cs) w n refl)

take_laid : (xs : List Orbit) (ds : List Cell) → take (length xs) (map holds (packed orbit_kind xs) ++ ds) ≡ map (λ x. holds (bytes_of (orbit_kind.packed x))) xs
take_laid [] ds = refl
take_laid (x ∷ xs) ds = ap (λ v. holds (bytes_of (orbit_kind.packed x)) ∷ v) (take_laid xs ds)

-- the orbit records that the recount looks at
pub rows_over_lem : (cs : List Cell) (owner : ℕ) (g : ℕ × List Orbit) → Whole cs → group orbit_kind 109 0 none (Some owner) 4 (drop 4 cs) ≡ Ok g → rows_over (length g.1) cs ≡ summary_rows g.1
rows_over_lem cs owner g w e =
    let h = group_is orbit_kind orbits_lawful (pos 109) 109 0 none (Some owner) 4 (drop 4 cs) g orbit_key (whole_drop cs 4 w) e in
    let xs = g.1 in
    let d : drop 5 cs ≡ map holds (packed orbit_kind xs) ++ drop (suc (length xs)) (drop 4 cs) = sym (drop_one_more 4 cs) ∙ ap (drop 1) h.stand in
    let t : take (length xs) (drop 5 cs) ≡ map (λ x. holds (bytes_of (orbit_kind.packed x))) xs = ap (take (length xs)) d ∙ take_laid xs (drop (suc (length xs)) (drop 4 cs)) in
    ap (λ v. summary_rows (orbits_in v)) t ∙ ap summary_rows (orbits_back xs)

-- cells up to the end packet are the packets
take_all_of : (ps : List (List ℕ)) (ds : List Cell) → take (length ps) (map holds ps ++ ds) ≡ map holds ps
take_all_of ps ds = ap (λ n. take n (map holds ps ++ ds)) (sym (length-map ps holds)) ∙ take-append_seam (map holds ps) ds

up_to_end_lem : (cs : List Cell) (c : Contents) → FileOf cs c → up_to_end (report_of c) cs ≡ map holds (packets c)
up_to_end_lem cs c f =
    let n : suc (length (packets c) - 1) ≡ length (packets c) = omega arith in
    ap (up_to_end (report_of c)) f.laid
    ∙ ap (λ v. take v (filled (length cs) (packets c))) n
    ∙ take_all_of (packets c) (replicate (length cs - length (packets c)) (holds filler))

-- the cells of a file without filler
alone : (c : Contents) (cs : List Cell) → FileOf cs c → length cs ≤ 1000000 → reads (map holds (packets c)) ≡ Ok c
alone c cs f n = let r = f.room in ap reads (sym (append-nil (map holds (packets c)))) ∙ reads_back summary_rows c 0 f.lawful (omega arith)

pub telling : (cs ds : List Cell) (a b : Report) → length cs ≤ 1000000 → length ds ≤ 1000000 → Judged cs (Ok a) → Judged ds (Ok b) → Telling cs ds a b
telling cs ds a b nc nd ja jb c d rc rd =
    let ec : ja.0 ≡ c = same_ok _ _ (sym ja.1.0 ∙ rc) in
    let ed : jb.0 ≡ d = same_ok _ _ (sym jb.1.0 ∙ rd) in
    let fc : FileOf cs c = subst (FileOf cs) ec ja.1.1 in
    let fd : FileOf ds d = subst (FileOf ds) ed jb.1.1 in
    let ua : up_to_end a cs ≡ map holds (packets c) = ap (λ v. up_to_end v cs) (ja.1.2 ∙ ap report_of ec) ∙ up_to_end_lem cs c fc in
    let ub : up_to_end b ds ≡ map holds (packets d) = ap (λ v. up_to_end v ds) (jb.1.2 ∙ ap report_of ed) ∙ up_to_end_lem ds d fd in (
      (λ e. same_ok c d (sym (alone c cs fc nc) ∙ ap reads (sym ua ∙ e ∙ ub) ∙ alone d ds fd nd)),
      (λ e. ua ∙ ap (λ v. map holds (packets v)) e ∙ sym ub),
    )

-- the answer, one step of the walk after another
then_err : {A B E : Type 0} (r : Result A E) (f : A → Result B E) (e : E) → r ≡ Err e → and_then r f ≡ Err e
then_err r f e h = ap (λ v. and_then v f) h

then_on : {A B E : Type 0} (r : Result A E) (f : A → Result B E) (x : A) → r ≡ Ok x → and_then r f ≡ f x
then_on r f x h = ap (λ v. and_then v f) h

pub answer_label : (cs : List Cell) (e : FileFault) → Err e ≡ opening cs → Err e ≡ answer cs
answer_label cs e h = sym (ap (seen report_of) (then_err (opening cs) _ e (sym h)))

module _ (cs : List Cell) (label : Label) (owner : ℕ) (h : Ok label ≡ opening cs) (s : owner ≡ label.items.spacecraft) where
  abbrev found : ℕ → Result (ℕ × List Orbit) FileFault
  found o = group orbit_kind 109 0 none (Some o) 4 (drop 4 cs)

  pub answer_orbits : (e : FileFault) → Err e ≡ seen counted (found owner) → Err e ≡ answer cs
  answer_orbits e q =
      let r : found label.items.spacecraft ≡ Err e = ap found (sym s) ∙ seen_err counted (found owner) e q in
      sym (ap (seen report_of) (then_on (opening cs) _ label (sym h) ∙ then_err (found label.items.spacecraft) _ e r))

  rest-report : (g : ℕ × List Orbit) (r : Result Rest FileFault) → seen (reported (start (length g.1)) (summary_rows g.1)) r ≡ seen report_of (seen (λ x. record { label = label; summary = x.summary; orbits = g.1; ramps = x.ramps; clocks = x.clocks }) r)
  rest-report g (Ok x) = ap Ok (report_is (record { label = label; summary = x.summary; orbits = g.1; ramps = x.ramps; clocks = x.clocks }))
  rest-report g (Err e) = refl

  pub answer_rest : (o : Group) → Whole cs → Ok o ≡ seen counted (found owner) → walked (length cs) (start o.records) cs ≡ answer cs
  answer_rest o w q =
      let t = seen_ok counted (found owner) o (sym q) in
      let g = t.0 in
      let r : found label.items.spacecraft ≡ Ok g = ap found (sym s) ∙ t.1.0 in
      let k = length g.1 in
      ap (λ v. walked (length cs) (start v.records) cs) (sym t.1.1)
      ∙ ap (λ v. seen (reported (start k) v) (onward (length cs) Orbits v (5 + k) (drop (5 + k) cs))) (rows_over_lem cs label.items.spacecraft g w r)
      ∙ rest-report g (onward (length cs) Orbits (summary_rows g.1) (5 + k) (drop (5 + k) cs))
      ∙ sym (ap (seen report_of) (then_on (opening cs) _ label (sym h) ∙ then_on (found label.items.spacecraft) _ g r))
