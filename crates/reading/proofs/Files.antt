-- A whole file: what is read is what was laid, for any rows of the summary.
use Rattle.std.proofs.Common.{◌≡◌, ℕ, zero, suc, ◌+◌, ◌^◌, ◌<◌, ◌≤◌, Bool, false, cond, List, [], ◌∷◌, ◌++◌, map, length, drop, replicate, ℤ, pos, Some, Ok, Err, Result, sym, refl, ap, ◌∙◌, subst, arith, lit<}
use Rattle.std.proofs.lemmas.List.{length-map, length-append, length-replicate, drop-drop}
use Rattle.packet.specs.Packets.{bytes_of, header_like, filler}
use Rattle.carrier.specs.Cells.{Cell, holds, damaged, Proper, Whole}
use Rattle.record.specs.declared.fault.RecordFault.{RecordFault}
use Rattle.record.specs.Kinds.{Kind, kind_by, plain}
use Rattle.orbit.specs.Orbits.{Orbit}
use Rattle.orbit.specs.Orbits.{orbit_kind}
use Rattle.orbit.specs.OrbitKindLaws as orbit-laws
use Rattle.station.specs.RampWords.{Ramp}
use Rattle.station.specs.RampWords.{ramp_kind}
use Rattle.station.specs.RampLaws as ramp-laws
use Rattle.station.specs.ClockWords.{Clock}
use Rattle.station.specs.ClockWords.{clock_kind}
use Rattle.station.specs.ClockLaws as clock-laws
use Rattle.label.specs.Labels.{Label}
use Rattle.label.specs.Labels as labels
use Rattle.label.specs.Identifiers.{identifier, bad_identifier}
use Rattle.label.specs.Headers.{header_packet}
use Rattle.label.specs.LabelLaws as label-laws
use Rattle.label.proofs.IdentifierLaws as identifier-laws
use Rattle.odf.specs.declared.fault.FileFault.TheVariants.{InRecord, Misplaced}
use Rattle.reading.specs.declared.walk.Stage.TheVariants.{Orbits}
use Rattle.reading.specs.Outcomes.{and_then, lifted, seen}
use Rattle.reading.specs.Contents.{Contents, Lawful, packed, following, packets_with}
use Rattle.reading.specs.Reading.{none, group, onward, Rest, data_at, header_at, identified, opening, reads_by}
use Rattle.reading.proofs.Steps.{never, then_ok, lifted_ok, seen_ok, if_not}
use Rattle.reading.proofs.Groups.{Laws, owned_is, owned_back, data_like}
use Rattle.reading.proofs.Openings.{Keyed, Grouped, opened_is, opened_back, group_is, group_back, behind_laid, label_key, identifier_key, orbit_key}
use Rattle.carrier.proofs.Rows.{whole_drop}
use Rattle.reading.proofs.Turns.{zero_key, drop_one_more, holds-append}
use Rattle.reading.proofs.Onward.{Behind, onward_is}
use Rattle.reading.proofs.Laying.{none_within, following-headed, following_some, onward_back}

pub orbits_lawful : Laws orbit_kind
orbits_lawful = record { back = orbit-laws.read_back; given = orbit-laws.given; nine = orbit-laws.nine_words; narrow = orbit-laws.narrow; headless = λ x e _. orbit-laws.headless x e }

pub ramps_lawful : Laws ramp_kind
ramps_lawful = record { back = ramp-laws.read_back; given = ramp-laws.given; nine = ramp-laws.nine_words; narrow = ramp-laws.narrow; headless = λ x e _. ramp-laws.headless x e }

pub clocks_lawful : Laws clock_kind
clocks_lawful = record { back = clock-laws.read_back; given = clock-laws.given; nine = clock-laws.nine_words; narrow = clock-laws.narrow; headless = λ x e _. clock-laws.headless x e }

-- a label is read as a record without an owner
abbrev label_kind : Kind Label
label_kind = kind_by labels.packed labels.unpacked labels.bad (λ _ _. 0) (λ _. 0) (λ _. 0)

labels_lawful : Laws label_kind
labels_lawful = record { back = label-laws.read_back; given = label-laws.given; nine = label-laws.nine_words; narrow = label-laws.narrow; headless = λ x e _. label-laws.headless x e }

header_is : (key : ℤ) (w k : ℕ) (cs : List Cell) (s : ℕ) → Keyed key w → Whole cs → header_at w k cs ≡ Ok s → cs ≡ holds (header_packet key 0 1 k) ∷ drop 1 cs
header_is key w k [] s y h e = never _ s e
header_is key w k (damaged b ∷ cs) s y h e = never _ s e
header_is key w k (holds p ∷ cs) s y h e =
    let o = opened_is key w 1 none k p s y h.0 e in
    ap (λ v. holds v ∷ cs) (o.0 ∙ ap (λ v. header_packet key v 1 k) (zero_key s o.1))

-- a packet that was read as data
pub record Datum {A : Type 0} (read : ℕ → List ℕ → Result A RecordFault) (k : ℕ) (cs : List Cell) (x : A) : Type 0 where
  pub held : List ℕ
  pub stand : cs ≡ holds held ∷ drop 1 cs
  pub proper : Proper (holds held)
  pub is : read k held ≡ Ok x

data_is : {A : Type 0} (read : ℕ → List ℕ → Result A RecordFault) (k : ℕ) (cs : List Cell) (x : A) → Whole cs → data_at read k cs ≡ Ok x → Datum read k cs x
data_is read k [] x h e = never _ x e
data_is read k (damaged b ∷ cs) x h e = never _ x e
data_is read k (holds p ∷ cs) x h e =
    let a = if_not (header_like p) (Misplaced k) (lifted InRecord (read k p)) x e in
    record { held = p; stand = refl; proper = h.0; is = lifted_ok InRecord (read k p) x a.1 }

identified_ok : (k bad : ℕ) (u : Unit {0}) → identified k bad ≡ Ok u → bad ≡ 0
identified_ok k zero u e = refl
identified_ok k (suc i) u e = never _ u e

pub opening_is : (cs : List Cell) (label : Label) → Whole cs → opening cs ≡ Ok label → cs ≡ holds (header_packet (pos 101) 0 1 0) ∷ holds (bytes_of (labels.packed label)) ∷ holds (header_packet (pos 107) 0 1 2) ∷ holds identifier ∷ drop 4 cs
opening_is cs label w e =
    let a = then_ok (header_at 101 0 cs) _ label e in
    let b = then_ok (data_at (plain labels.unpacked labels.bad) 1 (drop 1 cs)) _ label a.1.1 in
    let c = then_ok (header_at 107 2 (drop 2 cs)) _ label b.1.1 in
    let d = seen_ok (λ _. b.0) (data_at (λ k p. identified k (bad_identifier p)) 3 (drop 3 cs)) label c.1.1 in
    let h0 = header_is (pos 101) 101 0 cs a.0 label_key w a.1.0 in
    let h1 = data_is (plain labels.unpacked labels.bad) 1 (drop 1 cs) b.0 (whole_drop cs 1 w) b.1.0 in
    let h2 = header_is (pos 107) 107 2 (drop 2 cs) c.0 identifier_key (whole_drop cs 2 w) c.1.0 in
    let h3 = data_is (λ k p. identified k (bad_identifier p)) 3 (drop 3 cs) d.0 (whole_drop cs 3 w) d.1.0 in
    let l : h1.held ≡ bytes_of (labels.packed label) = sym (owned_is label_kind labels_lawful 0 1 h1.held b.0 h1.proper h1.is).0 ∙ ap (λ v. bytes_of (labels.packed v)) d.1.1 in
    let i : h3.held ≡ identifier = identifier-laws.same h3.held h3.proper.0 (identified_ok 3 (bad_identifier h3.held) d.0 h3.is) in
    let e3 : drop 3 cs ≡ holds identifier ∷ drop 4 cs = h3.stand ∙ (λ j. holds (i j) ∷ drop_one_more 3 cs j) in
    let e2 : drop 2 cs ≡ holds (header_packet (pos 107) 0 1 2) ∷ holds identifier ∷ drop 4 cs = h2 ∙ ap (λ v. holds (header_packet (pos 107) 0 1 2) ∷ v) (drop_one_more 2 cs ∙ e3) in
    let e1 : drop 1 cs ≡ holds (bytes_of (labels.packed label)) ∷ holds (header_packet (pos 107) 0 1 2) ∷ holds identifier ∷ drop 4 cs = h1.stand ∙ (λ j. holds (l j) ∷ (drop_one_more 1 cs ∙ e2) j) in
    h0 ∙ ap (λ v. holds (header_packet (pos 101) 0 1 0) ∷ v) e1

-- what was read stands in the cells, and is lawful
pub record Stands (rows_for : List Orbit → List (List ℕ)) (cs : List Cell) (c : Contents) : Type 0 where
  pub left : ℕ
  pub stand : cs ≡ map holds (packets_with (rows_for c.orbits) c) ++ replicate left (holds filler)
  pub lawful : Lawful c

abbrev contents : Label → ℕ × List Orbit → Rest → Contents
contents label g r = record { label = label; summary = r.summary; orbits = g.1; ramps = r.ramps; clocks = r.clocks }

stands : (rows_for : List Orbit → List (List ℕ)) (cs : List Cell) (label : Label) (g : ℕ × List Orbit) (r : Rest) → cs ≡ holds (header_packet (pos 101) 0 1 0) ∷ holds (bytes_of (labels.packed label)) ∷ holds (header_packet (pos 107) 0 1 2) ∷ holds identifier ∷ drop 4 cs → Grouped orbit_kind (pos 109) 0 none (Some label.items.spacecraft) 4 (drop 4 cs) g.0 g.1 → Behind Orbits (rows_for g.1) (5 + length g.1) (drop (5 + length g.1) cs) r → Stands rows_for cs (contents label g r)
stands rows_for cs label g r o h b =
    let xs = g.1 in
    let rest = following r.ramps r.clocks r.summary (rows_for xs) (5 + length xs) in
    let z = zero_key g.0 h.within in
    let head = header_packet (pos 109) 0 1 4 in
    let past : drop (suc (length xs)) (drop 4 cs) ≡ drop (5 + length xs) cs = (let e : 4 + suc (length xs) ≡ 5 + length xs = omega arith in drop-drop (suc (length xs)) 4 cs ∙ ap (λ v. drop v cs) e) in
    let body : map holds (packed orbit_kind xs) ++ drop (suc (length xs)) (drop 4 cs) ≡ map holds (packed orbit_kind xs ++ rest) ++ replicate b.left (holds filler) =
    ap (λ v. map holds (packed orbit_kind xs) ++ v) (past ∙ b.stand) ∙ sym (holds-append (packed orbit_kind xs) rest (replicate b.left (holds filler))) in
    let tail : drop 4 cs ≡ holds head ∷ (map holds (packed orbit_kind xs ++ rest) ++ replicate b.left (holds filler)) =
    h.stand ∙ (λ i. holds (header_packet (pos 109) (z i) 1 4) ∷ body i) in
    record {
      left = b.left;
      stand = o ∙ ap (λ v. holds (header_packet (pos 101) 0 1 0) ∷ holds (bytes_of (labels.packed label)) ∷ holds (header_packet (pos 107) 0 1 2) ∷ holds identifier ∷ v) tail;
      lawful = record { orbits = h.order; ramps = b.lawful.0; clocks = b.lawful.1 };
    }

pub reads_is : (rows_for : List Orbit → List (List ℕ)) (cs : List Cell) (c : Contents) → Whole cs → reads_by rows_for cs ≡ Ok c → Stands rows_for cs c
reads_is rows_for cs c w e =
    let a = then_ok (opening cs) _ c e in
    let label = a.0 in
    let b = then_ok (group orbit_kind 109 0 none (Some label.items.spacecraft) 4 (drop 4 cs)) _ c a.1.1 in
    let g = b.0 in
    let d = seen_ok (contents label g) (onward (length cs) Orbits (rows_for g.1) (5 + length g.1) (drop (5 + length g.1) cs)) c b.1.1 in
    let h = group_is orbit_kind orbits_lawful (pos 109) 109 0 none (Some label.items.spacecraft) 4 (drop 4 cs) g orbit_key (whole_drop cs 4 w) b.1.0 in
    let r = onward_is ramps_lawful clocks_lawful (length cs) Orbits (rows_for g.1) (5 + length g.1) (drop (5 + length g.1) cs) d.0 (whole_drop cs (5 + length g.1) w) d.1.0 in
    subst (Stands rows_for cs) d.1.1 (stands rows_for cs label g d.0 (opening_is cs label w a.1.0) h r)

then_at : {A B E : Type 0} (r : Result A E) (f : A → Result B E) (x : A) → r ≡ Ok x → and_then r f ≡ f x
then_at r f x e = ap (λ v. and_then v f) e

header_back : (key : ℤ) (w k : ℕ) (ds : List Cell) → Keyed key w → k < 2 ^ 32 → header_at w k (holds (header_packet key 0 1 k) ∷ ds) ≡ Ok 0
header_back key w k ds y h = opened_back key w 0 1 none k y (lit< tt) (lit< tt) h none_within

data_back : {A : Type 0} (read : ℕ → List ℕ → Result A RecordFault) (k : ℕ) (p : List ℕ) (ds : List Cell) (x : A) → header_like p ≡ false → read k p ≡ Ok x → data_at read k (holds p ∷ ds) ≡ Ok x
data_back read k p ds x h e = ap (λ b. cond b (Err (Misplaced k)) (lifted InRecord (read k p))) h ∙ ap (lifted InRecord) e

identifier_data : header_like identifier ≡ false
identifier_data = refl

opening_back : (label : Label) (ds : List Cell) → opening (holds (header_packet (pos 101) 0 1 0) ∷ holds (bytes_of (labels.packed label)) ∷ holds (header_packet (pos 107) 0 1 2) ∷ holds identifier ∷ ds) ≡ Ok label
opening_back label ds =
    let e2 = holds (header_packet (pos 107) 0 1 2) ∷ holds identifier ∷ ds in
    let e1 = holds (bytes_of (labels.packed label)) ∷ e2 in
    let cs = holds (header_packet (pos 101) 0 1 0) ∷ e1 in
    let a : header_at 101 0 cs ≡ Ok 0 = header_back (pos 101) 101 0 e1 label_key (lit< tt) in
    let b : data_at (plain labels.unpacked labels.bad) 1 e1 ≡ Ok label = data_back (plain labels.unpacked labels.bad) 1 (bytes_of (labels.packed label)) e2 label (data_like label_kind labels_lawful label) (owned_back label_kind labels_lawful 0 1 label refl) in
    let c : header_at 107 2 e2 ≡ Ok 0 = header_back (pos 107) 107 2 (holds identifier ∷ ds) identifier_key (lit< tt) in
    let d : data_at (λ k p. identified k (bad_identifier p)) 3 (holds identifier ∷ ds) ≡ Ok tt = data_back (λ k p. identified k (bad_identifier p)) 3 identifier ds tt identifier_data (ap (identified 3) identifier-laws.none) in
    then_at (header_at 101 0 cs) _ 0 a ∙ then_at (data_at (plain labels.unpacked labels.bad) 1 e1) _ label b ∙ then_at (header_at 107 2 e2) _ 0 c ∙ ap (seen (λ _. label)) d

following_long : (gs : List (ℕ × List Ramp)) (xs : List Clock) (s : Bool) (rows : List (List ℕ)) (k : ℕ) → length gs < length (following gs xs s rows k)
following_long [] xs s rows k = following_some [] xs s rows k
following_long (g ∷ gs) xs s rows k =
    let r = following_long gs xs s rows (suc k + length g.1) in
    let n = length-append (packed ramp_kind g.1) (following gs xs s rows (suc k + length g.1)) in
    omega arith

length-holds : (ps : List (List ℕ)) → length (map holds ps) ≡ length ps
length-holds [] = refl
length-holds (p ∷ ps) = ap suc (length-holds ps)

pub length_laid : (ps : List (List ℕ)) (m : ℕ) → length (map holds ps ++ replicate m (holds filler)) ≡ length ps + m
length_laid ps m = length-append (map holds ps) (replicate m (holds filler)) ∙ (λ i. length-holds ps i + length-replicate m (holds filler) i)

-- the packets of lawful contents, and filler, are read as the contents
pub reads_back : (rows_for : List Orbit → List (List ℕ)) (c : Contents) (m : ℕ) → Lawful c → length (packets_with (rows_for c.orbits) c) ≤ 2 ^ 32 → reads_by rows_for (map holds (packets_with (rows_for c.orbits) c) ++ replicate m (holds filler)) ≡ Ok c
reads_back rows_for c m l n =
    let xs = c.orbits in
    let rows = rows_for xs in
    let rest = replicate m (holds filler) in
    let owner = Some c.label.items.spacecraft in
    let fs = following c.ramps c.clocks c.summary rows (5 + length xs) in
    let head = header_packet (pos 109) 0 1 4 in
    let body = map holds (packed orbit_kind xs ++ fs) ++ rest in
    let cs = map holds (packets_with rows c) ++ rest in
    let a : length (packed orbit_kind xs ++ fs) ≡ length (packed orbit_kind xs) + length fs = length-append (packed orbit_kind xs) fs in
    let b : length (packed orbit_kind xs) ≡ length xs = length-map xs _ in
    let total : suc (suc (suc (suc (suc (length (packed orbit_kind xs ++ fs)))))) ≤ 2 ^ 32 = n in
    let long : length cs ≡ suc (suc (suc (suc (suc (length (packed orbit_kind xs ++ fs)))))) + m = length_laid (packets_with rows c) m in
    let some = following_some c.ramps c.clocks c.summary rows (5 + length xs) in
    let more = following_long c.ramps c.clocks c.summary rows (5 + length xs) in
    let h = following-headed 0 c.ramps c.clocks c.summary rows (5 + length xs) l.ramps (omega arith) in
    let split : body ≡ map holds (packed orbit_kind xs) ++ (map holds fs ++ rest) = holds-append (packed orbit_kind xs) fs rest in
    let g : group orbit_kind 109 0 none owner 4 (holds head ∷ body) ≡ Ok (0, xs) =
    ap (λ v. group orbit_kind 109 0 none owner 4 (holds head ∷ v)) (split ∙ ap (λ v. map holds (packed orbit_kind xs) ++ (map holds v ++ rest)) h.is)
    ∙ group_back orbit_kind orbits_lawful (pos 109) 109 0 none owner 4 0 xs h.first (map holds h.others ++ rest) orbit_key (lit< tt) (lit< tt) none_within l.orbits (omega arith) h.like in
    let past : drop (5 + length xs) cs ≡ map holds fs ++ rest = sym (drop-drop (length xs) 5 cs) ∙ ap (drop (length xs)) split ∙ behind_laid (packed orbit_kind xs) _ (map holds fs ++ rest) (sym (length-map xs _)) in
    let r : onward (length cs) Orbits rows (5 + length xs) (drop (5 + length xs) cs) ≡ Ok (record { summary = c.summary; ramps = c.ramps; clocks = c.clocks }) =
    ap (onward (length cs) Orbits rows (5 + length xs)) past
    ∙ onward_back ramps_lawful clocks_lawful (length cs) Orbits 0 rows (5 + length xs) c.ramps c.clocks c.summary m refl l.ramps l.clocks (omega arith) (omega arith) in
    then_at (opening cs) _ c.label (opening_back c.label (holds head ∷ body)) ∙ then_at (group orbit_kind 109 0 none owner 4 (holds head ∷ body)) _ (0, xs) g ∙ ap (seen (contents c.label (0, xs))) r
