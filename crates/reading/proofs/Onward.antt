-- All groups behind the orbit records: those that are read stand in the cells.
use Rattle.std.proofs.Common.{◌≡◌, ℕ, zero, suc, ◌+◌, ◌≤◌, Bool, true, false, List, [], ◌∷◌, ◌++◌, map, length, drop, replicate, pos, Some, None, Ok, Option, sym, refl, ap, ◌∙◌, subst, arith}
use Rattle.packet.specs.Packets.{filler}
use Rattle.carrier.specs.Cells.{Cell, holds, Whole}
use Rattle.station.specs.RampWords.{Ramp}
use Rattle.station.specs.RampWords.{ramp_kind}
use Rattle.station.specs.ClockWords.{Clock}
use Rattle.station.specs.ClockWords.{clock_kind}
use Rattle.label.specs.Headers.{header_packet}
use Rattle.reading.specs.declared.walk.Stage.{Stage}
use Rattle.reading.specs.declared.walk.Stage.TheVariants.{Ramps, Clocks}
use Rattle.reading.specs.Contents.{Ordered, Stations, packed, closing, timing, following}
use Rattle.reading.specs.Reading.{none, station_above, filler_at, end_from, ending, Turn, ramps, clocks, end, turn, Rest, with_ramps, with_clocks, go_on, onward}
use Rattle.reading.proofs.Steps.{never, then_ok, seen_ok}
use Rattle.reading.proofs.Groups.{Laws}
use Rattle.reading.proofs.Openings.{Grouped, group_is, filler_is, ramp_key, clock_key}
use Rattle.carrier.proofs.Rows.{whole_drop}
use Rattle.reading.proofs.Turns.{last_of, Turned, turn_is, zero_key, end_is, summary_is, holds-append}

-- the groups that may follow where ramps may, those of stations above the last, and where they may not
abbrev pub Follows : Option ℕ → List (ℕ × List Ramp) → List Clock → Type 0
Follows (Some last) gs xs = Stations last gs × Ordered clock_kind 0 0 xs
Follows None gs xs = (gs ≡ []) × (xs ≡ [])

pub record Behind (stage : Stage) (rows : List (List ℕ)) (k : ℕ) (cs : List Cell) (r : Rest) : Type 0 where
  pub left : ℕ
  pub stand : cs ≡ map holds (following r.ramps r.clocks r.summary rows k) ++ replicate left (holds filler)
  pub lawful : Follows (last_of stage) r.ramps r.clocks

nothing : (o : Option ℕ) → Follows o [] []
nothing None = (refl, refl)
nothing (Some last) = (tt, tt)

allowed : (o : Option ℕ) (last : ℕ) (gs : List (ℕ × List Ramp)) (xs : List Clock) → o ≡ Some last → Follows (Some last) gs xs → Follows o gs xs
allowed o last gs xs e h = subst (λ v. Follows v gs xs) (sym e) h

closed : (stage : Stage) (rows : List (List ℕ)) (k : ℕ) (cs : List Cell) (s : Bool) (u : Unit {0}) → Whole cs → Turned stage rows k cs (end s) → filler_at (suc (end_from s rows k)) (drop (ending s rows) cs) ≡ Ok u → Behind stage rows k cs (record { summary = s; ramps = []; clocks = [] })
closed stage rows k cs true u w t e =
    let n = drop (ending true rows) cs in
    record {
      left = length n;
      stand = summary_is rows k cs t.0 w t.1 ∙ ap (λ v. map holds (closing true rows k) ++ v) (filler_is (suc (end_from true rows k)) n u e);
      lawful = nothing (last_of stage);
    }
closed stage rows k cs false u w t e =
    let n = drop 1 cs in
    record {
      left = length n;
      stand = end_is k cs t.0 w t.1 ∙ ap (λ v. map holds (closing false rows k) ++ v) (filler_is (suc (end_from false rows k)) n u e);
      lawful = nothing (last_of stage);
    }

ramped : (stage : Stage) (rows : List (List ℕ)) (k last : ℕ) (cs : List Cell) (s : ℕ) (xs : List Ramp) (r : Rest) → last_of stage ≡ Some last → Grouped ramp_kind (pos 2030) 1 (station_above last) None k cs s xs → Behind (Ramps s) rows (suc k + length xs) (drop (suc (length xs)) cs) r → Behind stage rows k cs (with_ramps (s, xs) r)
ramped stage rows k last cs s xs r o g b =
    let rest = following r.ramps r.clocks r.summary rows (suc k + length xs) in
    let low : suc last ≤ s = g.within.lowest in
    record {
      left = b.left;
      stand = g.stand ∙ ap (λ v. holds (header_packet (pos 2030) s 1 k) ∷ v) (ap (λ v. map holds (packed ramp_kind xs) ++ v) b.stand ∙ sym (holds-append (packed ramp_kind xs) rest (replicate b.left (holds filler))));
      lawful = allowed (last_of stage) last ((s, xs) ∷ r.ramps) r.clocks o ((low, g.within.most, g.some, g.order, b.lawful.0), b.lawful.1);
    }

timed : (xs : List Clock) (s : Bool) (rows : List (List ℕ)) (k : ℕ) → 1 ≤ length xs → timing xs s rows k ≡ header_packet (pos 2040) 0 1 k ∷ (packed clock_kind xs ++ closing s rows (suc k + length xs))
timed [] s rows k h = absurd (omega arith)
timed (x ∷ xs) s rows k h = refl

clocked : (stage : Stage) (rows : List (List ℕ)) (k last : ℕ) (cs : List Cell) (s : ℕ) (xs : List Clock) (r : Rest) → last_of stage ≡ Some last → Grouped clock_kind (pos 2040) 1 none None k cs s xs → Behind Clocks rows (suc k + length xs) (drop (suc (length xs)) cs) r → Behind stage rows k cs (with_clocks xs r)
clocked stage rows k last cs s xs r o g b =
    let z = zero_key s g.within in
    let head : header_packet (pos 2040) s 1 k ≡ header_packet (pos 2040) 0 1 k = ap (λ v. header_packet (pos 2040) v 1 k) z in
    let none_left : r.ramps ≡ [] = b.lawful.0 in
    let no-clocks : r.clocks ≡ [] = b.lawful.1 in
    let rest : following r.ramps r.clocks r.summary rows (suc k + length xs) ≡ closing r.summary rows (suc k + length xs) = λ i. following (none_left i) (no-clocks i) r.summary rows (suc k + length xs) in
    let body : map holds (packed clock_kind xs) ++ drop (suc (length xs)) cs ≡ map holds (packed clock_kind xs ++ closing r.summary rows (suc k + length xs)) ++ replicate b.left (holds filler) =
    ap (λ v. map holds (packed clock_kind xs) ++ v) (b.stand ∙ ap (λ v. map holds v ++ replicate b.left (holds filler)) rest) ∙ sym (holds-append (packed clock_kind xs) (closing r.summary rows (suc k + length xs)) (replicate b.left (holds filler))) in
    let all : cs ≡ map holds (timing xs r.summary rows k) ++ replicate b.left (holds filler) =
    g.stand ∙ (λ i. holds (head i) ∷ body i) ∙ ap (λ v. map holds v ++ replicate b.left (holds filler)) (sym (timed xs r.summary rows k g.some)) in
    record {
      left = b.left;
      stand = all ∙ ap (λ v. map holds (following v xs r.summary rows k) ++ replicate b.left (holds filler)) (sym none_left);
      lawful = allowed (last_of stage) last r.ramps xs o (subst (Stations last) (sym none_left) tt, subst (λ v. Ordered clock_kind v 0 xs) z g.order);
    }

going : Laws ramp_kind → Laws clock_kind → (f : ℕ) (stage : Stage) (rows : List (List ℕ)) (k : ℕ) (cs : List Cell) (t : Turn) (r : Rest) → Whole cs → ((st : Stage) (j : ℕ) (ds : List Cell) (x : Rest) → Whole ds → onward f st rows j ds ≡ Ok x → Behind st rows j ds x) → Turned stage rows k cs t → go_on (λ st j ds. onward f st rows j ds) rows k cs t ≡ Ok r → Behind stage rows k cs r
going lr lc f stage rows k cs (ramps g) r w ih t e =
    let a = seen_ok (with_ramps g) (onward f (Ramps g.0) rows (suc k + length g.1) (drop (suc (length g.1)) cs)) r e in
    let b = ih (Ramps g.0) _ _ a.0 (whole_drop cs (suc (length g.1)) w) a.1.0 in
    let h = group_is ramp_kind lr (pos 2030) 2030 1 (station_above t.0) None k cs g ramp_key w t.1.1 in
    subst (Behind stage rows k cs) a.1.1 (ramped stage rows k t.0 cs g.0 g.1 a.0 t.1.0 h b)
going lr lc f stage rows k cs (clocks g) r w ih t e =
    let a = seen_ok (with_clocks g.1) (onward f Clocks rows (suc k + length g.1) (drop (suc (length g.1)) cs)) r e in
    let b = ih Clocks _ _ a.0 (whole_drop cs (suc (length g.1)) w) a.1.0 in
    let h = group_is clock_kind lc (pos 2040) 2040 1 none None k cs g clock_key w t.1.1 in
    subst (Behind stage rows k cs) a.1.1 (clocked stage rows k t.0 cs g.0 g.1 a.0 t.1.0 h b)
going lr lc f stage rows k cs (end s) r w ih t e =
    let a = seen_ok (λ _. record { summary = s; ramps = []; clocks = [] }) (filler_at (suc (end_from s rows k)) (drop (ending s rows) cs)) r e in
    subst (Behind stage rows k cs) a.1.1 (closed stage rows k cs s a.0 w t a.1.0)

pub onward_is : Laws ramp_kind → Laws clock_kind → (f : ℕ) (stage : Stage) (rows : List (List ℕ)) (k : ℕ) (cs : List Cell) (r : Rest) → Whole cs → onward f stage rows k cs ≡ Ok r → Behind stage rows k cs r
onward_is lr lc zero stage rows k cs r w e = never _ r e
onward_is lr lc (suc f) stage rows k cs r w e =
    let a = then_ok (turn stage rows k cs) (go_on (λ st j ds. onward f st rows j ds) rows k cs) r e in
    going lr lc f stage rows k cs a.0 r w (λ st j ds x v h. onward_is lr lc f st rows j ds x v h) (turn_is stage rows k cs a.0 a.1.0) a.1.1
