-- The groups behind the orbit records: what is read is what was laid.
use Rattle.std.proofs.Common.{◌≡◌, ℕ, zero, suc, ◌+◌, true, false, cond, eqb, List, [], ◌∷◌, ◌++◌, map, length, drop, pos, negsuc, Some, None, Ok, Option, sym, refl, ap, ◌∙◌, subst, arith}
use Rattle.std.proofs.lemmas.Bool.Decides.{nat_tests}
use Rattle.packet.specs.Packets.{word, header_like}
use Rattle.carrier.specs.Cells.{Cell, holds, damaged, Proper, Whole}
use Rattle.carrier.proofs.Rows.{whole_drop}
use Rattle.station.specs.RampWords.{ramp_kind}
use Rattle.station.specs.ClockWords.{clock_kind}
use Rattle.label.specs.Headers.{header_packet}
use Rattle.odf.specs.declared.fault.FileFault.TheVariants.{Misplaced, WrongRow}
use Rattle.reading.specs.declared.walk.Stage.{Stage}
use Rattle.reading.specs.declared.walk.Stage.TheVariants.{Orbits, Ramps, Clocks, Closed}
use Rattle.reading.specs.Contents.{closing}
use Rattle.reading.specs.Reading.{packet_at, opened, none, station_above, group, rows_at, end_at, end_behind, summary_at, Turn, ramps, clocks, end, Part, ramps_above, clock_group, summary, end_packet, nothing, closing_part, timing_part, part, turn_to, turn}
use Rattle.reading.proofs.Steps.{never, then_ok, seen_ok, if_so}
use Rattle.reading.proofs.Openings.{Within, opened_is, rows_is, summary_key, end_key}

-- the station above which the next ramps' has to be, where ramps or clock offsets may follow
abbrev pub last_of : Stage → Option ℕ
last_of Orbits = Some 0
last_of (Ramps s) = Some s
last_of Clocks = None
last_of Closed = None

-- what a turn was read from
abbrev pub Turned : Stage → List (List ℕ) → ℕ → List Cell → Turn → Type 0
Turned stage rows k cs (ramps g) = (last : ℕ) × ((last_of stage ≡ Some last) × (group ramp_kind 2030 1 (station_above last) None k cs ≡ Ok g))
Turned stage rows k cs (clocks g) = (last : ℕ) × ((last_of stage ≡ Some last) × (group clock_kind 2040 1 none None k cs ≡ Ok g))
Turned stage rows k cs (end true) = (s : ℕ) × (summary_at rows k cs ≡ Ok s)
Turned stage rows k cs (end false) = (s : ℕ) × (end_at k cs ≡ Ok s)

closing-none : (key last : ℕ) → closing_part key ≡ ramps_above last → ⊥
closing-none key last e = grind (arith, nat_tests)

closing_timed : (key : ℕ) → closing_part key ≡ clock_group → ⊥
closing_timed key e = grind (arith, nat_tests)

first-ramps : (s key last : ℕ) → cond (eqb key 2030) (ramps_above s) (timing_part key) ≡ ramps_above last → s ≡ last
first-ramps s key last e = grind (arith, nat_tests)

-- ramps above a station, where it was the last; clock offsets, where ramps may follow too
pub part-ramps : (stage : Stage) (key last : ℕ) → part stage key ≡ ramps_above last → last_of stage ≡ Some last
part-ramps Orbits key last e = ap Some (first-ramps 0 key last e)
part-ramps (Ramps s) key last e = ap Some (first-ramps s key last e)
part-ramps Clocks key last e = absurd (closing-none key last e)
part-ramps Closed key last e = absurd (closing-none key last e)

pub part-clocks : (stage : Stage) (key : ℕ) → part stage key ≡ clock_group → (last : ℕ) × (last_of stage ≡ Some last)
part-clocks Orbits key e = (0, refl)
part-clocks (Ramps s) key e = (s, refl)
part-clocks Clocks key e = absurd (closing_timed key e)
part-clocks Closed key e = absurd (closing_timed key e)

to_turn : (stage : Stage) (rows : List (List ℕ)) (key k : ℕ) (cs : List Cell) (p : Part) (t : Turn) → part stage key ≡ p → turn_to rows k cs p ≡ Ok t → Turned stage rows k cs t
to_turn stage rows key k cs (ramps_above last) t q e =
    let a = seen_ok ramps (group ramp_kind 2030 1 (station_above last) None k cs) t e in
    subst (Turned stage rows k cs) a.1.1 (last, (part-ramps stage key last q, a.1.0))
to_turn stage rows key k cs clock_group t q e =
    let a = seen_ok clocks (group clock_kind 2040 1 none None k cs) t e in
    let l = part-clocks stage key q in
    subst (Turned stage rows k cs) a.1.1 (l.0, (l.1, a.1.0))
to_turn stage rows key k cs summary t q e = let a = seen_ok (λ _. end true) (summary_at rows k cs) t e in subst (Turned stage rows k cs) a.1.1 (a.0, a.1.0)
to_turn stage rows key k cs end_packet t q e = let a = seen_ok (λ _. end false) (end_at k cs) t e in subst (Turned stage rows k cs) a.1.1 (a.0, a.1.0)
to_turn stage rows key k cs nothing t q e = never _ t e

pub turn_is : (stage : Stage) (rows : List (List ℕ)) (k : ℕ) (cs : List Cell) (t : Turn) → turn stage rows k cs ≡ Ok t → Turned stage rows k cs t
turn_is stage rows k cs t e =
    let a = then_ok (packet_at k cs) _ t e in
    let b = if_so (header_like a.0) (turn_to rows k cs (part stage (word a.0 1))) (Misplaced k) t a.1.1 in
    to_turn stage rows (word a.0 1) k cs (part stage (word a.0 1)) t refl b.1

-- the end packet, and the summary before it
pub zero_key : (s : ℕ) → Within none s → s ≡ 0
zero_key s w = let m = w.most in omega arith

end-opened : (k : ℕ) (p : List ℕ) (s : ℕ) → Proper (holds p) → opened 4294967295 0 none k p ≡ Ok s → p ≡ header_packet (negsuc 0) 0 0 k
end-opened k p s h e =
    let o = opened_is (negsuc 0) 4294967295 0 none k p s end_key h e in
    o.0 ∙ ap (λ v. header_packet (negsuc 0) v 0 k) (zero_key s o.1)

pub end_is : (k : ℕ) (cs : List Cell) (s : ℕ) → Whole cs → end_at k cs ≡ Ok s → cs ≡ holds (header_packet (negsuc 0) 0 0 k) ∷ drop 1 cs
end_is k [] s w e = never _ s e
end_is k (damaged b ∷ cs) s w e = never _ s e
end_is k (holds p ∷ cs) s w e = ap (λ v. holds v ∷ cs) (end-opened k p s w.0 e)

behind_is : (k : ℕ) (cs : List Cell) (s : ℕ) → Whole cs → end_behind k cs ≡ Ok s → cs ≡ holds (header_packet (negsuc 0) 0 0 k) ∷ drop 1 cs
behind_is k [] s w e = never _ s e
behind_is k (damaged b ∷ cs) s w e = never _ s e
behind_is k (holds p ∷ cs) s w e =
    let a = if_so (header_like p) (opened 4294967295 0 none k p) (WrongRow k) s e in
    ap (λ v. holds v ∷ cs) (end-opened k p s w.0 a.1)

pub holds-append : (xs ys : List (List ℕ)) (ds : List Cell) → map holds (xs ++ ys) ++ ds ≡ map holds xs ++ (map holds ys ++ ds)
holds-append [] ys ds = refl
holds-append (x ∷ xs) ys ds = ap (λ v. holds x ∷ v) (holds-append xs ys ds)

pub drop_one_more : (n : ℕ) (cs : List Cell) → drop 1 (drop n cs) ≡ drop (suc n) cs
drop_one_more zero cs = refl
drop_one_more (suc n) [] = refl
drop_one_more (suc n) (c ∷ cs) = drop_one_more n cs

pub summary_is : (rows : List (List ℕ)) (k : ℕ) (cs : List Cell) (s : ℕ) → Whole cs → summary_at rows k cs ≡ Ok s → cs ≡ map holds (closing true rows k) ++ drop (suc (suc (length rows))) cs
summary_is rows k [] s w e = never _ s e
summary_is rows k (damaged b ∷ cs) s w e = never _ s e
summary_is rows k (holds p ∷ cs) s w e =
    let a = then_ok (opened 105 1 none k p) _ s e in
    let b = then_ok (rows_at (suc k) rows cs) _ s a.1.1 in
    let o = opened_is (pos 105) 105 1 none k p a.0 summary_key w.0 a.1.0 in
    let head : p ≡ header_packet (pos 105) 0 1 k = o.0 ∙ ap (λ v. header_packet (pos 105) v 1 k) (zero_key a.0 o.1) in
    let body = rows_is (suc k) rows cs b.0 b.1.0 in
    let tail = behind_is (suc k + length rows) (drop (length rows) cs) s (whole_drop cs (length rows) w.1) b.1.1 in
    let tail2 = tail ∙ ap (λ v. holds (header_packet (negsuc 0) 0 0 (suc k + length rows)) ∷ v) (drop_one_more (length rows) cs) in
    let all = body ∙ ap (λ v. map holds rows ++ v) tail2 ∙ sym (holds-append rows (header_packet (negsuc 0) 0 0 (suc k + length rows) ∷ []) (drop (suc (length rows)) cs)) in
    λ i. holds (head i) ∷ all i
