-- All groups behind the orbit records: those that are laid are read.
use Rattle.std.proofs.Common.{◌≡◌, ℕ, zero, suc, ◌+◌, ◌^◌, ◌<◌, ◌≤◌, Bool, true, false, List, [], ◌∷◌, ◌++◌, map, length, drop, replicate, ℤ, pos, negsuc, Some, None, Ok, sym, refl, ap, ◌∙◌, arith, lit<}
use Rattle.std.proofs.lemmas.List.{length-append, length-map}
use Rattle.std.proofs.lemmas.Bool.{cond-true}
use Rattle.packet.specs.Packets.{header_like, filler}
use Rattle.carrier.specs.Cells.{Cell, holds}
use Rattle.record.specs.Kinds.{Kind}
use Rattle.station.specs.RampWords.{Ramp}
use Rattle.station.specs.RampWords.{ramp_kind}
use Rattle.station.specs.ClockWords.{Clock}
use Rattle.station.specs.ClockWords.{clock_kind}
use Rattle.label.specs.Headers.{header_packet}
use Rattle.label.proofs.HeaderLaws.{header_like_lem}
use Rattle.reading.specs.declared.walk.Stage.{Stage}
use Rattle.reading.specs.declared.walk.Stage.TheVariants.{Orbits, Ramps, Clocks, Closed}
use Rattle.reading.specs.Outcomes.{and_then, seen}
use Rattle.reading.specs.Contents.{Ordered, Stations, packed, closing, timing, following}
use Rattle.reading.specs.Reading.{opened, none, station_above, group, end_at, end_behind, summary_at, filler_at, end_from, Turn, ramps, clocks, end, ramps_above, clock_group, summary, end_packet, part, turn_to, turn, Rest, with_ramps, with_clocks, go_on, onward}
use Rattle.reading.proofs.Groups.{Laws}
use Rattle.reading.proofs.Openings.{Keyed, Within, opened_back, first_word, group_back, behind_laid, rows_back, filler_back, ramp_key, clock_key, summary_key, end_key}
use Rattle.reading.proofs.Turns.{last_of, drop_one_more, holds-append}

pub none_within : Within none 0
none_within = record { least = omega arith; most = omega arith; lowest = omega arith }

-- what stands behind a group begins with a header
pub record Headed (ps : List (List ℕ)) : Type 0 where
  pub first : List ℕ
  pub others : List (List ℕ)
  pub is : ps ≡ first ∷ others
  pub like : header_like first ≡ true

headed_by_lem : (key : ℤ) (w s len k : ℕ) (ps : List (List ℕ)) → Keyed key w → s < 2 ^ 32 → len < 2 ^ 32 → k < 2 ^ 32 → Headed (header_packet key s len k ∷ ps)
headed_by_lem key w s len k ps y a b c = record { first = header_packet key s len k; others = ps; is = refl; like = header_like_lem key s len k y.fit a b c }

pub closing-headed : (s : Bool) (rows : List (List ℕ)) (k : ℕ) → k < 2 ^ 32 → Headed (closing s rows k)
closing-headed true rows k h = headed_by_lem (pos 105) 105 0 1 k _ summary_key (lit< tt) (lit< tt) h
closing-headed false rows k h = headed_by_lem (negsuc 0) 4294967295 0 0 k _ end_key (lit< tt) (lit< tt) h

timing-headed : (xs : List Clock) (s : Bool) (rows : List (List ℕ)) (k : ℕ) → k < 2 ^ 32 → Headed (timing xs s rows k)
timing-headed [] s rows k h = closing-headed s rows k h
timing-headed (x ∷ xs) s rows k h = headed_by_lem (pos 2040) 2040 0 1 k _ clock_key (lit< tt) (lit< tt) h

pub following-headed : (last : ℕ) (gs : List (ℕ × List Ramp)) (xs : List Clock) (s : Bool) (rows : List (List ℕ)) (k : ℕ) → Stations last gs → k < 2 ^ 32 → Headed (following gs xs s rows k)
following-headed last [] xs s rows k g h = timing-headed xs s rows k h
following-headed last (a ∷ gs) xs s rows k g h = let m = g.1 in headed_by_lem (pos 2030) 2030 a.0 1 k _ ramp_key (omega arith) (lit< tt) h

-- it is never empty
closing_some : (s : Bool) (rows : List (List ℕ)) (k : ℕ) → 0 < length (closing s rows k)
closing_some true rows k = omega arith
closing_some false rows k = omega arith

pub following_some : (gs : List (ℕ × List Ramp)) (xs : List Clock) (s : Bool) (rows : List (List ℕ)) (k : ℕ) → 0 < length (following gs xs s rows k)
following_some [] [] s rows k = closing_some s rows k
following_some [] (x ∷ xs) s rows k = omega arith
following_some (g ∷ gs) xs s rows k = omega arith

-- what a key opens at each stage
end-part : (stage : Stage) → part stage 4294967295 ≡ end_packet
end-part Orbits = refl
end-part (Ramps s) = refl
end-part Clocks = refl
end-part Closed = refl

summary-part : (stage : Stage) → part stage 105 ≡ summary
summary-part Orbits = refl
summary-part (Ramps s) = refl
summary-part Clocks = refl
summary-part Closed = refl

clock_part : (stage : Stage) (last : ℕ) → last_of stage ≡ Some last → part stage 2040 ≡ clock_group
clock_part Orbits last e = refl
clock_part (Ramps s) last e = refl
clock_part Clocks last e = absurd cc
clock_part Closed last e = absurd cc

ramp_part : (stage : Stage) (last : ℕ) → last_of stage ≡ Some last → part stage 2030 ≡ ramps_above last
ramp_part Orbits last e = let q : 0 ≡ last = cc in ap ramps_above q
ramp_part (Ramps s) last e = let q : s ≡ last = cc in ap ramps_above q
ramp_part Clocks last e = absurd cc
ramp_part Closed last e = absurd cc

turn_at : (stage : Stage) (rows : List (List ℕ)) (k : ℕ) (key : ℤ) (w s len : ℕ) (cs : List Cell) → Keyed key w → s < 2 ^ 32 → len < 2 ^ 32 → k < 2 ^ 32 → turn stage rows k (holds (header_packet key s len k) ∷ cs) ≡ turn_to rows k (holds (header_packet key s len k) ∷ cs) (part stage w)
turn_at stage rows k key w s len cs y a b c =
    cond-true _ _ _ (header_like_lem key s len k y.fit a b c) ∙ ap (λ v. turn_to rows k (holds (header_packet key s len k) ∷ cs) (part stage v)) (first_word key w s len k y a b c)

end-opened : (k : ℕ) → k < 2 ^ 32 → opened 4294967295 0 none k (header_packet (negsuc 0) 0 0 k) ≡ Ok 0
end-opened k h = opened_back (negsuc 0) 4294967295 0 0 none k end_key (lit< tt) (lit< tt) h none_within

end_back : (k : ℕ) (ds : List Cell) → k < 2 ^ 32 → end_at k (holds (header_packet (negsuc 0) 0 0 k) ∷ ds) ≡ Ok 0
end_back k ds h = end-opened k h

behind_back : (k : ℕ) (ds : List Cell) → k < 2 ^ 32 → end_behind k (holds (header_packet (negsuc 0) 0 0 k) ∷ ds) ≡ Ok 0
behind_back k ds h = cond-true _ _ _ (header_like_lem (negsuc 0) 0 0 k end_key.fit (lit< tt) (lit< tt) h) ∙ end-opened k h

summary_back : (rows : List (List ℕ)) (k : ℕ) (ds : List Cell) → suc k + length rows < 2 ^ 32 → summary_at rows k (holds (header_packet (pos 105) 0 1 k) ∷ (map holds rows ++ holds (header_packet (negsuc 0) 0 0 (suc k + length rows)) ∷ ds)) ≡ Ok 0
summary_back rows k ds h =
    let es = holds (header_packet (negsuc 0) 0 0 (suc k + length rows)) ∷ ds in
    rw (opened_back (pos 105) 105 0 1 none k summary_key (lit< tt) (lit< tt) (omega arith) none_within, rows_back (suc k) rows es, behind_laid rows (length rows) es refl)
    (behind_back (suc k + length rows) ds h)

-- the answer where the turn is known
pub turned : (f : ℕ) (stage : Stage) (rows : List (List ℕ)) (k : ℕ) (cs : List Cell) (t : Turn) → turn stage rows k cs ≡ Ok t → onward (suc f) stage rows k cs ≡ go_on (λ st j ds. onward f st rows j ds) rows k cs t
turned f stage rows k cs t e = ap (λ v. and_then v (go_on (λ st j ds. onward f st rows j ds) rows k cs)) e

abbrev ended : Bool → Unit {0} → Rest
ended s u = record { summary = s; ramps = []; clocks = [] }

-- a summary or none, and the end
closing_back : (f : ℕ) (stage : Stage) (rows : List (List ℕ)) (k : ℕ) (s : Bool) (m : ℕ) → k + length (closing s rows k) ≤ 2 ^ 32 → onward (suc f) stage rows k (map holds (closing s rows k) ++ replicate m (holds filler)) ≡ Ok (ended s tt)
closing_back f stage rows k false m h =
    let ds = replicate m (holds filler) in
    let cs = holds (header_packet (negsuc 0) 0 0 k) ∷ ds in
    let t : turn stage rows k cs ≡ Ok (end false) = turn_at stage rows k (negsuc 0) 4294967295 0 0 ds end_key (lit< tt) (lit< tt) (omega arith) ∙ ap (turn_to rows k cs) (end-part stage) ∙ ap (seen (λ _. end false)) (end_back k ds (omega arith)) in
    turned f stage rows k cs (end false) t ∙ ap (seen (ended false)) (filler_back (suc k) m)
closing_back f stage rows k true m h =
    let rest = replicate m (holds filler) in
    let e = header_packet (negsuc 0) 0 0 (suc k + length rows) in
    let ds = map holds rows ++ holds e ∷ rest in
    let cs = holds (header_packet (pos 105) 0 1 k) ∷ ds in
    let n : length (rows ++ e ∷ []) ≡ length rows + 1 = length-append rows (e ∷ []) in
    let c : k + suc (length (rows ++ e ∷ [])) ≤ 2 ^ 32 = h in
    let split : map holds (closing true rows k) ++ rest ≡ cs = ap (λ v. holds (header_packet (pos 105) 0 1 k) ∷ v) (holds-append rows (e ∷ []) rest) in
    let t : turn stage rows k cs ≡ Ok (end true) = turn_at stage rows k (pos 105) 105 0 1 ds summary_key (lit< tt) (lit< tt) (omega arith) ∙ ap (turn_to rows k cs) (summary-part stage) ∙ ap (seen (λ _. end true)) (summary_back rows k rest (omega arith)) in
    ap (onward (suc f) stage rows k) split
    ∙ turned f stage rows k cs (end true) t
    ∙ ap (λ v. seen (ended true) (filler_at (suc (end_from true rows k)) v)) (sym (drop_one_more (length rows) (map holds rows ++ holds e ∷ rest)) ∙ ap (drop 1) (behind_laid rows _ (holds e ∷ rest) refl))
    ∙ ap (seen (ended true)) (filler_back (suc (end_from true rows k)) m)

-- a group that is laid, and what follows it
laid_group : {R : Type 0} (κ : Kind R) → Laws κ → (key : ℤ) (w k s : ℕ) (b : _) (xs : List R) (ps : List (List ℕ)) (ds : List Cell) → Keyed key w → s < 2 ^ 32 → k < 2 ^ 32 → Within b s → Ordered κ s 0 xs → 1 ≤ length xs → Headed ps → group κ w 1 b None k (holds (header_packet key s 1 k) ∷ (map holds (packed κ xs) ++ (map holds ps ++ ds))) ≡ Ok (s, xs)
laid_group κ l key w k s b xs ps ds y hs hk i o m h =
    ap (λ v. group κ w 1 b None k (holds (header_packet key s 1 k) ∷ (map holds (packed κ xs) ++ (map holds v ++ ds)))) h.is
    ∙ group_back κ l key w 1 b None k s xs h.first (map holds h.others ++ ds) y hs hk i o m h.like

timing_back : Laws clock_kind → (f : ℕ) (stage : Stage) (last : ℕ) (rows : List (List ℕ)) (k : ℕ) (xs : List Clock) (s : Bool) (m : ℕ) → last_of stage ≡ Some last → Ordered clock_kind 0 0 xs → k + length (timing xs s rows k) ≤ 2 ^ 32 → onward (suc (suc f)) stage rows k (map holds (timing xs s rows k) ++ replicate m (holds filler)) ≡ Ok (record { summary = s; ramps = []; clocks = xs })
timing_back l f stage last rows k [] s m o h n = closing_back (suc f) stage rows k s m n
timing_back l f stage last rows k (y ∷ ys) s m o h n =
    let xs = y ∷ ys in
    let rest = replicate m (holds filler) in
    let ps = closing s rows (suc k + length xs) in
    let head = header_packet (pos 2040) 0 1 k in
    let ds = map holds (packed clock_kind xs) ++ (map holds ps ++ rest) in
    let a : length (packed clock_kind xs ++ ps) ≡ length (packed clock_kind xs) + length ps = length-append (packed clock_kind xs) ps in
    let b : length (packed clock_kind xs) ≡ length xs = length-map xs _ in
    let c : k + suc (length (packed clock_kind xs ++ ps)) ≤ 2 ^ 32 = n in
    let split : map holds (timing xs s rows k) ++ rest ≡ holds head ∷ ds = ap (λ v. holds head ∷ v) (holds-append (packed clock_kind xs) ps rest) in
    let some : 0 < length ps = closing_some s rows (suc k + length xs) in
    let g : group clock_kind 2040 1 none None k (holds head ∷ ds) ≡ Ok (0, xs) = laid_group clock_kind l (pos 2040) 2040 k 0 none xs ps rest clock_key (lit< tt) (omega arith) none_within h (omega arith) (closing-headed s rows (suc k + length xs) (omega arith)) in
    let t : turn stage rows k (holds head ∷ ds) ≡ Ok (clocks (0, xs)) = turn_at stage rows k (pos 2040) 2040 0 1 ds clock_key (lit< tt) (lit< tt) (omega arith) ∙ ap (turn_to rows k (holds head ∷ ds)) (clock_part stage last o) ∙ ap (seen clocks) g in
    ap (onward (suc (suc f)) stage rows k) split
    ∙ turned (suc f) stage rows k (holds head ∷ ds) (clocks (0, xs)) t
    ∙ ap (λ v. seen (with_clocks xs) (onward (suc f) Clocks rows (suc k + length xs) v)) (behind_laid (packed clock_kind xs) _ (map holds ps ++ rest) (sym (length-map xs _)))
    ∙ ap (seen (with_clocks xs)) (closing_back f Clocks rows (suc k + length xs) s m (omega arith))

pub onward_back : Laws ramp_kind → Laws clock_kind → (f : ℕ) (stage : Stage) (last : ℕ) (rows : List (List ℕ)) (k : ℕ) (gs : List (ℕ × List Ramp)) (xs : List Clock) (s : Bool) (m : ℕ) → last_of stage ≡ Some last → Stations last gs → Ordered clock_kind 0 0 xs → length gs + 2 ≤ f → k + length (following gs xs s rows k) ≤ 2 ^ 32 → onward f stage rows k (map holds (following gs xs s rows k) ++ replicate m (holds filler)) ≡ Ok (record { summary = s; ramps = gs; clocks = xs })
onward_back lr lc zero stage last rows k gs xs s m o g h q n = absurd (omega arith)
onward_back lr lc (suc zero) stage last rows k gs xs s m o g h q n = absurd (omega arith)
onward_back lr lc (suc (suc f)) stage last rows k [] xs s m o g h q n = timing_back lc f stage last rows k xs s m o h n
onward_back lr lc (suc (suc f)) stage last rows k (a ∷ gs) xs s m o g h q n =
    let rs = a.1 in
    let rest = replicate m (holds filler) in
    let ps = following gs xs s rows (suc k + length rs) in
    let head = header_packet (pos 2030) a.0 1 k in
    let ds = map holds (packed ramp_kind rs) ++ (map holds ps ++ rest) in
    let l : length (packed ramp_kind rs ++ ps) ≡ length (packed ramp_kind rs) + length ps = length-append (packed ramp_kind rs) ps in
    let b : length (packed ramp_kind rs) ≡ length rs = length-map rs _ in
    let c : k + suc (length (packed ramp_kind rs ++ ps)) ≤ 2 ^ 32 = n in
    let low : last < a.0 = g.0 in
    let high : a.0 ≤ 1023 = g.1 in
    let many : 0 < length rs = g.2 in
    let split : map holds (following (a ∷ gs) xs s rows k) ++ rest ≡ holds head ∷ ds = ap (λ v. holds head ∷ v) (holds-append (packed ramp_kind rs) ps rest) in
    let some : 0 < length ps = following_some gs xs s rows (suc k + length rs) in
    let w : Within (station_above last) a.0 = record { least = omega arith; most = high; lowest = omega arith } in
    let e : group ramp_kind 2030 1 (station_above last) None k (holds head ∷ ds) ≡ Ok (a.0, rs) = laid_group ramp_kind lr (pos 2030) 2030 k a.0 (station_above last) rs ps rest ramp_key (omega arith) (omega arith) w g.3 (omega arith) (following-headed a.0 gs xs s rows (suc k + length rs) g.4 (omega arith)) in
    let t : turn stage rows k (holds head ∷ ds) ≡ Ok (ramps (a.0, rs)) = turn_at stage rows k (pos 2030) 2030 a.0 1 ds ramp_key (omega arith) (lit< tt) (omega arith) ∙ ap (turn_to rows k (holds head ∷ ds)) (ramp_part stage last o) ∙ ap (seen ramps) e in
    ap (onward (suc (suc f)) stage rows k) split
    ∙ turned (suc f) stage rows k (holds head ∷ ds) (ramps (a.0, rs)) t
    ∙ ap (λ v. seen (with_ramps (a.0, rs)) (onward (suc f) (Ramps a.0) rows (suc k + length rs) v)) (behind_laid (packed ramp_kind rs) _ (map holds ps ++ rest) (sym (length-map rs _)))
    ∙ ap (seen (with_ramps (a.0, rs))) (onward_back lr lc (suc f) (Ramps a.0) a.0 rows (suc k + length rs) gs xs s m refl g.4 h (omega arith) (omega arith))
