-- The report that a walk comes to, one group after another.
use Rattle.std.proofs.Common.{◌≡◌, ℕ, zero, suc, ◌+◌, ◌≤◌, Bool, true, false, List, [], ◌∷◌, length, drop, None, Ok, Err, Result, sym, refl, ap, ◌∙◌, add-zero, add-one, arith}
use Rattle.std.proofs.lemmas.List.{drop-drop}
use Rattle.std.proofs.lemmas.Bool.{ltb-false}
use Rattle.carrier.specs.Cells.{Cell}
use Rattle.station.specs.RampWords.{Ramp}
use Rattle.station.specs.ClockWords.{Clock}
use Rattle.station.specs.ClockWords.{clock_kind}
use Rattle.odf.specs.declared.fault.FileFault.{FileFault}
use Rattle.odf.specs.declared.fault.FileFault.TheVariants.{Misplaced}
use Rattle.reading.specs.declared.walk.Stage.TheVariants.{Ramps, Clocks, Closed}
use Rattle.reading.specs.Outcomes.{and_then, seen}
use Rattle.reading.specs.Files.{ramp_count, row_count}
use Rattle.reading.specs.Reading.{packet_at, none, opened, records, owner_of, enough, group, filler_at, end_from, ending, Turn, ramps, clocks, end, turn, Rest, with_ramps, with_clocks, go_on, onward}
use Rattle.reading.specs.Walking.{Progress, rows_over, advance, stepped, ramps_end, clocks_end, reported, walked}
use Rattle.reading.proofs.Steps.{never, then_ok, seen_ok, seen_err, if_not}
use Rattle.reading.proofs.Turns.{Turned, turn_is}
use Rattle.reading.proofs.Laying.{turned}

last_turn : (f : ℕ) (rows : List (List ℕ)) (k : ℕ) (cs : List Cell) (t : Turn) (r : Rest) → Turned Clocks rows k cs t → go_on (λ st j ds. onward f st rows j ds) rows k cs t ≡ Ok r → (r.ramps ≡ []) × (r.clocks ≡ [])
last_turn f rows k cs (ramps g) r t e = let q = t.1.0 in absurd cc
last_turn f rows k cs (clocks g) r t e = let q = t.1.0 in absurd cc
last_turn f rows k cs (end s) r t e =
    let a = seen_ok (λ _. record { summary = s; ramps = []; clocks = [] }) (filler_at (suc (end_from s rows k)) (drop (ending s rows) cs)) r e in
    (ap (λ v. v.ramps) (sym a.1.1), ap (λ v. v.clocks) (sym a.1.1))

-- behind the clock offsets there is no further group
pub clocks_last : (f : ℕ) (rows : List (List ℕ)) (k : ℕ) (cs : List Cell) (r : Rest) → onward f Clocks rows k cs ≡ Ok r → (r.ramps ≡ []) × (r.clocks ≡ [])
clocks_last zero rows k cs r e = never _ r e
clocks_last (suc f) rows k cs r e =
    let a = then_ok (turn Clocks rows k cs) (go_on (λ st j ds. onward f st rows j ds) rows k cs) r e in
    last_turn f rows k cs a.0 r (turn_is Clocks rows k cs a.0 a.1.0) a.1.1

-- a group has records where it has to
pub group_some : (k : ℕ) (cs : List Cell) (g : ℕ × List Clock) → group clock_kind 2040 1 none None k cs ≡ Ok g → 1 ≤ length g.1
group_some k cs g e =
    let a = then_ok (packet_at k cs) _ g e in
    let b = then_ok (opened 2040 1 none k a.0) _ g a.1.1 in
    let c = then_ok (records clock_kind (owner_of None b.0) (suc k) 0 (drop 1 cs)) (enough 1 (suc k) b.0) g b.1.1 in
    let d = if_not _ (Misplaced (suc k + length c.0)) (Ok (b.0, c.0)) g c.1.1 in
    let l = ltb-false _ _ d.0 in
    let q : c.0 ≡ g.1 = let z = d.1 in cc in
    let n : length c.0 ≡ length g.1 = ap length q in
    omega arith

pub kept-orbits : (w : Progress) (rows : List (List ℕ)) (t : Turn) → (advance w rows t).report.orbits ≡ w.report.orbits
kept-orbits w rows (ramps g) = refl
kept-orbits w rows (clocks g) = refl
kept-orbits w rows (end s) = refl

module _ (w : Progress) (rows : List (List ℕ)) (cs : List Cell) (f : ℕ) where
  abbrev k : ℕ
  k = w.report.end

  abbrev all : Result Rest FileFault
  all = onward (suc f) w.stage rows k (drop k cs)

  behind : (n : ℕ) → drop (suc n) (drop k cs) ≡ drop (suc k + n) cs
  behind n = let e : k + suc n ≡ suc k + n = omega arith in drop-drop (suc n) k cs ∙ ap (λ v. drop v cs) e

  with-ramps : (g : ℕ × List Ramp) (r : Result Rest FileFault) → seen (reported w rows) (seen (with_ramps g) r) ≡ seen (reported (advance w rows (ramps g)) rows) r
  with-ramps g (Err e) = refl
  with-ramps g (Ok r) =
      let a : w.report.groups + suc (length r.ramps) ≡ w.report.groups + 1 + length r.ramps = omega arith in
      let b : w.report.ramps + (length g.1 + ramp_count r.ramps) ≡ w.report.ramps + length g.1 + ramp_count r.ramps = omega arith in
      λ i. Ok (record { end = end_from r.summary rows (clocks_end r.clocks (ramps_end r.ramps (suc k + length g.1))); orbits = w.report.orbits; groups = a i; ramps = b i; clocks = w.report.clocks + length r.clocks; rows = row_count r.summary rows })

  some_end : (xs : List Clock) (j : ℕ) → 1 ≤ length xs → clocks_end xs j ≡ suc j + length xs
  some_end [] j h = absurd (omega arith)
  some_end (x ∷ xs) j h = refl

  with-clocks : (g : ℕ × List Clock) (r : Result Rest FileFault) → 1 ≤ length g.1 → ((x : Rest) → r ≡ Ok x → (x.ramps ≡ []) × (x.clocks ≡ [])) → seen (reported w rows) (seen (with_clocks g.1) r) ≡ seen (reported (advance w rows (clocks g)) rows) r
  with-clocks g (Err e) s h = refl
  with-clocks g (Ok r) s h =
      let p = h r refl in
      let j : clocks_end g.1 (ramps_end r.ramps k) ≡ clocks_end r.clocks (ramps_end r.ramps (suc k + length g.1)) = ap (λ v. clocks_end g.1 (ramps_end v k)) p.0 ∙ some_end g.1 k s ∙ (λ i. clocks_end (sym p.1 i) (ramps_end (sym p.0 i) (suc k + length g.1))) in
      let n : length r.clocks ≡ 0 = ap length p.1 in
      let b : w.report.clocks + length g.1 ≡ w.report.clocks + length g.1 + length r.clocks = omega arith in
      λ i. Ok (record { end = end_from r.summary rows (j i); orbits = w.report.orbits; groups = w.report.groups + length r.ramps; ramps = w.report.ramps + ramp_count r.ramps; clocks = b i; rows = row_count r.summary rows })

  abbrev goes : Turn → Result Rest FileFault
  goes t = onward f (advance w rows t).stage rows (advance w rows t).report.end (drop (advance w rows t).report.end cs)

  -- a group was read that is not the end
  pub walks-on : (t : Turn) → turn w.stage rows k (drop k cs) ≡ Ok t → ((advance w rows t).stage ≡ Closed → ⊥) → seen (reported (advance w rows t) rows) (goes t) ≡ seen (reported w rows) all
  walks-on (ramps g) e h =
      sym (ap (seen (reported w rows)) (turned f w.stage rows k (drop k cs) (ramps g) e)
      ∙ with-ramps g (onward f (Ramps g.0) rows (suc k + length g.1) (drop (suc (length g.1)) (drop k cs)))
      ∙ ap (λ v. seen (reported (advance w rows (ramps g)) rows) (onward f (Ramps g.0) rows (suc k + length g.1) v)) (behind (length g.1)))
  walks-on (clocks g) e h =
      sym (ap (seen (reported w rows)) (turned f w.stage rows k (drop k cs) (clocks g) e)
      ∙ with-clocks g (onward f Clocks rows (suc k + length g.1) (drop (suc (length g.1)) (drop k cs))) (group_some k (drop k cs) g (turn_is w.stage rows k (drop k cs) (clocks g) e).1.1) (λ x q. clocks_last f rows _ _ x q)
      ∙ ap (λ v. seen (reported (advance w rows (clocks g)) rows) (onward f Clocks rows (suc k + length g.1) v)) (behind (length g.1)))
  walks-on (end s) e h = absurd (h refl)

  past : (s : Bool) → drop (ending s rows) (drop k cs) ≡ drop (suc (end_from s rows k)) cs
  past false = let e : k + 1 ≡ suc k = omega arith in drop-drop 1 k cs ∙ ap (λ v. drop v cs) e
  past true = let e : k + suc (suc (length rows)) ≡ suc (suc k + length rows) = omega arith in drop-drop (suc (suc (length rows))) k cs ∙ ap (λ v. drop v cs) e

  same-report : (s : Bool) → reported w rows (record { summary = s; ramps = []; clocks = [] }) ≡ (advance w rows (end s)).report
  same-report s = λ i. record { end = end_from s rows k; orbits = w.report.orbits; groups = add-zero w.report.groups i; ramps = add-zero w.report.ramps i; clocks = add-zero w.report.clocks i; rows = row_count s rows }

  seen-const : {A B C : Type 0} (f' : B → C) (x : B) (y : C) (r : Result A FileFault) → f' x ≡ y → seen f' (seen (λ _. x) r) ≡ seen (λ _. y) r
  seen-const f' x y (Ok u) e = ap Ok e
  seen-const f' x y (Err g) e = refl

  -- the end packet was read: filler has to follow
  pub walks-out : (t : Turn) → turn w.stage rows k (drop k cs) ≡ Ok t → (advance w rows t).stage ≡ Closed → seen (reported w rows) all ≡ seen (λ _. (advance w rows t).report) (filler_at (suc (advance w rows t).report.end) (drop (suc (advance w rows t).report.end) cs))
  walks-out (ramps g) e h = absurd cc
  walks-out (clocks g) e h = absurd cc
  walks-out (end s) e h =
      ap (seen (reported w rows)) (turned f w.stage rows k (drop k cs) (end s) e)
      ∙ seen-const (reported w rows) _ _ (filler_at (suc (end_from s rows k)) (drop (ending s rows) (drop k cs))) (same-report s)
      ∙ ap (λ v. seen (λ _. (advance w rows (end s)).report) (filler_at (suc (end_from s rows k)) v)) (past s)

  -- a group that is refused
  pub walks-into : (e : FileFault) → turn w.stage rows k (drop k cs) ≡ Err e → seen (reported w rows) all ≡ Err e
  walks-into e h = ap (λ v. seen (reported w rows) (and_then v (go_on (λ st j ds. onward f st rows j ds) rows k (drop k cs)))) h

-- the report of a walk at a turn: a group that is refused, the end packet, and another group
module _ (w : Progress) (cs : List Cell) (n f : ℕ) (e : n ≡ suc f) where
  abbrev all_rows : List (List ℕ)
  all_rows = rows_over w.report.orbits cs

  abbrev next : Result Turn FileFault
  next = turn w.stage all_rows w.report.end (drop w.report.end cs)

  pub walked_into : (x : FileFault) → Err x ≡ stepped w cs → Err x ≡ walked n w cs
  walked_into x h = sym (ap (λ m. walked m w cs) e ∙ walks-into w all_rows cs f x (seen_err (advance w all_rows) next x h))

  pub walked_out : (u v : Progress) → u ≡ v → Ok v ≡ stepped w cs → v.stage ≡ Closed → seen (λ _. u.report) (filler_at (u.report.end + 1) (drop (u.report.end + 1) cs)) ≡ walked n w cs
  walked_out u v i h c =
      let t = seen_ok (advance w all_rows) next v (sym h) in
      ap (λ m. seen (λ _. u.report) (filler_at m (drop m cs))) (add-one u.report.end)
      ∙ ap (λ x. seen (λ _. x.report) (filler_at (suc x.report.end) (drop (suc x.report.end) cs))) (i ∙ sym t.1.1)
      ∙ sym (ap (λ m. walked m w cs) e ∙ walks-out w all_rows cs f t.0 t.1.0 (ap (λ x. x.stage) t.1.1 ∙ c))

  pub walked_on : (v : Progress) → Ok v ≡ stepped w cs → (v.stage ≡ Closed → ⊥) → walked f v cs ≡ walked n w cs
  walked_on v h c =
      let t = seen_ok (advance w all_rows) next v (sym h) in
      let a = advance w all_rows t.0 in
      ap (λ u. walked f u cs) (sym t.1.1)
      ∙ ap (λ o. seen (reported a (rows_over o cs)) (onward f a.stage (rows_over o cs) a.report.end (drop a.report.end cs))) (kept-orbits w all_rows t.0)
      ∙ walks-on w all_rows cs f t.0 t.1.0 (λ q. c (ap (λ u. u.stage) (sym t.1.1) ∙ q))
      ∙ ap (λ m. walked m w cs) (sym e)
