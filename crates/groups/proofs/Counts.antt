-- How many groups there are.
use Rattle.std.proofs.Common.{◌≡◌, ℕ, zero, suc, ◌+◌, ◌*◌, ◌<◌, Bool, true, false, cond, ltb, List, [], ◌∷◌, length, is_some, refl, arith}
use Rattle.std.proofs.lemmas.List.{length-append, length-map}
use Rattle.std.proofs.lemmas.Bool.{cond-true, lt-ltb}
use Rattle.station.specs.RampWords.{Ramp}
use Rattle.station.specs.RampWords.{ramp_kind}
use Rattle.station.specs.ClockWords.{Clock}
use Rattle.orbit.specs.Orbits.{orbit_kind}
use Rattle.reading.specs.Contents.{Contents, Lawful, Stations, packed, following}
use Rattle.reading.specs.Files.{summary_rows, packets, row_count, report_of}
use Rattle.reading.proofs.Laying.{following_some}
use Rattle.groups.specs.Groups.{end_rows, clock_rows, ramp_rows, groups_of, group_count}

end_count : (s : Bool) (rows : List (List ℕ)) (k : ℕ) → length (end_rows s (length rows) k) ≡ 1 + cond (is_some (row_count s rows)) 1 0
end_count false rows k = refl
end_count true rows k = refl

clock_count : (m : ℕ) (s : Bool) (rows : List (List ℕ)) (k : ℕ) → length (clock_rows m s (length rows) k) ≡ 1 + cond (ltb 0 m) 1 0 + cond (is_some (row_count s rows)) 1 0
clock_count zero s rows k = let e = end_count s rows k in omega arith
clock_count (suc m) s rows k =
    let e = end_count s rows (suc k + suc m) in
    let t : ◌≡◌ {A = ℕ} (cond (ltb 0 (suc m)) 1 0) 1 = cond-true _ _ _ (lt-ltb 0 (suc m) (omega arith)) in
    omega arith

ramp_count_lem : (gs : List (ℕ × List Ramp)) (m : ℕ) (s : Bool) (rows : List (List ℕ)) (k : ℕ) → length (ramp_rows gs m s (length rows) k) ≡ 1 + length gs + cond (ltb 0 m) 1 0 + cond (is_some (row_count s rows)) 1 0
ramp_count_lem [] m s rows k = let e = clock_count m s rows k in omega arith
ramp_count_lem (g ∷ gs) m s rows k = let e = ramp_count_lem gs m s rows (suc k + length g.1) in omega arith

pub groups_count : (c : Contents) → length (groups_of c) ≡ group_count (report_of c)
groups_count c = let e = ramp_count_lem c.ramps (length c.clocks) c.summary (summary_rows c.orbits) (5 + length c.orbits) in omega arith

-- each station has a header and some ramps
stations_few : (last : ℕ) (gs : List (ℕ × List Ramp)) (xs : List Clock) (s : Bool) (rows : List (List ℕ)) (k : ℕ) → Stations last gs → 2 * length gs < length (following gs xs s rows k)
stations_few last [] xs s rows k g = following_some [] xs s rows k
stations_few last (y ∷ gs) xs s rows k g =
    let r = stations_few y.0 gs xs s rows (suc k + length y.1) g.4 in
    let n = length-append (packed ramp_kind y.1) (following gs xs s rows (suc k + length y.1)) in
    let m : length (packed ramp_kind y.1) ≡ length y.1 = length-map y.1 _ in
    let some = g.2 in
    omega arith

pub groups_few : (c : Contents) → Lawful c → 2 * length c.ramps < length (packets c)
groups_few c l =
    let fs = following c.ramps c.clocks c.summary (summary_rows c.orbits) (5 + length c.orbits) in
    let r = stations_few 0 c.ramps c.clocks c.summary (summary_rows c.orbits) (5 + length c.orbits) l.ramps in
    let n = length-append (packed orbit_kind c.orbits) fs in
    omega arith
