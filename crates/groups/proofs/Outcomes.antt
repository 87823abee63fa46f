-- What the groups of a file are, by what reading it answered.
use Rattle.std.proofs.Common.{◌≡◌, ℕ, ◌*◌, ◌<◌, ◌≤◌, List, length, Ok, Err, Result, sym, refl, ap, ◌∙◌, arith}
use Rattle.std.proofs.lemmas.Bool.{cond-true, lt-ltb}
use Rattle.carrier.specs.Cells.{Cell}
use Rattle.odf.specs.declared.fault.FileFault.{FileFault}
use Rattle.odf.specs.declared.fault.FileFault.TheVariants.{TooFewRows}
use Rattle.reading.specs.declared.report.Report.{Report}
use Rattle.reading.specs.Outcomes.{seen}
use Rattle.reading.specs.Contents.{Contents}
use Rattle.reading.specs.Files.{FileOf, report_of, reads, answer}
use Rattle.groups.specs.declared.GroupRow.{GroupRow}
use Rattle.groups.specs.Groups.{groups_of, group_count, listed, shown, Ready}
use Rattle.groups.proofs.Counts.{groups_count, groups_few}

-- a file that was read, and what was told of it
pub record Found (cs : List Cell) (report : Report) : Type 0 where
  pub contents : Contents
  pub read : reads cs ≡ Ok contents
  pub file : FileOf cs contents
  pub told : report ≡ report_of contents

pub found_few : (cs : List Cell) (report : Report) → Found cs report → 2 * report.groups ≤ report.end
found_few cs report f =
    let a = ap (λ r. r.groups) f.told in
    let b = ap (λ r. r.end) f.told in
    let c = groups_few f.contents f.file.lawful in
    omega arith

found_count : (cs : List Cell) (report : Report) (f : Found cs report) → group_count report ≡ length (groups_of f.contents)
found_count cs report f = ap group_count f.told ∙ sym (groups_count f.contents)

pub found_ready : (cs : List Cell) (report : Report) (room : ℕ) → Found cs report → group_count report ≤ room → Ready cs report.end room
found_ready cs report room f h =
    let e = ap (λ r. r.end) f.told in
    let n = found_count cs report f in
    record {
      contents = f.contents;
      read = f.read;
      file = f.file;
      last = omega arith;
      room = omega arith;
    }

-- the answers of a refusal
pub too_few : (cs : List Cell) (report : Report) (old : List GroupRow) → Found cs report → length old < group_count report → (Err TooFewRows ≡ listed (length old) (reads cs)) × (old ≡ shown (reads cs) old)
too_few cs report old f h =
    let n = found_count cs report f in
    let t = lt-ltb (length old) (length (groups_of f.contents)) (omega arith) in
    (sym (ap (listed (length old)) f.read ∙ cond-true _ _ _ t), sym (ap (λ r. shown r old) f.read ∙ cond-true _ _ _ t))

refused_by : (r : Result Contents FileFault) (e : FileFault) (n : ℕ) (old : List GroupRow) → Err e ≡ seen report_of r → (Err e ≡ listed n r) × (old ≡ shown r old)
refused_by (Ok c) e n old h = absurd cc
refused_by (Err d) e n old h = let q : e ≡ d = cc in (ap Err q, refl)

pub refused : (cs : List Cell) (e : FileFault) (n : ℕ) (old : List GroupRow) → Err e ≡ answer cs → (Err e ≡ listed n (reads cs)) × (old ≡ shown (reads cs) old)
refused cs e n old h = refused_by (reads cs) e n old h
