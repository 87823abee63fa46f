-- A report as plain numbers.
use Rattle.std.specs.Prelude.{ℕ, Some, None, Option}
use Rattle.reading.specs.declared.report.Report.{Report}
use Rattle.capi.specs.declared.numbers.OdfReport.{OdfReport}

-- whether there is a summary, and its rows
abbrev pub row_numbers : Option ℕ → ℕ × ℕ
row_numbers (Some n) = (1, n)
row_numbers None = (0, 0)

abbrev pub report_numbers : Report → OdfReport
report_numbers r = record { end = r.end; orbits = r.orbits; rampgroups = r.groups; ramps = r.ramps; clocks = r.clocks; summary = (row_numbers r.rows).0; rows = (row_numbers r.rows).1 }
