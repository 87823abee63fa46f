-- Days and times as numbers of six digits.
use Rattle.std.specs.Prelude.{ℕ, ◌/◌, ◌%◌, Bool, cond, ◌&&◌, ◌||◌, ◌==◌, nat_le}
use Rattle.record.specs.Rules.{within}

-- the days of a month, by whether the year is a leap year
abbrev pub days_in : ℕ → Bool → ℕ
days_in month leap = cond (month == 2) (cond leap 29 28) (cond (month == 4 || month == 6 || month == 9 || month == 11) 30 31)

-- a year of two digits, 50 to 99 of the one century and 00 to 49 of the next: each fourth is a leap year
abbrev pub leap_year : ℕ → Bool
leap_year year = year % 4 == 0

-- YYMMDD
unfoldable pub is_date : ℕ → Bool
is_date d = nat_le (d / 10000) 99 && within 1 12 (d / 100 % 100) && within 1 (days_in (d / 100 % 100) (leap_year (d / 10000))) (d % 100)

-- hhmmss
unfoldable pub is_time : ℕ → Bool
is_time t = nat_le (t / 10000) 23 && nat_le (t / 100 % 100) 59 && nat_le (t % 100) 59
