-- The months of the days of the examples.
use Rattle.std.proofs.Common.{◌≡◌, lit<, lit≤}
use Rattle.dates.specs.Months.{first_day, month_length, month_of}
use Rattle.dates.proofs.MonthLaws.{month-is}

-- 30 and 31 December 2026
pub december-30 : month_of 9860 ≡ 323
unfolding first_day month_length
december-30 = month-is 9860 323 (lit≤ tt) (lit< tt) (lit≤ tt)

pub december-31 : month_of 9861 ≡ 323
unfolding first_day month_length
december-31 = month-is 9861 323 (lit≤ tt) (lit< tt) (lit≤ tt)

-- 1 and 4 January 2027
pub january-1 : month_of 9862 ≡ 324
unfolding first_day month_length
january-1 = month-is 9862 324 (lit≤ tt) (lit< tt) (lit≤ tt)

pub january-4 : month_of 9865 ≡ 324
unfolding first_day month_length
january-4 = month-is 9865 324 (lit≤ tt) (lit< tt) (lit≤ tt)
