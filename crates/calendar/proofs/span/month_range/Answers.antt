use Rattle.std.proofs.Common.{rules}
use Rattle.dates.proofs.MonthLaws.{first-day-suc}
use Rattle.calendar.proofs.span.month_range.Goals as goal

pub returns : goal.returns
returns c = let s = first-day-suc c.args.month in search rules
