use Rattle.model.proofs.claims.laws_hold.Goals as goal
use Rattle.model.proofs.Apart.{months-apart, trades-apart}
use Rattle.model.proofs.Balancing.{positions-balance}
use Rattle.model.proofs.Cells.{listed-written}
use Rattle.model.proofs.Days.{closed-days, closes-few, opened-sessions}
use Rattle.model.proofs.Dues.{dues-move, pays-latest, unpaid-stays}
use Rattle.model.proofs.Ended.{trades-in-time}
use Rattle.model.proofs.Expiring.{expiry-met}
use Rattle.model.proofs.Gaps.{gaps-rated}
use Rattle.model.proofs.Importing.{imports-hold}
use Rattle.model.proofs.Late.{late-carries-nothing, late-account, late-month}
use Rattle.model.proofs.Limits.{positions-limited}
use Rattle.model.proofs.MonthEnds.{ended-by}
use Rattle.model.proofs.Moving.{positions-move}
use Rattle.model.proofs.SessionOrder.{sessions-rise}
use Rattle.model.proofs.Priced.{trades-priced}
use Rattle.model.proofs.Rated.{rates-stay}
use Rattle.model.proofs.Reliance.{carried-before, carried-limited, gap-short, corrected-limited, adjustment-seen}
use Rattle.model.proofs.Sizes.{months-few, tables-limited, trades-limited, prices-within, rates-stay-limited, rates-were-limited}
use Rattle.model.proofs.Sums.{amounts-limited, dues-fit, dues-limited, nothing-due}
use Rattle.model.proofs.Unpaid.{one-unpaid, closes-paid}
use Rattle.model.proofs.Written.{day-trades-written, nothing-outside}

pub returns-clause-laws : goal.returns-clause-laws
returns-clause-laws c = record {
  sessions = sessions-rise;
  rates = rates-stay;
  rated = gaps-rated;
  balance = positions-balance;
  expiry = expiry-met;
  apart = months-apart;
  trades = trades-apart;
  late = late-carries-nothing;
  late_account = late-account;
  late_month = late-month;
  unpaid = one-unpaid;
  paid = closes-paid;
  stays = unpaid-stays;
  latest = pays-latest;
}

pub returns-clause-moves : goal.returns-clause-moves
returns-clause-moves c = record { positions = positions-move; dues = dues-move; in_time = trades-in-time; priced = trades-priced; day_trades = day-trades-written; ended = ended-by }

pub returns-clause-limits : goal.returns-clause-limits
returns-clause-limits c = record {
  tables = tables-limited;
  positions = positions-limited;
  trades = trades-limited;
  prices = prices-within;
  opened = opened-sessions;
  closed = closed-days;
  outside = nothing-outside;
  rates = rates-stay-limited;
  rates_before = rates-were-limited;
  amounts = amounts-limited;
  dues = dues-limited;
  closes = closes-few;
  fit = dues-fit;
}

pub returns-clause-closing : goal.returns-clause-closing
returns-clause-closing c =
    record { carried = carried-before; carried_limited = carried-limited; gap = gap-short; corrected = corrected-limited; adjustment = adjustment-seen; listed = λ w h a l. listed-written w h a (months-few w h l); due = nothing-due }

pub returns-clause-imports : goal.returns-clause-imports
returns-clause-imports c = imports-hold
