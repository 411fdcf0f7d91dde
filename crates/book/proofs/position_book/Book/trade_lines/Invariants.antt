use Rattle.std.proofs.Common.{◌≡◌, ◌+◌, ◌≤◌, length}
use Rattle.model.specs.History.{History}
use Rattle.model.specs.World.{World}
use Rattle.sheet.specs.Lines.{trades_left}
use Rattle.sheet.specs.Views.{view_trades}
use Rattle.book.specs.Keeps.{Keeps}
use Rattle.book.proofs.Importing.{Remaining}
use Rattle.book.proofs.position_book.Book.trade_lines.Given as goal

abbrev pub invariant-loop-line : goal.invariant-loop-line
invariant-loop-line g l = record {
  can : (goal.iterator-loop-line g).can_next l.line-iterator;
  finite : (goal.iterator-loop-line g).is_finite l.line-iterator;
  few : l.taken + length (trades_left l.line-iterator) ≤ 256;
  unchanged : l.taken ≡ 0 → l.self ≡ l.fn.self;
  remaining : (w : World) (h : History) → Keeps g.C.Calendar.kinds g.S.RateSource.meaning w h l.fn.self
      → Remaining (Keeps g.C.Calendar.kinds g.S.RateSource.meaning) w h l.ticket (view_trades l.view) l.taken (trades_left l.line-iterator) l.self;
}
