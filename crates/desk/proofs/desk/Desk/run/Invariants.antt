use Rattle.std.proofs.Common.{take}
use Rattle.model.specs.History.{History}
use Rattle.model.specs.World.{World}
use Rattle.book.specs.Keeps.{Keeps}
use Rattle.desk.specs.Acts.{RanOn}
use Rattle.desk.specs.Runs.{takes}
use Rattle.desk.proofs.desk.Desk.run.Given as goal

abbrev pub invariant-loop-call : goal.invariant-loop-call
invariant-loop-call g l =
    (w : World) (h : History) → Keeps g.C.Calendar.kinds g.S.RateSource.meaning w h l.fn.self.book
    → RanOn (takes g.S.Topmost.publishes g.S.Topmost.arbitrates) (Keeps g.C.Calendar.kinds g.S.RateSource.meaning) w h (take l.call-index l.calls) l.replies.items l.fn.self l.self
