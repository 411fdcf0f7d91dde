-- The trades of every session have the prices of the rules.
use Rattle.std.proofs.Common.{ℕ, ◌∷◌}
use Rattle.std.specs.List.{AllByRecursion}
use Rattle.std.proofs.ByRecursion.{All-weaker}
use Rattle.amounts.specs.declared.trades.Trade.{Trade}
use Rattle.model.specs.History.{History, Event}
use Rattle.model.specs.Moves.{InTime, AtPrice, TradesPriced}
use Rattle.model.specs.Observed.{session_day, trades_of}
use Rattle.model.specs.Sessions.{sessions_of}
use Rattle.model.specs.World.{World}
use Rattle.model.proofs.EachTrade.{of-trades}
use Rattle.model.proofs.Ended.{in-time, in-time-stays}
use Rattle.model.proofs.Expiring.{month-stays}

-- the number of a listed month stays, so the price of the rules does
abbrev Rightly : World → History → ℕ → Trade → Type 0
Rightly w h day t = InTime w h day t × AtPrice w h day t

rightly-stays : (w : World) (h : History) (e : Event) (day : ℕ) (t : Trade) → Rightly w h day t → Rightly w (e ∷ h) day t
rightly-stays w h e day t r = (in-time-stays w h e day t r.0, rw (month-stays h e t.month r.0.0) r.1)

pub trades-priced : TradesPriced
trades-priced w h l =
    let r = of-trades w (Rightly w) (λ k t a. (in-time w k t a, a.0.1)) (rightly-stays w) h l in (
      All-weaker (λ s. AllByRecursion (Rightly w h s.day) s.trades) (λ s. AllByRecursion (AtPrice w h s.day) s.trades)
          (λ s a. All-weaker (Rightly w h s.day) (AtPrice w h s.day) (λ t x. x.1) s.trades a) (sessions_of w h) r.0,
      All-weaker (Rightly w h (session_day h)) (AtPrice w h (session_day h)) (λ t x. x.1) (trades_of h) r.1,
    )
