-- Lines of a sheet, traded one after another.
use Rattle.std.proofs.Common.{◌≡◌, ℕ, ◌+◌, List, ◌∷◌, Option, ap, sym, ◌∙◌}
use Rattle.rows.specs.Rows.{Reason, first_row}
use Rattle.sheet.specs.declared.trade_line.TradeLine.{TradeLine}
use Rattle.model.specs.History.{History, Traded}
use Rattle.model.specs.Imports.{import_lines, line_rows, line_trade, stopped_or}
use Rattle.model.specs.References.{SessionReference}
use Rattle.model.specs.World.{World}

-- n lines are traded and some are left: what all of them come to is what these do
pub record Remaining {B : Type 0} (keeps : World → History → B → Type 0) (w : World) (h : History) (ticket : SessionReference) (lines : List TradeLine) (n : ℕ) (left : List TradeLine) (book : B) : Type 0 where
  pub history : History
  pub kept : keeps w history book
  pub same : import_lines w h ticket 0 lines ≡ import_lines w history ticket n left

-- the next line is refused for this reason, or is traded
pub next-line : {B : Type 0} (keeps : World → History → B → Type 0) (w : World) (h : History) (ticket : SessionReference) (lines : List TradeLine) (n : ℕ) (line : TradeLine) (left : List TradeLine) (book : B)
    (r : Remaining keeps w h ticket lines n (line ∷ left) book) (o : Option Reason) → o ≡ first_row (line_rows w r.history ticket line)
    → import_lines w h ticket 0 lines ≡ stopped_or n r.history o (import_lines w (Traded (line_trade w r.history line) ∷ r.history) ticket (n + 1) left)
next-line keeps w h ticket lines n line left book r o e =
    r.same ∙ ap (λ first. stopped_or n r.history first (import_lines w (Traded (line_trade w r.history line) ∷ r.history) ticket (n + 1) left)) (sym e)
