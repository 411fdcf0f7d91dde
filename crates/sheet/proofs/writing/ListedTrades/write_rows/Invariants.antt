use Rattle.std.proofs.Common.{◌≡◌, ◌*◌, ◌++◌, take, drop}
use Rattle.std.specs.List.{flat_map}
use Rattle.sheet.specs.Sheet.{sides, terms}
use Rattle.sheet.proofs.writing.ListedTrades.write_rows.Given as goal

abbrev pub invariant-loop-line : goal.invariant-loop-line
invariant-loop-line l =
    (l.side_rows ≡ flat_map sides (take l.line l.self.trades.now) ++ drop (2 * l.line) l.initial.side_rows)
    × (l.term_rows ≡ flat_map terms (take l.line l.self.trades.now) ++ drop (14 * l.line) l.initial.term_rows)
