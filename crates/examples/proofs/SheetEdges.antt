-- Sheets at their edges, computed.
use Rattle.std.proofs.Common.{refl}
use Rattle.sheet.specs.Sheet.{sheet_bytes, lines_of}
use Rattle.examples.specs.SheetEdges.{SheetEdges}
use Rattle.examples.proofs.LawfulSteps.{figures}
use Rattle.examples.proofs.MonthNumbers.{december-30}

pub sheet-edges : SheetEdges
unfolding figures sheet_bytes lines_of
sheet-edges = record { read = refl; lines = rw december-30; imports = refl; write = refl; bytes = refl; unlisted = refl }
