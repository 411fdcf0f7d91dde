use Rattle.examples.proofs.examples_hold.Goals as goal
use Rattle.examples.proofs.Answers.{answers-hold}
use Rattle.examples.proofs.Edges.{edges-hold}
use Rattle.examples.proofs.FullTolerance.{full-tolerance}
use Rattle.examples.proofs.MonthToItsEnd.{month-to-its-end}
use Rattle.examples.proofs.SeveralMonths.{several-months}
use Rattle.examples.proofs.SheetEdges.{sheet-edges}
use Rattle.examples.proofs.TwoLayers.{two-layers}
use Rattle.examples.proofs.WrongBooks.{wrong-books}

pub returns : goal.returns
returns c = record {
  month = month-to-its-end;
  months = several-months;
  tolerance = full-tolerance;
  wrong = wrong-books;
  layers = two-layers;
  answers = answers-hold;
  edges = edges-hold;
  sheets = sheet-edges;
}
