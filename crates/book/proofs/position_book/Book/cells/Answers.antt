use Rattle.std.proofs.Common.{◌*◌, ◌∙◌}
use Rattle.book.proofs.Entering.{account-count}
use Rattle.book.proofs.Marking.{month-count}
use Rattle.book.proofs.position_book.Book.cells.Goals as goal

pub returns : goal.returns
returns g c w h k =
    let accounts = account-count h _ k.tables.accounts in
    let months = month-count h w _ k.tables.months in
    c.cells.ensures ∙ (λ i. accounts i * months i)
