use Rattle.std.proofs.Common.{refl, sym, subst, ◌∙◌, length, map}
use Rattle.rates.specs.Meanings.{rates_of}
use Rattle.model.specs.Closes.{amounts_at_close}
use Rattle.model.specs.Lawful.{Closes}
use Rattle.model.specs.Limits.{RatesLimited}
use Rattle.model.proofs.Allowing.{closing}
use Rattle.model.proofs.Sizes.{rates-were-limited}
use Rattle.book.specs.Causes.{day_in}
use Rattle.book.specs.Closes.{gap_in, prices_over}
use Rattle.book.proofs.CloseRows.{close-first}
use Rattle.book.proofs.CloseTables.{adjusted-told, day_traded-told, tables-close}
use Rattle.book.proofs.Keeping.{accepted-call, refused-call}
use Rattle.book.proofs.Marking.{day-told}
use Rattle.book.proofs.position_book.Book.close.Goals as goal

pub returns-in-Err-clause-closes : goal.returns-in-Err-clause-closes
returns-in-Err-clause-closes g c =
    refused-call _ _ _ _ _ _ c.args.self.now _
    (λ w h k. close-first w h c.args.ticket c.args.self.now.ledger (length c.args.adjustments.now) (length c.args.day_trades.now) _ _ k.calendar k.source k.tables)
    _ _ refl c.in-Err.ensures.answers

pub returns-in-Ok-clause-closes : goal.returns-in-Ok-clause-closes
returns-in-Ok-clause-closes g c =
    rw (c.close.ensures.tables, c.close.ensures.slip)
    (accepted-call _ _ _ _ _ _ c.args.self.now _
    (λ w h k. close-first w h c.args.ticket c.args.self.now.ledger (length c.args.adjustments.now) (length c.args.day_trades.now) _ _ k.calendar k.source k.tables)
    _ _ (λ w h m. refl) c.in-Ok.ensures.answers
    (λ w h k allowed.
    let t = c.args.self.now.ledger in
    let bounded = subst (λ m. RatesLimited (rates_of m)) (sym k.source) (g.met.S.RateSource.bounded c.args.self.now.source) in
    let accepts : Closes w h (amounts_at_close w h) =
    record { ticket = c.args.ticket; room = length c.args.adjustments.now; day_room = length c.args.day_trades.now; allowed = allowed; amounts = refl } in
    let session = closing w h _ accepts in
    let calendar = sym k.calendar in
    let source = sym k.source in
    let prices = c.deref.ensures.0 ∙ c.in-Ok.ensures.value ∙ (λ i. map (prices_over (rates_of (source i)) (day_in t) (gap_in (calendar i) t)) t.months) in
    let adjusted = c.close.ensures.adjusted ∙ adjusted-told w h t bounded k.lawful k.tables _ session.day c.args.adjustments.now prices session.session.is_open in
    record {
      value = (
        (let number = k.tables.number in let day = day-told w h t k.tables in λ i. record { number = number i; day = sym day i }),
        adjusted,
        c.close.ensures.day_traded ∙ day_traded-told w h t bounded k.lawful k.tables c.args.day_trades.now,
      );
      accepts = accepts;
      tables = λ l. rw adjusted (tables-close w h t (rates-were-limited w h k.lawful bounded) k.tables l c.args.adjustments.now);
    }))
