use Rattle.std.proofs.Common.{refl, sym, ap, ◌∙◌, subst}
use Rattle.model.specs.Limits.{RatesLimited}
use Rattle.rates.specs.Meanings.{rates_of}
use Rattle.model.proofs.Sizes.{rates-were-limited}
use Rattle.book.proofs.Keeping.{accepted-call, refused-call}
use Rattle.book.proofs.Paying.{pay-first, tables-pay}
use Rattle.book.proofs.position_book.Book.pay.Goals as goal

pub returns-in-Err-clause-pays : goal.returns-in-Err-clause-pays
returns-in-Err-clause-pays g c =
    refused-call _ _ _ _ _ _ c.args.self.now _ (λ w h k. pay-first w h c.args.slip c.args.self.now.ledger k.tables)
    _ _ refl c.in-Err.ensures

pub returns-clause-pays : goal.returns-clause-pays
returns-clause-pays g c =
    rw c.pay.ensures
    (accepted-call _ _ _ _ _ _ c.args.self.now _ (λ w h k. pay-first w h c.args.slip c.args.self.now.ledger k.tables)
    _ _ (λ w h m. refl) c.in_default.ensures
    (λ w h k allowed.
    let limited = subst (λ m. RatesLimited (rates_of m)) (sym k.source) (g.met.S.RateSource.bounded c.args.self.now.source) in
    record {
      value = tt;
      accepts = (c.args.slip, allowed);
      tables = λ l.
          tables-pay w h (rates-were-limited w h k.lawful limited) (λ d late. ap (λ kinds. kinds d) k.calendar ∙ g.met.C.Calendar.ends c.args.self.now.calendar d late)
          c.args.self.now.ledger l k.tables;
    }))
