use Rattle.std.proofs.lemmas.List.{length-map}
use Rattle.book.proofs.Charging.{length-each}
use Rattle.book.proofs.ledger.Ledger.close.Goals as goal

pub invariant_of-self : goal.invariant_of-self
invariant_of-self c = record {
  few_accounts = rw (c.charge_rows.ensures, length-each) c.self.invariant.few_accounts;
  few_months = rw (c.price_rows.ensures, length-map) c.self.invariant.few_months;
  cells = rw (c.expire_cells.ensures, length-each) c.self.invariant.cells;
  last_day = c.self.invariant.last_day;
}
