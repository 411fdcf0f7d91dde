-- A rate is published or arbitrated.
use Rattle.std.proofs.Common.{◌≡◌, ℕ, List, ◌∷◌, false, true, None, Result, Ok, Err, refl, sym, ap, ◌∙◌, arith}
use Rattle.std.proofs.lemmas.Bool.Decides.{nat_tests}
use Rattle.std.specs.Result.{is_ok}
use Rattle.calendar.specs.declared.kind.DayKind.{DayKind}
use Rattle.rates.specs.declared.entry.DayRate.{DayRate}
use Rattle.rates.specs.Meanings.{Meaning}
use Rattle.refusal.specs.declared.Refusal.{Refusal}
use Rattle.refusal.specs.Refusals.{reason_of}
use Rattle.rows.specs.Rows.{Row, first_row, reason_by}
use Rattle.model.specs.History.{History, Event, Published, Arbitrated, account_entered, month_listed, session_opened, trade_made, price_marked, amounts_written, is_payment}
use Rattle.model.specs.Lawful.{Accepts, Lawful, Allowed}
use Rattle.model.specs.Observed.{source_of, source_after}
use Rattle.model.specs.Rows.{publish_rows}
use Rattle.model.specs.World.{World}
use Rattle.model.proofs.Balancing.{always-balanced}
use Rattle.model.proofs.Valuing.{always-valued}
use Rattle.book.specs.declared.position_book.Book.{Book}
use Rattle.book.specs.Calls.{Called}
use Rattle.book.specs.Keeps.{Keeps}
use Rattle.book.specs.Tables.{Tables, KeepsTables}
use Rattle.book.proofs.Stills.{accounts-still, months-still, positions-still, session-still}

-- an event that tells nothing but of rates
pub record TellsOfRates (e : Event) : Type 0 where
  pub enters : account_entered e ≡ None
  pub lists : month_listed e ≡ None
  pub opens : session_opened e ≡ None
  pub trades : trade_made e ≡ None
  pub writes : amounts_written e ≡ None
  pub pays : is_payment e ≡ false
  pub marks : (m : ℕ) → price_marked m e ≡ None

pub published-tells : (entry : DayRate) → TellsOfRates (Published entry)
published-tells entry = record { enters = refl; lists = refl; opens = refl; trades = refl; writes = refl; pays = refl; marks = λ m. refl }

pub arbitrated-tells : (entry : DayRate) → TellsOfRates (Arbitrated entry)
arbitrated-tells entry = record { enters = refl; lists = refl; opens = refl; trades = refl; writes = refl; pays = refl; marks = λ m. refl }

-- tables do not tell of rates
tables-rate : (w : World) (e : Event) (h : History) (t : Tables) → Lawful w (e ∷ h) → TellsOfRates e → KeepsTables w h t → KeepsTables w (e ∷ h) t
tables-rate w e h t l r k = record {
  number = k.number;
  start = k.start;
  accounts = accounts-still e h t.accounts r.enters r.writes r.pays k.accounts;
  months = months-still w e h t.months r.lists r.opens r.writes r.marks k.months;
  positions = positions-still w e h t.positions l r.trades r.writes k.positions;
  session = session-still w e h t.session r.opens r.writes r.trades r.pays k.session;
}

-- a call of the source alone, which tells the reason by the source's meaning, and on acceptance means what the event makes of it
module _ {C S : Type 0} (kinds : C → ℕ → DayKind) (meaning : S → Meaning) (rows : Meaning → List Row) (e : Event) (tells : TellsOfRates e)
    (accepts : (w : World) (h : History) → Allowed (rows (source_of w h)) → Accepts w h e) where
  pub source-call : (old : Book C S) (new : S) (r : Result (Unit {0}) Refusal) → reason_by reason_of r ≡ first_row (rows (meaning old.source))
      → (is_ok r ≡ false → new ≡ old.source) → (is_ok r ≡ true → meaning new ≡ source_after e (meaning old.source))
      → Called (Keeps kinds meaning) reason_of (λ w h. rows (source_of w h)) (λ w h x. Unit {0}) (λ w h x. e)
      old (record { calendar = old.calendar; source = new; ledger = old.ledger }) r
  source-call old new (Err refusal) answers refused accepted = record {
    refused = λ i. record { calendar = old.calendar; source = refused refl i; ledger = old.ledger };
    answers = λ w h k. answers ∙ sym (ap (λ m. first_row (rows m)) k.source);
    accepted = λ w h k. tt;
  }
  source-call old new (Ok x) answers refused accepted = record {
    refused = tt;
    answers = λ w h k. answers ∙ sym (ap (λ m. first_row (rows m)) k.source);
    accepted = λ w h k. (tt, keep w h k);
  }
    where
      keep : (w : World) (h : History) → Keeps kinds meaning w h old → Keeps kinds meaning w (e ∷ h) (record { calendar = old.calendar; source = new; ledger = old.ledger })
      keep w h k =
          let allowed : Allowed (rows (source_of w h)) = ap (λ m. first_row (rows m)) k.source ∙ sym answers in
          let lawful : Lawful w (e ∷ h) = (accepts w h allowed, k.lawful) in
          record {
            calendar = k.calendar;
            source = ap (source_after e) k.source ∙ sym (accepted refl);
            tables = tables-rate w e h old.ledger lawful tells k.tables;
            lawful = lawful;
            balanced = always-balanced w (e ∷ h) lawful;
            valued = always-valued w (e ∷ h) lawful;
          }

-- what is allowed for a period is allowed for one day
pub period-one : (w : World) (h : History) (entry : DayRate) (period : ℕ) → Allowed (publish_rows w h entry period) → Allowed (publish_rows w h entry 1)
period-one w h entry period a = grind (arith, nat_tests)
