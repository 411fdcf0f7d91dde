-- What a book keeps after a call.
use Rattle.std.proofs.Common.{◌≡◌, ℕ, List, [], ◌∷◌, pos, arith, Some, None, Option, Result, Ok, Err, sym, refl, ap, ◌∙◌}
use Rattle.std.specs.Result.{IsErrAnd}
use Rattle.std.proofs.lemmas.Bool.{cond_both}
use Rattle.std.proofs.lemmas.List.{get_or-replicate, length-replicate}
use Rattle.amounts.specs.Tables.{place_of}
use Rattle.calendar.specs.declared.kind.DayKind.{DayKind}
use Rattle.rates.specs.Meanings.{Meaning}
use Rattle.rows.specs.Rows.{Reason, Row, first_row}
use Rattle.model.specs.History.{History, Event}
use Rattle.model.specs.Lawful.{Allowed, Accepts, Lawful}
use Rattle.model.specs.Observed.{source_of, source_after}
use Rattle.model.specs.Positions.{has_ended}
use Rattle.model.specs.World.{World}
use Rattle.model.proofs.Balancing.{always-balanced}
use Rattle.model.proofs.Valuing.{always-valued}
use Rattle.book.specs.declared.position_book.Book.{Book}
use Rattle.book.specs.Calls.{Called}
use Rattle.book.specs.Keeps.{Keeps, world_of}
use Rattle.book.specs.Tables.{Tables, no_tables, KeepsTables}

-- of a world and a history that are kept, where no row refuses: the value is one of the rules, they accept the event, and the tables are what is seen after it
pub record Step (w : World) (h : History) (says : Type 0) (e : Event) (t : Tables) : Type 0 where
  pub value : says
  pub accepts : Accepts w h e
  pub tables : Lawful w (e ∷ h) → KeepsTables w (e ∷ h) t

-- the book keeps the history with an event that leaves the source
pub keep : {C S : Type 0} (kinds : C → ℕ → DayKind) (meaning : S → Meaning) (w : World) (h : History) (e : Event) (says : Type 0) (old : Book C S) (t : Tables)
    → ((m : Meaning) → source_after e m ≡ m) → Keeps kinds meaning w h old → Step w h says e t
    → Keeps kinds meaning w (e ∷ h) (record { calendar = old.calendar; source = old.source; ledger = t })
keep kinds meaning w h e says old t still k s =
    let lawful : Lawful w (e ∷ h) = (s.accepts, k.lawful) in
    record {
      calendar = k.calendar;
      source = still (source_of w h) ∙ k.source;
      tables = s.tables lawful;
      lawful = lawful;
      balanced = always-balanced w (e ∷ h) lawful;
      valued = always-valued w (e ∷ h) lawful;
    }

-- a call that changes nothing but the tables; `first` is the reason as the tables tell it
module _ {C S X E : Type 0} (kinds : C → ℕ → DayKind) (meaning : S → Meaning) (reason : E → Reason) (rows : World → History → List Row)
    (says : World → History → X → Type 0) (event : World → History → X → Event) (old : Book C S) (first : Option Reason)
    (tells : (w : World) (h : History) → Keeps kinds meaning w h old → first_row (rows w h) ≡ first) where
  -- a row refuses it, and the book is as it was
  pub refused-call : (e : E) (r : Result X E) → IsErrAnd r (λ y. y ≡ e) → Some (reason e) ≡ first → Called (Keeps kinds meaning) reason rows says event old old r
  refused-call e (Ok x) is refuses = absurd is
  refused-call e (Err y) is refuses =
      record { refused = refl; answers = λ w h k. ap (λ (z : E). Some (reason z)) is ∙ refuses ∙ sym (tells w h k); accepted = λ w h k. tt }

  -- it is accepted
  pub accepted-call : (t : Tables) (x : X) → ((w : World) (h : History) (m : Meaning) → source_after (event w h x) m ≡ m) → None ≡ first
      → ((w : World) (h : History) → Keeps kinds meaning w h old → Allowed (rows w h) → Step w h (says w h x) (event w h x) t)
      → Called (Keeps kinds meaning) reason rows says event old (record { calendar = old.calendar; source = old.source; ledger = t }) (Ok x)
  accepted-call t x still passes step = record {
    refused = tt;
    answers = λ w h k. passes ∙ sym (tells w h k);
    accepted = λ w h k.
        let s = step w h k (tells w h k ∙ sym passes) in
        (s.value, keep kinds meaning w h (event w h x) (says w h x) old t (still w h) k s);
  }

-- empty tables keep nothing of any world
tables-new : (w : World) → KeepsTables w [] (no_tables w.number w.start)
tables-new w = record {
  number = refl;
  start = refl;
  accounts = record { accounts = refl; amounts = λ a row at. absurd cc };
  months = record { numbers = refl; each = λ m row at. absurd cc };
  positions = record {
    whole = length-replicate 512 (pos 0);
    each = λ a m few listed. get_or-replicate 512 (place_of a m) (pos 0) (pos 0) (omega arith) ∙ cond_both (has_ended w [] m) (pos 0) (pos 0) (λ z. pos 0 ≡ z) (λ _. refl) (λ _. refl);
  };
  session = record { latest = refl; opens = refl; closed = refl; unpaid = refl; trades = refl };
}

-- a book that is made keeps an empty history
pub keeps-new : {C S : Type 0} (kinds : C → ℕ → DayKind) (meaning : S → Meaning) (n s : ℕ) (c : C) (r : S)
    → Keeps kinds meaning (world_of n s (kinds c) (meaning r)) [] (record { calendar = c; source = r; ledger = no_tables n s })
keeps-new kinds meaning n s c r =
    let w = world_of n s (kinds c) (meaning r) in
    record {
      calendar = refl;
      source = refl;
      tables = tables-new w;
      lawful = tt;
      balanced = always-balanced w [] tt;
      valued = always-valued w [] tt;
    }
