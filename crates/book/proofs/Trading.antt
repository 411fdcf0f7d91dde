-- A trade is made.
use Rattle.std.proofs.Common.{◌≡◌, ℕ, ◌<◌, ◌&&◌, ◌||◌, drop, nat_le, not, Bool, true, false, cond, List, [], ◌∷◌, ◌++◌, length, ℤ, pos, ◌+ℤ◌, ◌-ℤ◌, nat_lt, Some, None, Option, refl, sym, ap, ◌∙◌, arith}
use borrow.Author.Differences.{ints}
use Rattle.std.specs.Bool.{◌==◌}
use Rattle.std.proofs.lemmas.Bool.Decides.{nat_tests}
use Rattle.amounts.specs.declared.trades.Trade.{Trade}
use Rattle.amounts.specs.Tables.{place_of}
use Rattle.interest.specs.Price.{trade_price}
use Rattle.interest.specs.Tick.{on_tick}
use Rattle.pricing.specs.Pricing.{distance, days_to}
use Rattle.rows.specs.Rows.{Row, first_row, numbered}
use Rattle.model.specs.declared.calls.Order.{Order}
use Rattle.model.specs.Answers.{price_now}
use Rattle.model.specs.History.{History, Traded}
use Rattle.model.specs.Lawful.{Lawful, Allowed}
use Rattle.model.specs.Observed.{session_day, month_at, accounts_of, months_of, open_session, trade_at}
use Rattle.model.specs.References.{SessionReference, is_of}
use Rattle.model.specs.Rows.{is_over, trade_rows}
use Rattle.model.specs.World.{World}
use Rattle.model.proofs.Allowing.{open-on}
use Rattle.model.proofs.Moving.{positions-move}
use Rattle.model.proofs.Sizes.{tables-limited}
use Rattle.book.specs.Causes.{day_in, days_in, trade_rows_in, InTables}
use Rattle.book.specs.Changes.{changed_at, moved, after_trade}
use Rattle.book.specs.Tables.{Tables, KeepsPositions, KeepsTables}
use Rattle.book.proofs.Changing.{get_or-changed, length-changed}
use Rattle.book.proofs.Entering.{account-count}
use Rattle.book.proofs.Marking.{row_at, number_at, current-told, day-told, month-count, expiry-told, number-told}
use Rattle.book.proofs.Stills.{accounts-still, months-still}

-- ---- the causes, as the tables tell them

-- what comes after a row that refuses does not matter
unlisted : (a b c d : Bool) (r s : List Row) → a ≡ b → c ≡ true → d ≡ true → first_row ((a, numbered 1) ∷ (c, numbered 2) ∷ r) ≡ first_row ((b, numbered 1) ∷ (d, numbered 2) ∷ s)
unlisted a b c d r s e f g = rw (e, f, g) refl

stopped : (a b : Bool) (r s : List Row) → a ≡ true → b ≡ true → first_row ((a, numbered 1) ∷ r) ≡ first_row ((b, numbered 1) ∷ s)
stopped a b r s e f = rw (e, f) refl

-- both sides and the month are in the book
in-book : (a b m n k : ℕ) → (nat_lt a n && (nat_lt b n && nat_lt m k)) ≡ true → (a < n) × (b < n) × (m < k)
in-book a b m n k e = (grind (arith, nat_tests), grind (arith, nat_tests), grind (arith, nat_tests))

-- a current ticket is of an open session
ticket-open : (number : ℕ) (ticket : SessionReference) (o : Option ℕ) → is_of number ticket o ≡ true → (d : ℕ) × (o ≡ Some d)
ticket-open number ticket None current = absurd cc
ticket-open number ticket (Some d) current = (d, refl)

-- in an open session the reserve days of a listed month are known
pub days-told : (w : World) (h : History) (t : Tables) (m d : ℕ) → KeepsTables w h t → m < length t.months → open_session h ≡ Some d
    → days_in t m ≡ days_to w.kinds (session_day h) (month_at h m)
days-told w h t m d k listed is_open =
    let row = row_at t.months m listed in
    let day = open-on h d is_open in
    rw (row.1, ← k.months.numbers, number_at t.months m row.0 row.1, day.day) ((k.months.each m row.0 row.1).days d is_open)

pub trade-first : (w : World) (h : History) (ticket : SessionReference) (o : Order) (t : Tables) → Lawful w h → KeepsTables w h t
    → first_row (trade_rows w h ticket o) ≡ first_row (trade_rows_in t ticket o)
trade-first w h ticket o t l k = by _ refl _ refl
  where
    current : is_of w.number ticket (open_session h) ≡ is_of t.number ticket t.session.opens
    current = current-told w h ticket t k

    day : session_day h ≡ day_in t
    day = day-told w h t k

    accounts : length (accounts_of h) ≡ length t.accounts
    accounts = sym (account-count h t.accounts k.accounts)

    months : length (months_of h) ≡ length t.months
    months = sym (month-count h w t.months k.months)

    by : (c : Bool) → is_of w.number ticket (open_session h) ≡ c
        → (v : Bool) → (nat_lt o.buyer (length t.accounts) && (nat_lt o.seller (length t.accounts) && nat_lt o.month (length t.months))) ≡ v
        → first_row (trade_rows w h ticket o) ≡ first_row (trade_rows_in t ticket o)
    by false c v e = stopped _ _ (drop 1 (trade_rows w h ticket o)) (drop 1 (trade_rows_in t ticket o)) (rw c refl) (rw (← current, c) refl)
    by true c true e =
        let in_book = in-book o.buyer o.seller o.month (length t.accounts) (length t.months) e in
        let few = tables-limited w h l in
        let expiry = expiry-told w h t o.month k in_book.2 in
        let number = number-told w h t o.month k in_book.2 in
        let trades = sym k.session.trades in
        let session = ticket-open w.number ticket (open_session h) c in
        let reserve = sym (days-told w h t o.month session.0 k in_book.2 session.1) in
        let bought = sym (k.positions.each o.buyer o.month (omega (arith, accounts, in_book.0, few.0)) (omega (arith, months, in_book.2, few.1))) in
        let sold = sym (k.positions.each o.seller o.month (omega (arith, accounts, in_book.1, few.0)) (omega (arith, months, in_book.2, few.1))) in
        λ i. first_row (
        (not (current i), numbered 1)
        ∷ (not (nat_lt o.buyer (accounts i) && (nat_lt o.seller (accounts i) && nat_lt o.month (months i))), numbered 2)
        ∷ (nat_le (expiry i) (day i), numbered 3)
        ∷ ((o.buyer == o.seller), numbered 4)
        ∷ (o.quantity == 0 || nat_lt 20000 o.quantity, numbered 5)
        ∷ (nat_lt 99999 o.rate || not (on_tick o.rate (distance (day i) (number i))), numbered 6)
        ∷ (nat_lt 2520 (reserve i), numbered 7)
        ∷ (is_over (bought i -ℤ pos o.quantity) || is_over (sold i +ℤ pos o.quantity), numbered 8)
        ∷ (nat_le 256 (length (trades i)), numbered 9)
        ∷ [])
    by true c false e =
        let out : not (nat_lt o.buyer (length t.accounts) && (nat_lt o.seller (length t.accounts) && nat_lt o.month (length t.months))) ≡ true = rw e refl in
        let absent : not (nat_lt o.buyer (length (accounts_of h)) && (nat_lt o.seller (length (accounts_of h)) && nat_lt o.month (length (months_of h)))) ≡ true =
        rw (accounts, months) out in
        unlisted _ _ _ _ (drop 2 (trade_rows w h ticket o)) (drop 2 (trade_rows_in t ticket o)) (ap not current) absent out

-- ---- the tables afterwards

same-cell : (a m b n : ℕ) → m < 16 → n < 16 → (place_of a m == place_of b n) ≡ (n == m && b == a)
same-cell a m b n lm ln = grind (arith, nat_tests)

moved-cell : (x : ℤ) (q : ℕ) (month buyer seller : Bool) → cond (month && seller) (cond (month && buyer) (x -ℤ pos q) x +ℤ pos q) (cond (month && buyer) (x -ℤ pos q) x)
    ≡ x +ℤ (pos (cond (month && seller) q 0) -ℤ pos (cond (month && buyer) q 0))
moved-cell x q true true true = omega (arith, ints)
moved-cell x q true true false = omega (arith, ints)
moved-cell x q true false true = omega (arith, ints)
moved-cell x q true false false = omega (arith, ints)
moved-cell x q false buyer seller = omega (arith, ints)

positions-trade : (w : World) (h : History) (o : Order) (price : ℕ) (cells : List ℤ) → InTables o → Lawful w (Traded (trade_at o price) ∷ h) → KeepsPositions w h cells
    → KeepsPositions w (Traded (trade_at o price) ∷ h) (moved o cells)
positions-trade w h o price cells inside l k = record {
  whole = length-changed _ (changed_at (λ z. z -ℤ pos o.quantity) cells (place_of o.buyer o.month)) _ ∙ length-changed _ cells _ ∙ k.whole;
  each = λ a m few listed.
      let low = get_or-changed (λ z. z -ℤ pos o.quantity) cells (place_of o.buyer o.month) (place_of a m) (pos 0) (omega (arith, k.whole)) in
      let high = get_or-changed (λ z. z +ℤ pos o.quantity) (changed_at (λ z. z -ℤ pos o.quantity) cells (place_of o.buyer o.month)) (place_of o.seller o.month) (place_of a m) (pos 0)
      (rw (length-changed (λ z. z -ℤ pos o.quantity) cells (place_of o.buyer o.month)) (omega (arith, k.whole))) in
      high
      ∙ rw (low, same-cell a m o.buyer o.month listed inside.month, same-cell a m o.seller o.month listed inside.month, k.each a m few listed)
      (moved-cell _ o.quantity (o.month == m) (o.buyer == a) (o.seller == a))
      ∙ sym (positions-move.trade w h (trade_at o price) a m l);
}

pub tables-trade : (w : World) (h : History) (o : Order) (price : ℕ) (t : Tables) → InTables o → Lawful w (Traded (trade_at o price) ∷ h) → KeepsTables w h t
    → KeepsTables w (Traded (trade_at o price) ∷ h) (after_trade o price t)
tables-trade w h o price t inside l k = record {
  number = k.number;
  start = k.start;
  accounts = accounts-still (Traded (trade_at o price)) h t.accounts refl refl refl k.accounts;
  months = months-still w (Traded (trade_at o price)) h t.months refl refl refl (λ m. refl) k.months;
  positions = positions-trade w h o price t.positions inside l k.positions;
  session = record {
    latest = k.session.latest;
    opens = k.session.opens;
    closed = k.session.closed;
    unpaid = k.session.unpaid;
    trades = ap (λ (ts : List Trade). ts ++ trade_at o price ∷ []) k.session.trades;
  };
}

-- the price of the rules
pub price-told : (w : World) (h : History) (ticket : SessionReference) (o : Order) (t : Tables) (price : ℕ) → KeepsTables w h t → o.month < length t.months
    → Allowed (trade_rows w h ticket o) → price ≡ trade_price o.rate (days_in t o.month) → price ≡ price_now w h o
price-told w h ticket o t price k listed allowed e = by _ refl
  where
    by : (c : Bool) → is_of w.number ticket (open_session h) ≡ c → price ≡ price_now w h o
    by true c = let session = ticket-open w.number ticket (open_session h) c in e ∙ ap (trade_price o.rate) (days-told w h t o.month session.0 k listed session.1)
    by false c = absurd (let refused : first_row (trade_rows w h ticket o) ≡ Some (numbered 1) = rw c refl in cc)
