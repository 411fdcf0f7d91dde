-- A session is closed: what is written, and the tables afterwards.
use Rattle.std.proofs.Common.{◌≡◌, ℕ, zero, suc, ◌+◌, ◌*◌, ◌%◌, ◌<◌, ◌≤◌, true, false, cond, List, [], ◌∷◌, ◌++◌, length, map, take, drop, ℤ, pos, ◌+ℤ◌, Some, Option, slice_get, unsigned_abs, refl, sym, ap, ◌∙◌, inl, inr, zero-mul, suc-mul, append_assoc, arith}
use borrow.Author.Differences.{ints}
use Rattle.std.specs.Int.{int_wrap, w64}
use Rattle.std.specs.List.{range_with_len, flat_map}
use Rattle.std.proofs.lemmas.Bool.Decides.{nat_tests}
use Rattle.std.proofs.lemmas.Int.{int_wrap_fits, fits_signed_from_abs}
use Rattle.std.proofs.lemmas.List.Concat.{flat_map_single}
use Rattle.std.proofs.lemmas.List.{get_or-map}
use Rattle.std.proofs.lemmas.List.FromFn.{length-map-range_with_len}
use Rattle.std.proofs.lemmas.Option.{slice_get_within, slice_get_cases}
use Rattle.std.proofs.Math.Seq.{take-append_seam, drop-append-add}
use Rattle.correction.specs.Gaps.{factors}
use Rattle.interest.specs.Correction.{corrected}
use Rattle.interest.proofs.Corrections.{corrected-none}
use Rattle.amounts.specs.Amounts.{adjustment_of, carried_in}
use Rattle.amounts.specs.Closes.{adjustment_in, prices_of, no_prices, position_in, within_limit}
use Rattle.amounts.specs.DayTrades.{day_trade}
use Rattle.amounts.specs.Rows as rows
use Rattle.amounts.specs.Sums.{total}
use Rattle.amounts.specs.Tables.{place_of}
use Rattle.amounts.specs.declared.adjustments.MonthPrices.{MonthPrices}
use Rattle.rates.specs.Meanings.{rates_of}
use Rattle.model.specs.Closes.{amounts_at_close, written_to}
use Rattle.model.specs.History.{History, Amounts, Closed}
use Rattle.model.specs.Lawful.{Lawful}
use Rattle.model.specs.Limits.{RatesLimited}
use Rattle.model.specs.Moves.{is_expired}
use Rattle.model.specs.Observed.{accounts_of, months_of, is_listed, rate_on, session_day, open_session, trades_of, settlement_price}
use Rattle.model.specs.Positions.{position_of, carried_of, written_for, adjustment_at, corrected_to}
use Rattle.model.specs.Sessions.{Session, sessions_of, newest_price, gap_to}
use Rattle.model.specs.World.{World}
use Rattle.model.proofs.Cells.{in-book, listed-written}
use Rattle.model.proofs.Dues.{dues-move}
use Rattle.model.proofs.Moving.{positions-move}
use Rattle.model.proofs.Limits.{positions-limited}
use Rattle.model.proofs.Reliance.{carried-before, corrected-limited, adjustment-seen}
use Rattle.model.proofs.Sizes.{tables-limited}
use Rattle.model.proofs.Sums.{close-within, nothing-due}
use Rattle.book.specs.declared.ledger.AccountRow.{AccountRow}
use Rattle.book.specs.declared.ledger.MonthRow.{MonthRow}
use Rattle.book.specs.Causes.{day_in}
use Rattle.book.specs.Changes.{priced, after_close}
use Rattle.book.specs.Closes.{gap_in, price_in_32_bits, prices_over, with_more_due, accounts_after, has_expired, positions_after}
use Rattle.book.specs.Tables.{Tables, KeepsAccounts, KeepsMonths, KeepsPositions, KeepsTables}
use Rattle.book.proofs.Charging.{map-each, get_each, get_or-each, length-each}
use Rattle.book.proofs.CloseRows.{expiry-row}
use Rattle.book.proofs.Entering.{account-count}
use Rattle.book.proofs.Marking.{day-told, month-count}
use Rattle.book.proofs.Opening.{map-map, get_map}

-- ---- prices

-- the settlement price of a month that is listed
settlement-told : (w : World) (h : History) (t : Tables) (m : ℕ) (row : MonthRow) → KeepsTables w h t → slice_get t.months m ≡ Some row
    → (priced (session_day h) row).latest ≡ settlement_price w h m
settlement-told w h t m row k at =
    let was = k.months.each m row at in
    let here : is_listed h m ≡ true = let i = slice_get_within t.months m row at in let n = month-count h w t.months k.months in grind (arith, nat_tests) in
    rw (here, expiry-row w h t m row k at, was.mark) refl

-- before the first close nothing is corrected
corrected-told : (w : World) (rates : ℕ → Option ℕ) (d m : ℕ) (ss : List Session) → corrected (newest_price m ss) (factors rates (gap_to w d ss)) ≡ corrected_to w rates d ss m
corrected-told w rates d m [] = corrected-none 0
corrected-told w rates d m (s ∷ ss) = refl

-- ---- what is written

same-over : {Y : Type 0} (f g : ℕ → List Y) (n i : ℕ) → ((m : ℕ) → i ≤ m → m < i + n → f m ≡ g m) → flat_map f (range_with_len i n) ≡ flat_map g (range_with_len i n)
same-over f g zero i same = refl
same-over f g (suc n) i same =
    let here = same i (omega arith) (omega arith) in
    let rest = same-over f g n (i + 1) (λ m from below. same m (omega arith) (omega arith)) in
    λ x. here x ++ rest x

-- amounts that are the same in each cell are written the same
written-same : (n k : ℕ) (f g : ℕ → ℕ → ℤ) (old : List ℤ) → ((a m : ℕ) → a < n → m < k → f a m ≡ g a m) → rows.written_to n k f old ≡ rows.written_to n k g old
written-same n k f g old same =
    ap (λ xs. xs ++ drop (n * k) old)
    (same-over (λ a. rows.row_of k (f a)) (λ a. rows.row_of k (g a)) n 0
    (λ a _ la.
    sym (flat_map_single (f a) (range_with_len 0 k))
    ∙ same-over (λ m. f a m ∷ []) (λ m. g a m ∷ []) k 0 (λ m _ lm. ap (λ z. z ∷ []) (same a m (omega arith) (omega arith)))
    ∙ flat_map_single (g a) (range_with_len 0 k)))

-- the row of an account
row-stands : (k : ℕ) (f : ℕ → ℕ → ℤ) (rest : List ℤ) (n b a : ℕ) → a < n
    → take k (drop (a * k) (flat_map (λ i. rows.row_of k (f i)) (range_with_len b n) ++ rest)) ≡ rows.row_of k (f (b + a))
row-stands k f rest zero b a below = absurd (omega arith)
row-stands k f rest (suc n) b zero below =
    let width = length-map-range_with_len (f b) 0 k in
    let others = flat_map (λ i. rows.row_of k (f i)) (range_with_len (b + 1) n) ++ rest in
    rw (zero-mul, append_assoc)
    (ap (λ i. take i (rows.row_of k (f b) ++ others)) (sym width) ∙ take-append_seam (rows.row_of k (f b)) others ∙ ap (λ i. rows.row_of k (f i)) (let e : b ≡ b + zero = omega arith in e))
row-stands k f rest (suc n) b (suc a) below =
    let width = length-map-range_with_len (f b) 0 k in
    let others = flat_map (λ i. rows.row_of k (f i)) (range_with_len (b + 1) n) ++ rest in
    let s = suc-mul a k in
    let past : suc a * k ≡ length (rows.row_of k (f b)) + a * k = omega arith in
    rw (past, append_assoc)
    (ap (take k) (drop-append-add (rows.row_of k (f b)) others (a * k)) ∙ row-stands k f rest n (b + 1) a (omega arith)
    ∙ ap (λ i. rows.row_of k (f i)) (let e : b + 1 + a ≡ b + suc a = omega arith in e))

total-map : {X : Type 0} (f : X → ℤ) (xs : List X) → total (λ z. z) (map f xs) ≡ total f xs
total-map f [] = refl
total-map f (x ∷ xs) = ap (λ z. f x +ℤ z) (total-map f xs)

-- the amounts of an account, added up
row-total : (n k a : ℕ) (f : ℕ → ℕ → ℤ) (old : List ℤ) → a < n → total (λ z. z) (take k (drop (a * k) (rows.written_to n k f old))) ≡ total (f a) (range_with_len 0 k)
row-total n k a f old below =
    ap (total (λ z. z)) (row-stands k f (drop (n * k) old) n 0 a below ∙ ap (λ i. rows.row_of k (f i)) (let e : 0 + a ≡ a = omega arith in e)) ∙ total-map (f a) (range_with_len 0 k)

-- a position within the limit counts as it is
within-limit : (position : ℤ) → unsigned_abs position ≤ 500000 → within_limit position ≡ position
within-limit position few = grind (arith, nat_tests)

module _ (w : World) (h : History) (t : Tables) (bounded : RatesLimited (rate_on w h)) (l : Lawful w h) (k : KeepsTables w h t) where
  pub prices-told : (m : ℕ) (row : MonthRow) → slice_get t.months m ≡ Some row
      → prices_over (rate_on w h) (day_in t) (gap_in w.kinds t) row ≡ record { settlement = settlement_price w h m; corrected = corrected_to w (rate_on w h) (session_day h) (sessions_of w h) m }
  prices-told m row at =
      let day = sym (day-told w h t k) in
      let latest = (k.months.each m row at).latest in
      let few = corrected-limited w h m l bounded in
      let whole : price_in_32_bits (corrected_to w (rate_on w h) (session_day h) (sessions_of w h) m) ≡ corrected_to w (rate_on w h) (session_day h) (sessions_of w h) m = omega arith in
      rw (day, k.session.closed, latest, corrected-told w (rate_on w h) (session_day h) m (sessions_of w h), whole, settlement-told w h t m row k at) refl

  -- the adjustments of the accounts and months of the book
  adjustment-told : (prices : List MonthPrices) (d a m : ℕ) → prices ≡ map (prices_over (rate_on w h) (day_in t) (gap_in w.kinds t)) t.months
      → open_session h ≡ Some d → a < length (accounts_of h) → m < length (months_of h)
      → adjustment_in t.session.trades prices t.positions a m ≡ (amounts_at_close w h).adjustments a m
  adjustment-told prices d a m is opens la lm =
      let most = tables-limited w h l in
      let trades = k.session.trades in
      let position : position_in t.positions a m ≡ position_of w h a m =
      ap within_limit (k.positions.each a m (omega (arith, most.0)) (omega (arith, most.1))) ∙ within-limit (position_of w h a m) (positions-limited w h a m l) in
      let carried : carried_in a m t.session.trades (position_in t.positions a m) ≡ carried_of w h a m =
      (λ i. carried_in a m (trades i) (position i)) ∙ sym (carried-before w h d a m l opens) in
      elim (slice_get_cases t.months m).1 [
        | inl row ↦
            let x : prices_of prices m ≡ record { settlement = settlement_price w h m; corrected = corrected_to w (rate_on w h) (session_day h) (sessions_of w h) m } =
            ap (λ ps. prices_of ps m) is ∙ get_or-map (prices_over (rate_on w h) (day_in t) (gap_in w.kinds t)) t.months m row.0 no_prices row.1
            ∙ ap (prices_over (rate_on w h) (day_in t) (gap_in w.kinds t)) row.3 ∙ prices-told m row.0 row.2 in
            (λ i. adjustment_of a m (x i).settlement (trades i) (carried_in a m (trades i) (position i)) (x i).corrected)
            ∙ sym (adjustment-seen w h d a m l opens) ∙ sym (in-book h (adjustment_at w h) a m (la, lm))
        | inr past ↦ absurd (omega (arith, month-count h w t.months k.months, past.0))
      ]

  pub adjusted-told : (prices : List MonthPrices) (d : ℕ) (old : List ℤ) → prices ≡ map (prices_over (rate_on w h) (day_in t) (gap_in w.kinds t)) t.months
      → open_session h ≡ Some d
      → rows.written_to (length t.accounts) (length t.months) (adjustment_in t.session.trades prices t.positions) old ≡ written_to h (amounts_at_close w h).adjustments old
  adjusted-told prices d old is opens =
      let n = account-count h t.accounts k.accounts in
      let months = month-count h w t.months k.months in
      rw (n, months) (written-same _ _ _ _ old (λ a m la lm. adjustment-told prices d a m is opens la lm))

  pub day_traded-told : (old : List ℤ) → rows.written_to (length t.accounts) (length t.months) (λ a m. day_trade a m t.session.trades) old ≡ written_to h (amounts_at_close w h).day_trades old
  day_traded-told old =
      let n = account-count h t.accounts k.accounts in
      let months = month-count h w t.months k.months in
      rw (n, months, k.session.trades) (written-same _ _ _ _ old (λ a m la lm. sym (in-book h (λ a m. day_trade a m (trades_of h)) a m (la, lm))))

-- ---- the tables afterwards

-- what is due fits in 64 bits
due-fits : (due sum written : ℤ) → due ≡ pos 0 → sum ≡ written → unsigned_abs written ≤ 160000000000000 → int_wrap w64 (due +ℤ int_wrap w64 sum) ≡ written
due-fits due sum written none is few =
    let fits : int_wrap w64 written ≡ written = int_wrap_fits w64 written (fits_signed_from_abs w64 written (omega arith)) in
    let zero_due : pos 0 +ℤ written ≡ written = omega (arith, ints) in
    rw (none, is, fits, zero_due, fits) refl

module _ (w : World) (h : History) (t : Tables) (limited : RatesLimited (rates_of w.source)) (k : KeepsTables w h t) (l : Lawful w (Closed (amounts_at_close w h) ∷ h)) where
  abbrev c : Amounts
  c = amounts_at_close w h

  accounts-close : (old : List ℤ) → KeepsAccounts (Closed c ∷ h) (accounts_after (length t.months) (written_to h c.adjustments old) t.accounts)
  accounts-close old = record {
    accounts = map-each (λ a row. with_more_due _ row) (λ row. row.account) (λ a row. refl) t.accounts 0 ∙ k.accounts.accounts;
    amounts = λ a row at.
        let was = get_each (λ a row. with_more_due (int_wrap w64 (total (λ z. z) (take (length t.months) (drop (a * length t.months) (written_to h c.adjustments old))))) row) t.accounts 0 a a row (omega arith) at in
        let now = k.accounts.amounts a was.0 was.1 in
        let none = nothing-due w h c a l in
        let moved = dues-move.closed h c a in
        let months = month-count h w t.months k.months in
        let inside = slice_get_within t.accounts a was.0 was.1 in
        let sum : total (λ z. z) (take (length t.months) (drop (a * length t.months) (written_to h c.adjustments old))) ≡ written_for a c =
        rw months (row-total (length (accounts_of h)) (length (months_of h)) a c.adjustments old (omega (arith, account-count h t.accounts k.accounts)))
        ∙ sym (listed-written w h a (tables-limited w h l.1).1) in (
          ap (λ (r : AccountRow). r.paid) was.2 ∙ now.0 ∙ sym moved.1,
          ap (λ (r : AccountRow). r.due) was.2 ∙ due-fits was.0.due _ (written_for a c) (now.1 ∙ none) sum ((close-within w h c limited l).together a) ∙ sym (moved.0 ∙ rw none (omega (arith, ints))),
        );
  }

  months-close : KeepsMonths w (Closed c ∷ h) (map (priced (session_day h)) t.months)
  months-close = record {
    numbers = map-map (priced (session_day h)) (λ row. row.number) (λ row. refl) t.months ∙ k.months.numbers;
    each = λ m row at.
        let x = get_map (priced (session_day h)) t.months m row at in
        let was = k.months.each m x.0 x.1 in
        rw x.2 (record { expiry = was.expiry; days = λ d opens. absurd cc; mark = was.mark; latest = settlement-told w h t m x.0 k x.1 });
  }

  expired-told : (m : ℕ) → has_expired (day_in t) t.months m ≡ is_expired w h m
  expired-told m = elim (slice_get_cases t.months m).1 [
    | inl row ↦
        let here : is_listed h m ≡ true = let i = row.1 in let n = month-count h w t.months k.months in grind (arith, nat_tests) in
        rw (here, expiry-row w h t m row.0 k row.2, day-told w h t k, row.2) refl
    | inr past ↦
        let none : is_listed h m ≡ false = let i = past.0 in let n = month-count h w t.months k.months in grind (arith, nat_tests) in
        rw (none, past.1) refl
  ]

  positions-close : KeepsPositions w (Closed c ∷ h) (positions_after (day_in t) t.months t.positions)
  positions-close = record {
    whole = length-each _ t.positions 0 ∙ k.positions.whole;
    each = λ a m few listed.
        let inside : place_of a m < length t.positions = omega (arith, k.positions.whole) in
        let month : place_of a m % 16 ≡ m = omega arith in
        get_or-each (λ i z. cond (has_expired (day_in t) t.months (i % 16)) (pos 0) z) t.positions 0 (place_of a m) (place_of a m) (pos 0) (omega arith) inside
        ∙ rw (month, expired-told m, k.positions.each a m few listed) (sym (positions-move.close w h c a m l));
  }

  pub tables-close : (old : List ℤ) → KeepsTables w (Closed c ∷ h) (after_close (day_in t) (accounts_after (length t.months) (written_to h c.adjustments old) t.accounts) (positions_after (day_in t) t.months t.positions) t)
  tables-close old =
      let day = day-told w h t k in
      record {
        number = k.number;
        start = k.start;
        accounts = accounts-close old;
        months = rw (← day) months-close;
        positions = positions-close;
        session = record { latest = k.session.latest; opens = refl; closed = ap Some (sym day); unpaid = ap Some (sym day); trades = k.session.trades };
      }
