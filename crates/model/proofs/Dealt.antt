-- The trades accepted so far: their accounts and months are in the book, and they are few and small.
use Rattle.std.proofs.Common.{◌≡◌, ℕ, ◌<◌, ◌≤◌, Bool, true, false, cond, List, [], ◌∷◌, ◌++◌, length, ℤ, pos, ◌+ℤ◌, is_some, Some, None, Option, refl, sym, ap, ◌∙◌, arith}
use borrow.Author.Differences.{ints}
use Rattle.std.specs.List.{AllByRecursion}
use Rattle.std.proofs.lemmas.List.{append-nil, append_assoc, length_push}
use Rattle.std.proofs.ByRecursion.{All-push, All-weaker}
use Rattle.amounts.specs.declared.trades.Trade.{Trade}
use Rattle.amounts.specs.Sums.{total}
use Rattle.amounts.proofs.Totals.{total-append}
use Rattle.model.specs.World.{World}
use Rattle.model.specs.History.{History, Event, Entered, Opened, Traded, Closed, account_entered, month_listed, trade_made, with_last, gather, since, before}
use Rattle.model.specs.Observed.{accounts_of, months_of, open_session, trades_of}
use Rattle.model.specs.Sessions.{Session, sessions_of}
use Rattle.model.specs.Lawful.{Accepts, Lawful}
use Rattle.model.proofs.Allowing.{entering, opening, trading, closing}
use Rattle.model.proofs.EachTrade.{of-latest, of-closed}
use Rattle.model.proofs.Gathering.{length-with_last}

-- what is told is told before an event of a kind or since it, where such an event tells nothing
pub gather-split : {X : Type 0} (tells : Event → Option X) (kind : Event → Bool) → ((e : Event) → kind e ≡ true → tells e ≡ None)
    → (h : History) → gather tells h ≡ gather tells (before kind h) ++ gather tells (since kind h)
gather-split tells kind silent [] = refl
gather-split {X} tells kind silent (e ∷ h) = by (kind e) refl (gather-split tells kind silent h)
  where
    by : (b : Bool) → kind e ≡ b → gather tells h ≡ gather tells (before kind h) ++ gather tells (since kind h)
        → with_last (gather tells h) (tells e) ≡ gather tells (cond b h (before kind h)) ++ gather tells (cond b [] (e ∷ since kind h))
    by true k ih = rw (silent e k) (sym (append-nil (gather tells h)))
    by false k ih = ap (λ xs. with_last xs (tells e)) ih ∙ last (tells e)
      where
        last : (o : Option X) → with_last (gather tells (before kind h) ++ gather tells (since kind h)) o ≡ gather tells (before kind h) ++ with_last (gather tells (since kind h)) o
        last None = refl
        last (Some x) = append_assoc (gather tells (before kind h)) (gather tells (since kind h)) (x ∷ [])

-- a trade between accounts below n, in a month below k, of at most 20,000 contracts
pub record Fits (n k : ℕ) (t : Trade) : Type 0 where
  pub buyer : t.buyer < n
  pub seller : t.seller < n
  pub month : t.month < k
  pub small : t.contracts ≤ 20000

-- the accounts and the month of a trade are in the book
abbrev pub FitsIn : History → Trade → Type 0
FitsIn h t = Fits (length (accounts_of h)) (length (months_of h)) t

-- accounts and months stay
pub fits-stays : (h : History) (e : Event) (t : Trade) → FitsIn h t → FitsIn (e ∷ h) t
fits-stays h e t f =
    let a = length-with_last (accounts_of h) (account_entered e) in
    let m = length-with_last (months_of h) (month_listed e) in
    record { buyer = omega (arith, f.buyer); seller = omega (arith, f.seller); month = omega (arith, f.month); small = f.small }

-- the accounts are few
pub accounts-few : (w : World) (h : History) → Lawful w h → length (accounts_of h) ≤ 32
accounts-few w [] l = omega arith
accounts-few w (Entered x ∷ h) l = let r = entering w h x l.0 in rw (length_push (accounts_of h) x) (omega arith)
accounts-few w (e ∷ h) l = accounts-few w h l.1

-- the trades of a session are few
pub trades-few : (w : World) (h : History) → Lawful w h → length (trades_of h) ≤ 256
trades-few w [] l = omega arith
trades-few w (Opened d ∷ h) l = omega arith
trades-few w (Traded t ∷ h) l = let r = (trading w h t l.0).few in rw (length_push (trades_of h) t) (omega arith)
trades-few w (e ∷ h) l = trades-few w h l.1

-- a trade that is accepted fits
new-fits : (w : World) (h : History) (t : Trade) → Accepts w h (Traded t) → FitsIn h t
new-fits w h t l = let r = trading w h t l in record { buyer = r.buyer; seller = r.seller; month = r.month; small = r.small }

-- all trades so far fit
pub trades-fit : (w : World) (h : History) → Lawful w h → AllByRecursion (FitsIn h) (gather trade_made h)
trades-fit w [] l = tt
trades-fit w (Traded t ∷ h) l =
    All-push (FitsIn (Traded t ∷ h)) (gather trade_made h) t (All-weaker (FitsIn h) (FitsIn (Traded t ∷ h)) (fits-stays h (Traded t)) (gather trade_made h) (trades-fit w h l.1))
    (fits-stays h (Traded t) t (new-fits w h t l.0))
trades-fit w (e ∷ h) l = All-weaker (FitsIn h) (FitsIn (e ∷ h)) (fits-stays h e) (gather trade_made h) (trades-fit w h l.1)

-- and so do those of the latest session, and of each closed session
pub session-fits : (w : World) (h : History) → Lawful w h → AllByRecursion (FitsIn h) (trades_of h)
session-fits w h l = of-latest w (λ k d t. FitsIn k t) (λ k t a. new-fits w k t a.0) (λ k e d t. fits-stays k e t) h l

pub closed-fit : (w : World) (h : History) → Lawful w h → AllByRecursion (λ s. AllByRecursion (FitsIn h) s.trades) (sessions_of w h)
closed-fit w h l = of-closed w (λ k d t. FitsIn k t) (λ k t a. new-fits w k t a.0) (λ k e d t. fits-stays k e t) h l

-- what the trades of a session that is open come to
abbrev pub in_open : (Trade → ℤ) → History → ℤ
in_open f h = cond (is_some (open_session h)) (total f (trades_of h)) (pos 0)

-- what the trades of the closed sessions come to
abbrev pub in_closed : (Trade → ℤ) → List Session → ℤ
in_closed f ss = total (λ s. total f s.trades) ss

adds : (g s o x : ℤ) → g ≡ s +ℤ o → g +ℤ x ≡ s +ℤ (o +ℤ x)
adds g s o x e = omega (arith, ints)

-- all trades are those of the closed sessions and those of the session that is open
pub dealt-split : (w : World) (f : Trade → ℤ) (h : History) → Lawful w h → total f (gather trade_made h) ≡ in_closed f (sessions_of w h) +ℤ in_open f h
dealt-split w f [] l = refl
dealt-split w f (Opened d ∷ h) l =
    let ih = dealt-split w f h l.1 in
    rw (opening w h d l.0) at ih
dealt-split w f (Traded t ∷ h) l =
    let o = (trading w h t l.0).session.is_open in
    let ih = rw o at (dealt-split w f h l.1) in
    rw (o, total-append f (gather trade_made h) (t ∷ []), total-append f (trades_of h) (t ∷ []))
    (adds (total f (gather trade_made h)) (in_closed f (sessions_of w h)) (total f (trades_of h)) (total f (t ∷ [])) ih)
dealt-split w f (Closed c ∷ h) l =
    let o = (closing w h c l.0).session.is_open in
    let ih = rw o at (dealt-split w f h l.1) in
    omega (arith, ints, ih)
dealt-split w f (e ∷ h) l = dealt-split w f h l.1
