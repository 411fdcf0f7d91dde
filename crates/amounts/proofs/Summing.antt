-- The running sums of a session with no trade, and with one more.
use Rattle.std.proofs.Common.{◌≡◌, ◌^◌, ℕ, ◌*◌, ◌<◌, ◌≤◌, List, [], ◌∷◌, ◌++◌, length, get_or, replicate, refl, ◌∙◌, ap, arith}
use Rattle.std.proofs.ByRecursion.{All-push}
use Rattle.std.proofs.lemmas.List.{length_push}
use Rattle.amounts.specs.DayTrades.{contract_prices}
use Rattle.amounts.specs.SideSums.{IsSideSum, AreSums, no_sum, cell_of, sum_with, table_with, HasRoomFor}
use Rattle.amounts.specs.Tables.{EachCell}
use Rattle.amounts.specs.Trades.{party_of, Limited, FitsTables}
use Rattle.amounts.specs.declared.sums.SideSum.{SideSum}
use Rattle.amounts.specs.declared.sums.Sums.{Sums}
use Rattle.amounts.specs.declared.trades.Side.{Side}
use Rattle.amounts.specs.declared.trades.Side.TheVariants.{Bought, Sold}
use Rattle.amounts.specs.declared.trades.Trade.{Trade}
use Rattle.amounts.proofs.Cells.{each-replicate, each-set}
use Rattle.amounts.proofs.ContractPrices.{contracts-own, contracts-other, length-more, sum-more, few-contracts, value-size}

-- ---- no trade

none-on : (s : Side) (n : ℕ) (cells : List SideSum) → n ≡ 512 → cells ≡ replicate n no_sum → EachCell (IsSideSum s []) cells
unfolding contract_prices
none-on s n cells e h = rw h (each-replicate (IsSideSum s []) no_sum n e (λ a m. record { contracts = refl; value = refl }))

pub sums-none : (ts : List Trade) (sums : Sums) → ts ≡ [] → sums.bought ≡ replicate 512 no_sum → sums.sold ≡ replicate 512 no_sum → AreSums ts sums
sums-none ts sums none b s = rw none (record {
  limited = record { few = omega arith; small = tt };
  fitting = tt;
  priced = tt;
  bought = none-on Bought 512 sums.bought refl b;
  sold = none-on Sold 512 sums.sold refl s;
})

-- ---- one more

-- both parties have rows
pub party-within : (s : Side) (t : Trade) → FitsTables t → party_of s t < 32
party-within Bought t w = w.seller
party-within Sold t w = w.buyer

-- with room for one more trade, at a price of 32 bits
module _ (ts : List Trade) (sums : Sums) (t : Trade) (h : AreSums ts sums) (room : length ts < 256) (w : FitsTables t) (price : t.price < 2 ^ 32) where
  limited : Limited (ts ++ t ∷ [])
  limited = record {
    few = omega (arith, length_push ts t);
    small = All-push (λ t. t.contracts ≤ 20000) ts t h.limited.small w.small;
  }

  module _ (s : Side) (cells : List SideSum) (e : EachCell (IsSideSum s ts) cells) where
    before : IsSideSum s ts (party_of s t) t.month (get_or cells (cell_of s t) no_sum)
    before = e.each (party_of s t) t.month no_sum (party-within s t w) w.month

    after : IsSideSum s (ts ++ t ∷ []) (party_of s t) t.month (sum_with s t cells)
    after = record {
      contracts = rw (length-more s (party_of s t) t.month ts t, contracts-own s t, before.contracts);
      value = rw (sum-more s (party_of s t) t.month ts t, contracts-own s t, before.value);
    }

    -- another cell stays as it is
    same : (a m : ℕ) (x : SideSum) → ((a ≡ party_of s t) × (m ≡ t.month) → ⊥) → IsSideSum s ts a m x → IsSideSum s (ts ++ t ∷ []) a m x
    same a m x other h =
        let none = contracts-other s a m t other in
        record {
          contracts = h.contracts ∙ omega (arith, length-more s a m ts t);
          value = h.value ∙ omega (arith, sum-more s a m ts t, ap (λ q. q * t.price) none);
        }

    more-on : EachCell (IsSideSum s (ts ++ t ∷ [])) (table_with s t cells)
    more-on = each-set (IsSideSum s ts) (IsSideSum s (ts ++ t ∷ [])) cells (party_of s t) t.month (sum_with s t cells) e (party-within s t w) w.month after same

    -- the sums of few trades are small
    pub side-room : HasRoomFor s t cells
    side-room =
        let c = after.contracts in
        let v = after.value in
        let few = few-contracts s (party_of s t) t.month (ts ++ t ∷ []) limited in
        let size = value-size s (party_of s t) t.month (ts ++ t ∷ []) (All-push (λ t. t.price < 2 ^ 32) ts t h.priced price) in
        record { contracts = omega arith; value = omega arith }

  pub sums-more : (new : Sums) → new.bought ≡ table_with Bought t sums.bought → new.sold ≡ table_with Sold t sums.sold → AreSums (ts ++ t ∷ []) new
  sums-more new b s = record {
    limited = limited;
    fitting = All-push FitsTables ts t h.fitting w;
    priced = All-push (λ t. t.price < 2 ^ 32) ts t h.priced price;
    bought = rw b (more-on Bought sums.bought h.bought);
    sold = rw s (more-on Sold sums.sold h.sold);
  }
