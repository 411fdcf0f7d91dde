-- Day factors of DI rates, and prices of dealt rates, by the root of what a year at the rate makes of 1.
use Rattle.std.specs.Prelude.{◌≡◌, ℕ, zero, suc, ◌+◌, ◌*◌, ◌/◌, ◌%◌, ◌≤◌}
use Rattle.interest.specs.Power.{power_of, Root, root_of}
use Rattle.interest.specs.declared.di_rates.TheConstants.{MAX_DI_RATE}
use Rattle.interest.specs.declared.prices.TheConstants.{MAX_DEALT_RATE, MAX_RESERVE_DAYS}

-- the day factor by the root f, rounded to 10^-8
abbrev pub day_factor_by : ℕ → ℕ
day_factor_by f = (f + 5) / 10

-- what is left of w after y years of discount at r thousandths of a percent
unfoldable pub after_years : ℕ → ℕ → ℕ → ℕ
after_years r zero w = w
after_years r (suc y) w = after_years r y w * 100000 / (100000 + r)

-- the worth of 100,000 points, in units of 10^-9 of a point, after m days by the root f
unfoldable pub after_days : ℕ → ℕ → ℕ
after_days f m = 10000000000000000000 / power_of f m * 10000

-- the price by the root f of r thousandths of a percent over n reserve days, rounded to hundredths of a point
abbrev pub trade_price_by : ℕ → ℕ → ℕ → ℕ
trade_price_by f r n = (after_years r (n / 252) (after_days f (n % 252)) + 5000000) / 10000000

-- the same as functions, for other definitions to cite: by the computed root, which is the only one
unfoldable pub day_factor : ℕ → ℕ
day_factor d = day_factor_by (root_of (1000000000 + 10 * d))

unfoldable pub trade_price : ℕ → ℕ → ℕ
trade_price r n = trade_price_by (root_of (1000000000 + 10000 * r)) r n

-- g is the day factor of the DI rate d, in millionths of a percent
pub record DayFactor (d g : ℕ) : Type 0 where
  pub within : d ≤ MAX_DI_RATE
  pub by_root : (f : ℕ) × (Root (1000000000 + 10 * d) f × (g ≡ day_factor_by f))
  pub value : g ≡ day_factor d
  pub least : 100000000 ≤ g
  pub most : g ≤ 100275437

-- p is the price of the dealt rate r, in thousandths of a percent, over n reserve days
pub record TradePrice (r n p : ℕ) : Type 0 where
  pub rate : r ≤ MAX_DEALT_RATE
  pub days : n ≤ MAX_RESERVE_DAYS
  pub by_root : (f : ℕ) × (Root (1000000000 + 10000 * r) f × (p ≡ trade_price_by f r n))
  pub value : p ≡ trade_price r n
  pub least : 1 ≤ p
  pub most : p ≤ 10000000
