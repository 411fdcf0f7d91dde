-- Powers of a factor with nine decimals, where 10^9 means 1, and the root of 252.
use Rattle.std.specs.Prelude.{◌≡◌, ℕ, zero, suc, ◌+◌, ◌*◌, ◌/◌, ◌^◌, ◌≤◌, cond, nat_le}
use Rattle.interest.specs.declared.powers.TheConstants.{MAX_FACTOR}

-- from 10^9 on, so many times: times the factor, by 10^9, fraction dropped
unfoldable pub power_of : ℕ → ℕ → ℕ
power_of f zero = 1000000000
power_of f (suc k) = power_of f k * f / 1000000000

-- f is the greatest number from 10^9 on whose power to 252 is at most t
pub record Root (t f : ℕ) : Type 0 where
  pub from : 1000000000 ≤ f
  pub under : power_of f 252 ≤ t
  pub greatest : (g : ℕ) → power_of g 252 ≤ t → g ≤ f

-- the same, computed: the bits of f - 10^9 from the top one down
unfoldable pub climb : ℕ → ℕ → ℕ → ℕ
climb t zero f = f
climb t (suc b) f = climb t b (cond (nat_le (power_of (f + 2 ^ b) 252) t) (f + 2 ^ b) f)

unfoldable pub root_of : ℕ → ℕ
root_of t = climb t 22 1000000000

-- the factors that are raised
abbrev pub FactorRange : ℕ → Type 0
FactorRange f = (1000000000 ≤ f) × (f ≤ MAX_FACTOR)

-- the factors and exponents of which a power is answered
abbrev pub PowerRange : ℕ → ℕ → Type 0
PowerRange f k = FactorRange f × (k ≤ 252)

-- the targets of which a root is answered
abbrev pub RootRange : ℕ → Type 0
RootRange t = (1000000000 ≤ t) × (t ≤ 2000000000)

-- the powers of a factor and of the next one to k
abbrev pub NeighbourPowers : ℕ → ℕ → ℕ → ℕ → Type 0
NeighbourPowers f k lower upper = (lower ≡ power_of f k) × (upper ≡ power_of (f + 1) k)
