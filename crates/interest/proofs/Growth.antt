-- The power grows with the factor, and from 10^9 on with the exponent.
use Rattle.std.proofs.Common.{◌≡◌, ℕ, zero, suc, ◌+◌, ◌-◌, ◌*◌, ◌/◌, ◌≤◌, refl, le_trans, add-zero, add-suc, add-one, mul-le-mul, mul-le-mul_left, arith, lit≤}
use Rattle.interest.specs.Power.{power_of}

pub power_zero : (f : ℕ) → power_of f 0 ≡ 1000000000
unfolding power_of
power_zero f = refl

pub power-suc : (f k : ℕ) → power_of f (suc k) ≡ power_of f k * f / 1000000000
unfolding power_of
power-suc f k = refl

pub power-next : (f k : ℕ) → power_of f (k + 1) ≡ power_of f k * f / 1000000000
power-next f k = rw add-one (power-suc f k)

quotient-mono : (m n : ℕ) → m ≤ n → m / 1000000000 ≤ n / 1000000000
quotient-mono m n h = omega arith

pub power-mono : (f g k : ℕ) → f ≤ g → power_of f k ≤ power_of g k
unfolding power_of
power-mono f g zero h = lit≤ tt
power-mono f g (suc k) h = quotient-mono (power_of f k * f) (power_of g k * g) (mul-le-mul (power-mono f g k h) h)

-- one time more never takes away
pub power-step : (f k : ℕ) → 1000000000 ≤ f → power_of f k ≤ power_of f (suc k)
unfolding power_of
power-step f k h = let m : power_of f k * 1000000000 ≤ power_of f k * f = mul-le-mul_left (power_of f k) h in omega arith

pub power-least : (f k : ℕ) → 1000000000 ≤ f → 1000000000 ≤ power_of f k
power-least f zero h = omega (arith, power_zero f)
power-least f (suc k) h = omega (arith, power-least f k h, power-step f k h)

power-more : (f k j : ℕ) → 1000000000 ≤ f → power_of f k ≤ power_of f (k + j)
power-more f k zero h = rw add-zero (omega arith)
power-more f k (suc j) h = rw add-suc (le_trans (power-more f k j h) (power-step f (k + j) h))

pub power-longer : (f k j : ℕ) → 1000000000 ≤ f → k ≤ j → power_of f k ≤ power_of f j
power-longer f k j h l = let e : k + (j - k) ≡ j = omega arith in rw e at (power-more f k (j - k) h)

top : power_of 1004194304 252 ≤ 3000000000
unfolding power_of
top = lit≤ tt

-- no power in the range passes 3 * 10^9
pub power-most : (f k : ℕ) → 1000000000 ≤ f → f ≤ 1004194304 → k ≤ 252 → power_of f k ≤ 3000000000
power-most f k h l m = le_trans (power-longer f k 252 h m) (le_trans (power-mono f 1004194304 252 l) top)

pub ruleset powers = (power_zero, power-next, power-most)
