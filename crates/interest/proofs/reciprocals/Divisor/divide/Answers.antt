use Rattle.std.proofs.Common.{◌≡◌, ℕ, ◌+◌, ◌-◌, ◌*◌, ◌^◌, ◌<◌, ◌≤◌, sym, mul-le-mul_left, mul-le-mul_right, arith}
use Rattle.std.proofs.Math.Nat.{div-eq_of_lt-le, div-mul-le_self, lt-mul-div-succ}
use Rattle.interest.specs.declared.reciprocals.Divisor.{Divisor}
use Rattle.interest.proofs.reciprocals.Divisor.divide.Goals as goal

-- the high word of d by a reciprocal is at most the quotient
high-most : (s : Divisor) (d lo hi : ℕ) → lo + hi * 2 ^ 64 ≡ d * s.reciprocal + 0 → hi * s.number ≤ d
high-most s d lo hi p =
    let a : s.reciprocal * s.number ≤ 2 ^ 64 - 1 = rw s.exact (div-mul-le_self (2 ^ 64 - 1) s.number) in
    let b : hi * 2 ^ 64 ≤ d * s.reciprocal = omega arith in
    omega (arith, mul-le-mul_left d a, mul-le-mul_right s.number b)

-- and at least one less
high-least : (s : Divisor) (d lo hi : ℕ) → d < 2 ^ 64 → lo < 2 ^ 64 → lo + hi * 2 ^ 64 ≡ d * s.reciprocal + 0 → d < (hi + 2) * s.number
high-least s d lo hi f l p =
    let z = s.positive in
    let a : 2 ^ 64 - 1 < s.number * (s.reciprocal + 1) = rw s.exact (lt-mul-div-succ (2 ^ 64 - 1) z) in
    let b : 2 ^ 64 ≤ s.number * s.reciprocal + s.number = omega arith in
    let g : d * s.reciprocal + 1 ≤ (hi + 1) * 2 ^ 64 = omega arith in
    omega (arith, mul-le-mul_left d b, mul-le-mul_right s.number g, mul-le-mul_right s.number f)

pub overflow_mul-near : goal.overflow_mul-near
overflow_mul-near c = let h = high-most c.args.self c.args.dividend _ _ c.carrying_mul-near.ensures in omega arith

pub overflow_sub-dividend : goal.overflow_sub-dividend
overflow_sub-dividend c = high-most c.args.self c.args.dividend _ _ c.carrying_mul-near.ensures

pub returns-then-dividend-near : goal.returns-then-dividend-near
returns-then-dividend-near c =
    let h = high-most c.args.self c.args.dividend _ _ c.carrying_mul-near.ensures in
    sym (div-eq_of_lt-le c.args.self.number h (omega arith))

pub returns-else-dividend-near : goal.returns-else-dividend-near
returns-else-dividend-near c =
    let h = high-most c.args.self c.args.dividend _ _ c.carrying_mul-near.ensures in
    let l = high-least c.args.self c.args.dividend _ _ (omega arith) (omega arith) c.carrying_mul-near.ensures in
    sym (div-eq_of_lt-le c.args.self.number (omega arith) (omega arith))
