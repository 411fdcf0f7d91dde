use Rattle.std.proofs.Common.{◌≡◌, ℕ, ◌+◌, ◌-◌, ◌*◌, ◌/◌, ◌^◌, ◌<◌, ◌≤◌, mul-le-mul_left, arith}
use Rattle.interest.proofs.reciprocals.Multiplier.multiply.Goals as goal

-- r times 1 and x is r and the high word of r times x's parts
product-high : (r x e lo hi : ℕ) → e ≡ x * 2 ^ 64 / 1000000000 + 1 → r ≤ 3000000000 → lo < 2 ^ 64 → lo + hi * 2 ^ 64 ≡ r * e
    → r + hi ≡ r * (x + 1000000000) / 1000000000
product-high r x e lo hi h m l p =
    let least : x * 2 ^ 64 ≤ e * 1000000000 = omega arith in
    let most : e * 1000000000 ≤ x * 2 ^ 64 + 1000000000 = omega arith in
    omega (arith, mul-le-mul_left r least, mul-le-mul_left r most)

pub returns : goal.returns
returns c =
    let f = c.args.self.factor in
    let l : c.carrying_mul.result.0 < 2 ^ 64 = omega arith in
    let e : (f - 1000000000) + 1000000000 ≡ f = omega arith in
    let h : c.carrying_mul.result.0 + c.carrying_mul.result.1 * 2 ^ 64 ≡ c.args.power * c.args.self.excess = omega arith in
    rw e at (product-high c.args.power (f - 1000000000) c.args.self.excess c.carrying_mul.result.0 c.carrying_mul.result.1 c.args.self.exact c.requires l h)
