-- How great a gain is, and that it is exact in 64 bits.
use Rattle.std.proofs.Common.{ℕ, ◌*◌, ◌^◌, ◌<◌, ◌≤◌, ℤ, pos, ◌-ℤ◌, nat_abs, ◌≡◌, ◌*ℤ◌, ap, ◌∙◌, mul-le-mul_left, arith, w64, SFits, to_z, of_z}
use Rattle.std.proofs.lemmas.Int.{ints, to_z-of_z}
use Rattle.amounts.specs.Amounts.{gain_of}
use Rattle.interest.proofs.Ring.{abs-mul}

-- prices differ by less than 2 ^ 32
pub gain-size : (z : ℤ) (a b : ℕ) → a < 2 ^ 32 → b < 2 ^ 32 → nat_abs (gain_of z a b) ≤ nat_abs z * 4294967296
unfolding gain_of
gain-size z a b h k =
    let d : nat_abs (pos a -ℤ pos b) ≤ 4294967296 = omega (arith, ints) in
    omega (arith, abs-mul z (pos a -ℤ pos b), mul-le-mul_left (nat_abs z) d)

module _ (z : ℤ) (a b : ℕ) (small : nat_abs z ≤ 10740000) (h : a < 2 ^ 32) (k : b < 2 ^ 32) where
  gain-fits : SFits w64 (gain_of z a b)
  gain-fits = let s = gain-size z a b h k in omega (arith, ints)

  -- the operands, to their bits and back
  gain-bits : to_z w64 (of_z w64 z) *ℤ to_z w64 (of_z w64 (to_z w64 a -ℤ to_z w64 b)) ≡ gain_of z a b
  unfolding gain_of
  gain-bits =
      let l : to_z w64 (of_z w64 z) ≡ z = omega (arith, ints) in
      let r : to_z w64 (of_z w64 (to_z w64 a -ℤ to_z w64 b)) ≡ pos a -ℤ pos b = omega (arith, ints) in
      cc

  pub gain-exact : to_z w64 (of_z w64 (to_z w64 (of_z w64 z) *ℤ to_z w64 (of_z w64 (to_z w64 a -ℤ to_z w64 b)))) ≡ gain_of z a b
  gain-exact = ap (λ x. to_z w64 (of_z w64 x)) gain-bits ∙ to_z-of_z w64 (gain_of z a b) gain-fits
