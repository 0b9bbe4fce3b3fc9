-- Numbers of a few digits.
use Rattle.std.proofs.Common.{◌≡◌, ℕ, ◌+◌, ◌*◌, ◌^◌, ◌<◌, ◌≤◌, refl, arith}
use Rattle.std.proofs.Math.Nat.{pow-succ', pow-le-pow_right}
use Rattle.std.proofs.Math.Numerals.{add-one}

pub power_more : (i : ℕ) → 16 ^ (i + 1) ≡ 16 * 16 ^ i
power_more i = rw (add-one, pow-succ' 16 i) refl

pub power_small : (i : ℕ) → i < 8 → 16 ^ i ≤ 268435456
power_small i h = let le : 16 ^ i ≤ 16 ^ 7 = pow-le-pow_right (omega arith) {i = i} {j = 7} (omega arith) in le
