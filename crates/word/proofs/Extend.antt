-- Sign extension by two shifts. Assumes nothing.
use Rattle.std.proofs.Common.{◌≡◌, ℕ, ◌+◌, ◌-◌, ◌*◌, ◌/◌, ◌%◌, ◌^◌, ◌<◌, ◌≤◌, Bool, true, false, ltb, sym, refl, ap, ◌∙◌, add-zero, mul-le-mul_right, mod-lt, add-mul, one-mul, arith, pow_pos, pow_mono, pow-add, shl_lt, ltb-false, ltb-true}
use native.Mathlib.Nat.{mul-mod_left}
use lib.Pow.{mod-pow-add, shl-shr, high}
use Rattle.word.specs.Word.{sext, shl, asr}
use Rattle.word.proofs.Laws.{sext_low, sext-high, asr_positive, asr_negative}

-- j + 1 bits, shifted up by s and down again; r is the low bits
module _ (x j s : ℕ) (e : j + 1 + s ≡ 64) where
  up : shl x s ≡ x % 2 ^ (j + 1) * 2 ^ s
  up = rw e at (rw (shl-shr x s, mul-mod_left x (2 ^ s), add-zero) at (mod-pow-add (x * 2 ^ s) (j + 1) s))

  by : (b : Bool) → ltb (x % 2 ^ (j + 1)) (2 ^ j) ≡ b → asr (shl x s) s ≡ sext (j + 1) x
  by true t =
      let r = x % 2 ^ (j + 1) in
      let k : j + s ≡ 63 = omega arith in
      let h : r * 2 ^ s < 2 ^ 63 = rw k at (shl_lt j s (ltb-true r (2 ^ j) t)) in
      rw (up, asr_positive (r * 2 ^ s) s h, shl-shr r s) (sym (sext_low x j (omega arith) (ltb-true r (2 ^ j) t)))
  by false t =
      let r = x % 2 ^ (j + 1) in
      let k : j + s ≡ 63 = omega arith in
      let h : 2 ^ 63 ≤ r * 2 ^ s =
      rw (← pow-add 2 j s, k) at (mul-le-mul_right (2 ^ s) (ltb-false r (2 ^ j) t)) in
      let l : r < 2 ^ (j + 1) = mod-lt x (pow_pos (j + 1)) in
      let q = 2 ^ (j + 1) - 1 - r in
      let p : 2 ^ (j + 1) ≡ q + 1 + r = omega arith in
      let v : 2 ^ 64 ≡ q * 2 ^ s + 2 ^ s + r * 2 ^ s =
      rw e at (pow-add 2 (j + 1) s) ∙ ap (λ (n : ℕ). n * 2 ^ s) p ∙ simp (add-mul, one-mul) refl in
      let z : 0 < 2 ^ s = pow_pos s in
      let d : 2 ^ 64 - 1 - r * 2 ^ s ≡ q * 2 ^ s + (2 ^ s - 1) = omega arith in
      let g : (q * 2 ^ s + (2 ^ s - 1)) / 2 ^ s ≡ q = high q s (omega arith) in
      let w : 2 ^ (j + 1) ≤ 2 ^ 64 = pow_mono {j = 64} (omega arith) in
      rw (up, asr_negative (r * 2 ^ s) s h, d, g, sext-high x j (omega arith) (ltb-false r (2 ^ j) t)) (omega arith)

pub by_shifts : (x k s : ℕ) → 1 ≤ k → k + s ≡ 64 → asr (shl x s) s ≡ sext k x
by_shifts x k s h e =
    let k' : k - 1 + 1 ≡ k = omega arith in
    rw k' at (by x (k - 1) s (omega arith) (ltb (x % 2 ^ (k - 1 + 1)) (2 ^ (k - 1))) refl)
