-- Signs put on and taken off. Assumes nothing.
use Rattle.std.proofs.Common.{◌≡◌, ℕ, ◌-◌, ◌^◌, ◌<◌, Bool, true, false, cond, refl, arith}
use Rattle.word.specs.Word.{sign, magnitude, signed}

pub signed-zero : (s : Bool) → signed s 0 ≡ 0
unfolding signed
signed-zero true = refl
signed-zero false = refl

put_back : (s : Bool) (x : ℕ) → x < 2 ^ 64 → s ≡ sign x → signed s (cond s (2 ^ 64 - x) x) ≡ x
unfolding signed
put_back true x h e = omega arith
put_back false x h e = refl

pub signed-magnitude : (x : ℕ) → x < 2 ^ 64 → signed (sign x) (magnitude x) ≡ x
unfolding magnitude
signed-magnitude x h = put_back (sign x) x h refl
