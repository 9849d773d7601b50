-- The hash of two texts one after the other, and as a fold. Assumes nothing.
use Prim.Native.Nat.{ℕ}
use mathlib.Core.Path.{◌≡◌, refl}
use mathlib.Core.List.{List, [], ◌∷◌, ◌++◌}
use Rattle.std.specs.List.{fold}
use Rattle.fnv1a.specs.Fnv1a.{step, more}

pub more_append : (h : ℕ) (a b : List ℕ) → more h (a ++ b) ≡ more (more h a) b
unfolding more
more_append h [] b = refl
more_append h (x ∷ a) b = more_append (step h x) a b

pub more_folded : (h : ℕ) (s : List ℕ) → fold step h s ≡ more h s
unfolding more
more_folded h [] = refl
more_folded h (b ∷ s) = more_folded (step h b) s
