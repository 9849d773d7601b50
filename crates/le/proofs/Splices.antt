-- Laws of bytes written over others. Assumes nothing.
use mathlib.Core.Path.{◌≡◌, refl, sym, ◌∙◌}
use mathlib.Core.List.{List, [], ◌++◌, append_assoc}
use Prim.Native.Nat.{ℕ, ◌+◌, ◌-◌, ◌≤◌}
use native.Mathlib.Nat.{add_assoc, add-zero}
use native.Mathlib.Omega.{arith}
use lib.ListN.{length, take, drop, length-append, length-take, length-drop, take-append-drop}
use lib.Seq.{take_at, drop_at, drop-append-add, drop-drop, length-take-le, take-append-le, drop-append-le}
use Rattle.le.specs.Le.{splice}

pub splice-append : (m : List ℕ) (at : ℕ) (s t : List ℕ) → at ≤ length m
    → splice (splice m at s) (at + length s) t ≡ splice m at (s ++ t)
unfolding splice
splice-append m at s t h =
    let p = take at m ++ s in
    let d = drop (at + length s) m in
    let l : length p ≡ at + length s = length-append (take at m) s ∙ rw (length-take-le at m h) in
    let e : take at m ++ (s ++ d) ≡ p ++ d = sym (append_assoc (take at m) s d) in
    let z : drop (at + length s + length t) (p ++ d) ≡ drop (length t) d = rw l at (drop-append-add p d (length t)) in
    rw (
      e,
      take_at p d (at + length s) l,
      z,
      drop-drop (length t) (at + length s) m,
      length-append s t,
      ← add_assoc at (length s) (length t),
    )
    (simp append_assoc)

pub splice_nothing : (m : List ℕ) (at : ℕ) → splice m at [] ≡ m
unfolding splice
splice_nothing m at = rw (add-zero at) (take-append-drop at m)

module _ (m : List ℕ) (at : ℕ) (s : List ℕ) (h : at + length s ≤ length m) where
  pub length-splice : length (splice m at s) ≡ length m
  unfolding splice
  length-splice = simp (length-append, length-take, length-drop) (omega arith)

  pub splice_there : take (length s) (drop at (splice m at s)) ≡ s
  unfolding splice
  splice_there =
      let r = drop (at + length s) m in
      rw (drop_at (take at m) (s ++ r) at (length-take-le at m (omega arith))) (take_at s r (length s) refl)

  pub splice-after : (i : ℕ) → at + length s ≤ i → drop i (splice m at s) ≡ drop i m
  unfolding splice
  splice-after i g =
      let n = at + length s in
      let p = take at m ++ s in
      let l : length p ≡ n = length-append (take at m) s ∙ rw (length-take-le at m (omega arith)) in
      let e : i ≡ n + (i - n) = omega arith in
      let f : take at m ++ (s ++ drop n m) ≡ p ++ drop n m = sym (append_assoc (take at m) s (drop n m)) in
      rw (f, e, ← drop-drop (i - n) n (p ++ drop n m), drop_at p (drop n m) n l) (drop-drop (i - n) n m)

  pub splice-before : (i n : ℕ) → i + n ≤ at → take n (drop i (splice m at s)) ≡ take n (drop i m)
  unfolding splice
  splice-before i n g =
      let l : length (take at m) ≡ at = length-take-le at m (omega arith) in
      let front : (r : List ℕ) → take n (drop i (take at m ++ r)) ≡ take n (drop i (take at m)) = λ r.
      rw (
        drop-append-le i (take at m) r (omega arith),
        take-append-le n (drop i (take at m)) r (rw (length-drop i (take at m)) (omega arith)),
      ) in
      front (s ++ drop (at + length s) m) ∙ sym (front (drop at m)) ∙ rw (take-append-drop at m)
