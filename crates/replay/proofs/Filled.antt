-- The numbers of a buffer whose front a read has filled.
use Rattle.std.proofs.Common.{◌≡◌, ◌∙◌, ap, sym, ◌+◌, ◌≤◌, ◌++◌, length, take, drop, ℕ, List, arith}
use Rattle.std.proofs.lemmas.List.{drop-append-le, take-append-le, take-append-drop, length-take-le, length-drop}
use Rattle.le.specs.Le.{load, number}

load-append : (k i : ℕ) (p z : List ℕ) → i + k ≤ length p → load k (p ++ z) i ≡ load k p i
unfolding load
load-append k i p z h =
    ap (λ d. number (take k d)) (drop-append-le i p z (omega (arith, h)))
    ∙ ap number (take-append-le k (drop i p) z (omega (arith, h, length-drop i p)))

-- a number within the first n bytes of m, which stand at the buffer's front
pub load-filled : (k i n : ℕ) (m zeros buf : List ℕ) → i + k ≤ n → n ≤ length m → buf ≡ take n m ++ drop n zeros
    → load k buf i ≡ load k m i
load-filled k i n m zeros buf within h e =
    let inside : i + k ≤ length (take n m) = omega (arith, within, length-take-le n m h) in
    ap (λ b. load k b i) e
    ∙ load-append k i (take n m) (drop n zeros) inside
    ∙ sym (load-append k i (take n m) (drop n m) inside)
    ∙ ap (λ b. load k b i) (take-append-drop n m)
