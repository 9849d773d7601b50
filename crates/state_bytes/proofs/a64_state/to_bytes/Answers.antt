use native.Mathlib.Omega.{arith}
use mathlib.Core.Path.{◌≡◌}
use mathlib.Core.List.{List, [], ◌∷◌, ◌++◌, append_assoc}
use Prim.Native.Nat.{ℕ, ◌+◌, ◌*◌}
use lib.ListN.{length, length-append}
use Rattle.le.specs.Le.{store, all_bytes}
use Rattle.le.specs.Parts.{over}
use Rattle.le.proofs.Lists.{over_more, over-all}
use borrow.Author.Rules.{rules}
use Rattle.state_bytes.proofs.a64_state.to_bytes.Goals as goal

-- two numbers after those that stand at the front, up to the end
two_more : (vs m : List ℕ) (v w i : ℕ) → i ≡ 8 * length vs → length m ≡ i + 16
    → store 8 (store 8 (over 8 vs m) i v) (i + 8) w ≡ all_bytes 8 (vs ++ (v ∷ w ∷ []))
two_more vs m v w i h l =
    let e : (vs ++ (v ∷ [])) ++ (w ∷ []) ≡ vs ++ (v ∷ w ∷ []) = append_assoc vs (v ∷ []) (w ∷ []) in
    let n : i + 8 ≡ 8 * length (vs ++ (v ∷ [])) = rw (length-append vs (v ∷ [])) (omega arith) in
    let a : length m ≡ 8 * length (vs ++ (v ∷ w ∷ [])) = rw (length-append vs (v ∷ w ∷ [])) (omega arith) in
    rw (over_more 8 vs m v i h, over_more 8 (vs ++ (v ∷ [])) m w (i + 8) n, e) (over-all 8 (vs ++ (v ∷ w ∷ [])) m a)

pub returns : goal.returns
returns c = let a = c.args in
    let l : length a.s.now.x ≡ 31 = search rules in
    rw
    (c.store-2.ensures, c.from.ensures, c.store.ensures, c.write64.ensures)
    (two_more a.s.now.x a.b.now _ _ 248 (omega arith) (omega arith))
