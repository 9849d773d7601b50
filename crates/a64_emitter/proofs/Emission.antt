-- Laws of `emitted`, `emitted_all` and `mov_imm64`: chains of calls, sizes, room. Assumes nothing.
use Prim.Native.Nat.{ℕ, zero, suc, ◌+◌, ◌*◌, ◌%◌, ◌^◌, ◌≤◌, ◌<◌, min}
use native.Mathlib.Omega.{arith}
use native.Mathlib.Numerals.{add-one}
use mathlib.Core.Path.{◌≡◌, refl, sym, ap, ◌∙◌}
use mathlib.Core.Bool.{Bool, true, false, cond, not}
use mir.Val.{bool_byte}
use mathlib.Core.List.{List, [], ◌∷◌, ◌++◌, append_assoc, append-nil, flatten}
use lib.ListN.{length, take, set, length-append, length-take}
use lib.Seq.{take-nil, take-suc-set, take-take, take-append-le, take-append-add, length-take-le, paste, take-paste}
use lib.Dec.{leb, eqb}
use borrow.Author.Tests.{le-leb, lt-leb, eq-eqb, ne_eqb}
use Rattle.le.specs.Parts.{over}
use Rattle.le.proofs.Lists.{length-all_bytes}
use Rattle.a64_emitter.specs.Parts.{emitted_in, in_turn, written, Written}
use Rattle.a64_emitter.specs.Writers.{part, movz, movk, mov_imm64}
use Rattle.a64_emitter.specs.Emitter.{bytes}

-- words that fit are added
pub emitted-fits : (m : ℕ) (h ws : List ℕ) → length h + length ws ≤ m → emitted_in m h ws ≡ h ++ ws
unfolding emitted_in
emitted-fits m h ws f = rw (le-leb (length h + length ws) m f)

-- words that do not fit are not
emitted-full : (m : ℕ) (h ws : List ℕ) → m < length h + length ws → emitted_in m h ws ≡ h
unfolding emitted_in
emitted-full m h ws f = rw (lt-leb (length h + length ws) m f)

cond_same : (b : Bool) (h : List ℕ) → cond b h h ≡ h
cond_same true h = refl
cond_same false h = refl

-- no words
pub emitted-none : (m : ℕ) (h : List ℕ) → emitted_in m h [] ≡ h
unfolding emitted_in
emitted-none m h = rw append-nil (cond_same (leb (length h + 0) m) h)

-- the words of several calls, where all fit
pub in_turn-fits : (m : ℕ) (h : List ℕ) (gs : List (List ℕ)) → length h + length (flatten gs) ≤ m → in_turn m h gs ≡ h ++ flatten gs
unfolding flatten
in_turn-fits m h [] f = sym (append-nil h)
in_turn-fits m h (g ∷ gs) f =
    let l : length (g ++ flatten gs) ≡ length g + length (flatten gs) = length-append g (flatten gs) in
    let k : length (h ++ g) ≡ length h + length g = length-append h g in
    rw (emitted-fits m h g (omega arith), in_turn-fits m (h ++ g) gs (omega arith), append_assoc)

-- then the calls are one
in_turn_one : (m : ℕ) (h : List ℕ) (gs : List (List ℕ)) → length h + length (flatten gs) ≤ m → in_turn m h gs ≡ emitted_in m h (flatten gs)
in_turn_one m h gs f = in_turn-fits m h gs f ∙ sym (emitted-fits m h (flatten gs) f)

-- ---- an array of words

-- one word stored after n
pub stored : (m : ℕ) (l : List ℕ) (n w : ℕ) → length l ≡ m → n < m → take (n + 1) (set l n w) ≡ emitted_in m (take n l) (w ∷ [])
stored m l n w e h =
    let k : length (take n l) ≡ n = length-take-le n l (omega arith) in
    rw (add-one, take-suc-set l n w (omega arith), emitted-fits m (take n l) (w ∷ []) (omega arith))

-- no room after n
pub kept : (m : ℕ) (l : List ℕ) (n : ℕ) (ws : List ℕ) → length l ≡ m → m < n + length ws → emitted_in m (take n l) ws ≡ take n l
kept m l n [] e h = emitted-none m (take n l)
kept m l n (w ∷ ws) e h = emitted-full m (take n l) (w ∷ ws) (rw length-take (omega arith))

take_min : (n : ℕ) (l : List ℕ) → take (min n (length l)) l ≡ take n l
take_min zero [] = take-nil (min 0 0)
take_min (suc n) [] = take-nil (min (suc n) 0)
take_min zero (x ∷ l) = let e : min 0 (suc (length l)) ≡ 0 = omega arith in rw e
take_min (suc n) (x ∷ l) =
    let e : min (suc n) (suc (length l)) ≡ suc (min n (length l)) = omega arith in
    rw e (ap (λ (t : List ℕ). x ∷ t) (take_min n l))

-- the words that are held, by their count
take-held : (m n : ℕ) (l : List ℕ) → length l ≡ m → take (min n m) l ≡ take n l
take-held m n l e = rw e at (take_min n l)

-- an instruction's whole array of k words copied after `at`, of which n count
pub pasted : (m k : ℕ) (l : List ℕ) (at : ℕ) (s : List ℕ) (n : ℕ) → length l ≡ m → length s ≡ k → at + k ≤ m
    → take (at + min n k) (paste l at s k) ≡ emitted_in m (take at l) (take n s)
pasted m k l at s n e f h =
    let a : length (take at l) ≡ at = length-take-le at l (omega arith) in
    let b : length (take n s) ≡ min n k = rw f at (length-take n s) in
    let w : take (at + k) (paste l at s k) ≡ take at l ++ take k s = take-paste l at s k (omega arith) (omega arith) in
    let t : take (at + min n k) (take (at + k) (paste l at s k)) ≡ take (at + min n k) (paste l at s k) = take-take (at + min n k) (at + k) (paste l at s k) (omega arith) in
    let z : take (at + min n k) (take at l ++ take k s) ≡ take at l ++ take (min n k) (take k s) = rw a at (take-append-add (take at l) (take k s) (min n k)) in
    let y : take (min n k) (take k s) ≡ take n s = take-take (min n k) k s (omega arith) ∙ take-held k n s f in
    sym t ∙ ap (take (at + min n k)) w ∙ z ∙ rw y (sym (emitted-fits m (take at l) (take n s) (omega arith)))

-- the front of what is held stays, whatever is added
emitted_front : (m n : ℕ) (h ws : List ℕ) → n ≤ length h → (take n (emitted_in m h ws) ≡ take n h) × (n ≤ length (emitted_in m h ws))
unfolding emitted_in
emitted_front m n h ws f = by_test (leb (length h + length ws) m)
  where
    by_test : (b : Bool) → (take n (cond b (h ++ ws) h) ≡ take n h) × (n ≤ length (cond b (h ++ ws) h))
    by_test true = (take-append-le n h ws f, omega (arith, length-append h ws))
    by_test false = (refl, f)

pub in_turn_front : (m n : ℕ) (h : List ℕ) (gs : List (List ℕ)) → n ≤ length h → (take n (in_turn m h gs) ≡ take n h) × (n ≤ length (in_turn m h gs))
in_turn_front m n h [] f = (refl, f)
in_turn_front m n h (g ∷ gs) f =
    let a = emitted_front m n h g f in
    let b = in_turn_front m n (emitted_in m h g) gs a.1 in
    (b.0 ∙ a.0, b.1)

-- so the words of which n were held still have them in front
pub still_held : (m n : ℕ) (l l' : List ℕ) (r : ℕ) (gs : List (List ℕ)) → n ≤ length l → take r l' ≡ in_turn m (take n l) gs → take n l' ≡ take n l
still_held m n l l' r gs f e =
    let a : length (take n l) ≡ n = length-take-le n l f in
    let b = in_turn_front m n (take n l) gs (omega arith) in
    let k : n ≤ length (take r l') = rw e b.1 in
    let g : n ≤ r = omega (arith, length-take r l') in
    sym (take-take n r l' g) ∙ ap (take n) e ∙ b.0 ∙ take-take n n l (omega arith)

-- ---- bytes

pub length-bytes : (ws : List ℕ) → length (bytes ws) ≡ 4 * length ws
length-bytes ws = length-all_bytes 4 ws

-- all of m words' held ones as bytes, where they fit in d
held_bytes : (m : ℕ) (ws : List ℕ) (len : ℕ) → length ws ≡ m → length (bytes (take len ws)) ≡ 4 * min len m
held_bytes m ws len l = let k : length (take len ws) ≡ min len m = rw l at (length-take len ws) in omega (arith, length-bytes (take len ws))

pub all-written : (m : ℕ) (ws d : List ℕ) (len : ℕ) → length ws ≡ m → 4 * min len m ≤ length d → (d' : List ℕ)
    → d' ≡ over 4 (take (min len m) ws) d → Written (take len ws) d (4 * min len m) d'
unfolding written
all-written m ws d len l f d' e =
    let b : length (bytes (take len ws)) ≡ 4 * min len m = held_bytes m ws len l in
    let k : 4 * length (take len ws) ≡ 4 * min len m = sym (length-bytes (take len ws)) ∙ b in
    record { count = sym b; content = e ∙ rw (take-held m len ws l, k, b, le-leb (4 * min len m) (length d) f) }

-- nothing where they do not
pub none_written : (m : ℕ) (ws d : List ℕ) (len : ℕ) → length ws ≡ m → length d < 4 * min len m → Written (take len ws) d (4 * min len m) d
unfolding written
none_written m ws d len l f =
    let b : length (bytes (take len ws)) ≡ 4 * min len m = held_bytes m ws len l in
    record { count = sym b; content = rw (b, lt-leb (4 * min len m) (length d) f) }

-- ---- constants

-- a part that is 0 adds nothing, and any other one word
pub movk-none : (rd hw p : ℕ) → p ≡ 0 → movk rd hw p ≡ []
unfolding movk
movk-none rd hw p e = rw (eq-eqb p 0 e)

pub movk-some : (rd hw p : ℕ) → (p ≡ 0 → ⊥) → movk rd hw p ≡ (0xF2800000 + hw * 2 ^ 21 + p * 2 ^ 5 + rd) ∷ []
unfolding movk
movk-some rd hw p e = rw (ne_eqb p 0 e)

-- which is how many words it takes
pub movk_count : (p : ℕ) → (bool_byte (not (eqb p 0)) ≤ 1) × ((rd hw : ℕ) → length (movk rd hw p) ≡ bool_byte (not (eqb p 0)))
unfolding movk
movk_count p = (at (eqb p 0), λ rd hw. of (eqb p 0) _)
  where
    at : (b : Bool) → bool_byte (not b) ≤ 1
    at true = omega arith
    at false = omega arith

    of : (b : Bool) (w : ℕ) → length (cond b [] (w ∷ [])) ≡ bool_byte (not b)
    of true w = refl
    of false w = refl

cond_most : (b : Bool) (w : ℕ) → length (cond b [] (w ∷ [])) ≤ 1
cond_most true w = omega arith
cond_most false w = omega arith

movk_most : (rd hw p : ℕ) → length (movk rd hw p) ≤ 1
unfolding movk
movk_most rd hw p = cond_most (eqb p 0) (0xF2800000 + hw * 2 ^ 21 + p * 2 ^ 5 + rd)

-- the groups of a constant, and how many words they are
abbrev pub parts : ℕ → ℕ → List (List ℕ)
parts rd v = (movz rd (v % 65536) ∷ []) ∷ movk rd 1 (part v 1) ∷ movk rd 2 (part v 2) ∷ movk rd 3 (part v 3) ∷ []

constant_parts : (rd v : ℕ) → mov_imm64 rd v ≡ flatten (parts rd v)
unfolding mov_imm64 flatten
constant_parts rd v = rw (append-nil (movk rd 3 (part v 3)))

pub constant_length : (rd v a b c : ℕ) → length (movk rd 1 (part v 1)) ≡ a → length (movk rd 2 (part v 2)) ≡ b
    → length (movk rd 3 (part v 3)) ≡ c → length (mov_imm64 rd v) ≡ 1 + a + b + c
unfolding mov_imm64
constant_length rd v a b c e f g = simp (length-append, e, f, g) (omega arith)

-- a constant is at most 4 words
pub constant_most : (rd v : ℕ) → length (mov_imm64 rd v) ≤ 4
constant_most rd v =
    let a = movk_most rd 1 (part v 1) in
    let b = movk_most rd 2 (part v 2) in
    let c = movk_most rd 3 (part v 3) in
    omega (arith, constant_length rd v _ _ _ refl refl refl)

-- a constant that fits is its parts, one after the other
pub constant_one : (m : ℕ) (h : List ℕ) (rd v : ℕ) → length h + length (mov_imm64 rd v) ≤ m
    → in_turn m h (parts rd v) ≡ emitted_in m h (mov_imm64 rd v)
constant_one m h rd v f = rw constant_parts (in_turn_one m h (parts rd v) (rw constant_parts at f))
