-- The lines of a block one after the other. Assumes nothing.
use mathlib.Core.Path.{◌≡◌, refl, sym, ap, ◌∙◌}
use mathlib.Core.Bool.{Bool, true, false, cond, ◌||◌}
use mathlib.Core.List.{List, [], ◌∷◌, ◌++◌}
use Prim.Native.Nat.{ℕ, suc, ◌+◌, ◌*◌, ◌/◌, ◌%◌, ◌^◌, ◌≤◌, ◌<◌}
use native.Mathlib.Nat.{mul-suc}
use native.Mathlib.Numerals.{add-one}
use native.Mathlib.Omega.{arith}
use lib.Dec.{eqb}
use lib.ListN.{length, drop, length-append}
use Rattle.le.specs.Le.{words, load, splice}
use Rattle.le.proofs.Splices.{splice-append}
use Rattle.le.proofs.Lists.{numbers_at, numbers-over}
use Rattle.ascii.specs.Parts.{Put}
use Rattle.ascii.proofs.Numbers.{hex-length}
use Rattle.a64.specs.declared.Form.{Form}
use Rattle.a64.specs.declared.Form.TheVariants.{DataProcessing, OneSource, Ldr, Str, Movz, Movk, Cmp, Csel, Sxtw, AddSp, SubSp, Blr, Ret, Unreadable}
use Rattle.a64.specs.declared.Op.{Op}
use Rattle.a64.specs.Forms.{op_word, ops, op_bits, decode_op, decode_register, decode}
use Rattle.a64.proofs.Coding.{decode_in_range, encode-decode}
use Rattle.a64_text.specs.Text.{syntax, text}
use Rattle.a64_text.specs.Parts as Text
use Rattle.listing.specs.Listing.{Line, lines, line, listing, is_outside, any_outside, Rewritten}
use Rattle.listing.specs.Parts.{outside, outside_count, line_of}

-- ---- forms

pub apart : false ≡ true → ⊥
apart h = let z : ◌≡◌ {A = ℕ} 0 1 = cc in omega arith

-- of a form that a test chooses
pub outside_cond : (b : Bool) (f g : Form) → outside (cond b f g) ≡ cond b (outside f) (outside g)
outside_cond true f g = refl
outside_cond false f g = refl

-- the same, where both are known; and of the operations one after the other
chosen : (b : Bool) (f g : Form) (m n : ℕ) → outside f ≡ m → outside g ≡ n → outside (cond b f g) ≡ cond b m n
chosen true f g m n p q = p
chosen false f g m n p q = q

unfoldable pub none_of : List Op → ℕ → ℕ
none_of [] w = 1
none_of (op ∷ os) w = cond (eqb (op_bits w) (op_bits (op_word op))) 0 (none_of os w)

pub none_is : (os : List Op) (w : ℕ) → outside (decode_op os w) ≡ none_of os w
unfolding none_of
none_is [] w = refl
none_is (op ∷ os) w = chosen (eqb (op_bits w) (op_bits (op_word op))) _ _ 0 (none_of os w) refl (none_is os w)

pub register_is : (w : ℕ) → outside (decode_register w)
    ≡ cond (eqb (w / 2 ^ 21) 0x758) (cond (eqb (w / 2 ^ 10 % 64) 0) (cond (eqb (w % 32) 31) 0 1) 1)
    (cond (eqb (w / 2 ^ 21) 0x4D4) (cond (eqb (w / 2 ^ 10 % 4) 0) 0 1)
    (cond (eqb (w / 2 ^ 21) 0x49A) (cond (eqb (w / 2 ^ 10 % 2048) 31) 0 1)
    (cond (eqb (w / 2 ^ 21) 0x6B1) (cond (eqb (w / 2 ^ 10 % 2048) 0x7C0) (cond (eqb (w % 32) 0) 0 1) 1)
    (cond (eqb (w / 2 ^ 21) 0x6B2) (cond (eqb (w % 2 ^ 21) 0x1F03C0) 0 1)
    (cond (eqb (w / 2 ^ 21) 0x6D6) (cond (eqb (w / 2 ^ 10 % 2048) 3) 0 (cond (eqb (w / 2 ^ 10 % 2048) 4) 0 1))
    (outside (decode_op ops w)))))))
register_is w =
    chosen (eqb (w / 2 ^ 21) 0x758) _ _ _ _ (chosen (eqb (w / 2 ^ 10 % 64) 0) _ _ _ _ (chosen (eqb (w % 32) 31) _ _ _ _ refl refl) refl)
    (chosen (eqb (w / 2 ^ 21) 0x4D4) _ _ _ _ (chosen (eqb (w / 2 ^ 10 % 4) 0) _ _ _ _ refl refl)
    (chosen (eqb (w / 2 ^ 21) 0x49A) _ _ _ _ (chosen (eqb (w / 2 ^ 10 % 2048) 31) _ _ _ _ refl refl)
    (chosen (eqb (w / 2 ^ 21) 0x6B1) _ _ _ _ (chosen (eqb (w / 2 ^ 10 % 2048) 0x7C0) _ _ _ _ (chosen (eqb (w % 32) 0) _ _ _ _ refl refl) refl)
    (chosen (eqb (w / 2 ^ 21) 0x6B2) _ _ _ _ (chosen (eqb (w % 2 ^ 21) 0x1F03C0) _ _ _ _ refl refl)
    (chosen (eqb (w / 2 ^ 21) 0x6D6) _ _ _ _ (chosen (eqb (w / 2 ^ 10 % 2048) 3) _ _ _ _ refl (chosen (eqb (w / 2 ^ 10 % 2048) 4) _ _ _ _ refl refl))
    refl)))))

pub unreadable : (f : Form) → is_outside f ≡ true → f ≡ Unreadable
unreadable (DataProcessing op rd rn rm) h = absurd (apart h)
unreadable (Ldr rt rn imm) h = absurd (apart h)
unreadable (Str rt rn imm) h = absurd (apart h)
unreadable (Movz rd hw imm) h = absurd (apart h)
unreadable (Movk rd hw imm) h = absurd (apart h)
unreadable (Cmp rn rm) h = absurd (apart h)
unreadable (Csel rd rn rm c) h = absurd (apart h)
unreadable (OneSource op rd rn) h = absurd (apart h)
unreadable (Sxtw rd rn) h = absurd (apart h)
unreadable (AddSp imm) h = absurd (apart h)
unreadable (SubSp imm) h = absurd (apart h)
unreadable (Blr rn) h = absurd (apart h)
unreadable Ret h = absurd (apart h)
unreadable Unreadable h = refl

pub readable : (w : ℕ) → is_outside (decode w) ≡ false → Text.Readable (decode w)
readable w h =
    record {
      fits = decode_in_range w;
      form = λ e. apart (sym h ∙ ap is_outside e);
    }

pub both_false : (a b : Bool) → a || b ≡ false → (a ≡ false) × (b ≡ false)
both_false true b h = absurd (apart (sym h))
both_false false b h = (refl, h)

-- ---- how many are outside: none, or some

none-outside : (b c : Bool) (n : ℕ) → cond b 1 0 + n ≡ 0 → (n ≡ 0 → c ≡ false) → b || c ≡ false
none-outside true c n h k = absurd (omega arith)
none-outside false c n h k = k (omega arith)

some-outside : (b c : Bool) (n : ℕ) → (cond b 1 0 + n ≡ 0 → ⊥) → ((n ≡ 0 → ⊥) → c ≡ true) → b || c ≡ true
some-outside true c n h k = refl
some-outside false c n h k = k (λ e. h (omega arith))

pub none : (ls : List Line) → outside_count ls ≡ 0 → any_outside ls ≡ false
unfolding outside_count any_outside
none [] h = refl
none (l ∷ ls) h = none-outside (is_outside l.form) (any_outside ls) (outside_count ls) h (none ls)

pub some : (ls : List Line) → (outside_count ls ≡ 0 → ⊥) → any_outside ls ≡ true
unfolding outside_count any_outside
some [] h = absurd (h refl)
some (l ∷ ls) h = some-outside (is_outside l.form) (any_outside ls) (outside_count ls) h (some ls)

pub outside_at_most : (f : Form) → outside f ≤ 1
outside_at_most f = by (is_outside f)
  where
    by : (b : Bool) → cond b 1 0 ≤ 1
    by true = omega arith
    by false = omega arith

pub outside_one : (f : Form) → outside f ≡ 1 → is_outside f ≡ true
outside_one f = by (is_outside f)
  where
    by : (b : Bool) → ◌≡◌ {A = ℕ} (cond b 1 0) 1 → b ≡ true
    by true h = refl
    by false h = absurd (omega arith)

pub outside-zero : (f : Form) → (outside f ≡ 1 → ⊥) → is_outside f ≡ false
outside-zero f = by (is_outside f)
  where
    by : (b : Bool) → (◌≡◌ {A = ℕ} (cond b 1 0) 1 → ⊥) → b ≡ false
    by true h = absurd (h refl)
    by false h = refl

-- ---- a line

pub line-length : (l : Line) → length (line l) ≡ 19 + length (text (syntax l.form))
unfolding line
line-length l = simp (length-append, hex-length) (omega arith)

-- ---- the first line, and the others

-- the lines from word i on
abbrev pub lines_from : List ℕ → ℕ → List Line
lines_from block i = lines (4 * i) (drop i (words block))

module _ (block : List ℕ) where
  -- the line of word i
  abbrev pub here : ℕ → Line
  here i = line_of (4 * i) (load 4 block (4 * i))

  pub next : (i : ℕ) → i < length block / 4 → lines_from block i ≡ here i ∷ lines_from block (i + 1)
  unfolding lines
  next i h =
      let e : 4 * suc i ≡ 4 * i + 4 = mul-suc 4 i in
      rw (numbers_at 4 (length block / 4) block i h, add-one, e)

  pub ended : (i : ℕ) → length block / 4 ≤ i → lines_from block i ≡ []
  unfolding lines
  ended i h = rw (numbers-over 4 (length block / 4) block i h)

  pub next-outside : (i : ℕ) → i < length block / 4
      → any_outside (lines_from block i) ≡ is_outside (decode (load 4 block (4 * i))) || any_outside (lines_from block (i + 1))
  unfolding any_outside
  next-outside i h = rw (next i h)

  -- no word from i on is outside: this one, and those after it
  pub inside : (i : ℕ) → i < length block / 4 → any_outside (lines_from block i) ≡ false
      → (is_outside (decode (load 4 block (4 * i))) ≡ false) × (any_outside (lines_from block (i + 1)) ≡ false)
  inside i h e = both_false _ _ (sym (next-outside i h) ∙ e)

  pub next-listing : (i : ℕ) → i < length block / 4 → listing (lines_from block i) ≡ line (here i) ++ listing (lines_from block (i + 1))
  unfolding listing
  next-listing i h = rw (next i h)

  pub next-length : (i : ℕ) → i < length block / 4
      → length (listing (lines_from block i)) ≡ length (line (here i)) + length (listing (lines_from block (i + 1)))
  next-length i h = rw (next-listing i h) (length-append (line (here i)) (listing (lines_from block (i + 1))))

  pub ended-listing : (i : ℕ) → length block / 4 ≤ i → listing (lines_from block i) ≡ []
  unfolding listing
  ended-listing i h = rw (ended i h)

  pub next-count : (i : ℕ) → i < length block / 4
      → outside_count (lines_from block i) ≡ outside (decode (load 4 block (4 * i))) + outside_count (lines_from block (i + 1))
  unfolding outside_count
  next-count i h = rw (next i h)

  pub ended-count : (i : ℕ) → length block / 4 ≤ i → outside_count (lines_from block i) ≡ 0
  unfolding outside_count
  ended-count i h = rw (ended i h)

  pub ended-outside : (i : ℕ) → length block / 4 ≤ i → any_outside (lines_from block i) ≡ false
  unfolding any_outside
  ended-outside i h = rw (ended i h)

  -- what is left to write, after one line more
  pub splice-next : {m m' : List ℕ} {at r : ℕ} (i : ℕ) → i < length block / 4 → Put m at (line (here i)) m' r
      → splice m' r (listing (lines_from block (i + 1))) ≡ splice m at (listing (lines_from block i))
  splice-next {m} {m'} {at} {r} i h p =
      rw (next-listing i h, p.written, p.next)
      (splice-append m at (line (here i)) (listing (lines_from block (i + 1))) (omega (arith, p.room)))

-- ---- the fields, written again

pub rewritten : (at : ℕ) (ws : List ℕ) → any_outside (lines at ws) ≡ false → Rewritten (lines at ws)
unfolding lines any_outside
rewritten at [] h = tt
rewritten at (w ∷ ws) h =
    let b = both_false (is_outside (decode w)) (any_outside (lines (at + 4) ws)) h in
    (encode-decode w (readable w b.0).form, rewritten (at + 4) ws b.1)
