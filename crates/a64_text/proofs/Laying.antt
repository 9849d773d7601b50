-- The parts of a form's text in the order in which they are written. Assumes nothing.
use mathlib.Core.Path.{◌≡◌, sym, ap, ◌∙◌}
use mathlib.Core.Bool.{Bool, true, false, cond}
use mathlib.Core.List.{List, [], ◌∷◌, ◌++◌, append_assoc}
use Prim.Native.Nat.{ℕ, ◌/◌, ◌%◌, ◌≤◌, ◌<◌}
use native.Mathlib.Omega.{arith}
use lib.Dec.{ltb}
use lib.ListN.{length}
use borrow.Author.Tests.{lt-ltb, le-ltb}
use Rattle.le.specs.Le.{bytes}
use Rattle.le.proofs.Laws.{bytes-add, bytes_low, length-bytes}
use Rattle.ascii.specs.Ascii.{ascii}
use Rattle.a64_text.specs.declared.assembly.Assembled.{Assembled}
use Rattle.a64_text.specs.Operands.{operand}
use Rattle.a64_text.specs.Text.{Syntax, further, text}
use Rattle.a64_text.specs.Parts.{register_operand, further_register, rest_operands, mnemonic_length, mnemonic_bytes, Assembles}
use Rattle.a64_text.proofs.Texts.{further-append}

-- ---- a mnemonic of three, four or five letters, with its blank

pub mnemonic-size : (m : ℕ) → length (mnemonic_bytes m) ≡ mnemonic_length m
unfolding mnemonic_bytes
mnemonic-size m = length-bytes (mnemonic_length m) m

four_or_more : (b c : Bool) → 4 ≤ cond b 4 (cond c 5 6)
four_or_more true c = omega arith
four_or_more false true = omega arith
four_or_more false false = omega arith

pub at_least_four : (m : ℕ) → 4 ≤ length (mnemonic_bytes m)
at_least_four m = rw (mnemonic-size m) (four_or_more (ltb m 0x100000000) (ltb m 0x10000000000))

low : (m : ℕ) (t : List ℕ) → bytes 4 m ++ t ≡ bytes 4 (m % 0x100000000) ++ t
low m t = ap (λ (s : List ℕ). s ++ t) (sym (bytes_low 4 m))

pub four : (m : ℕ) → m < 0x100000000 → mnemonic_bytes m ≡ bytes 4 (m % 0x100000000)
unfolding mnemonic_bytes
four m h = rw (lt-ltb m 0x100000000 h) (sym (bytes_low 4 m))

pub five : (m : ℕ) → 0x100000000 ≤ m → m < 0x10000000000 → mnemonic_bytes m ≡ bytes 4 (m % 0x100000000) ++ (m / 0x100000000 ∷ [])
unfolding mnemonic_bytes
five m h k =
    let e : bytes 1 (m / 0x100000000) ≡ m / 0x100000000 ∷ [] = unfold bytes in ap (λ (n : ℕ). n ∷ []) (omega arith) in
    rw (le-ltb m 0x100000000 h, lt-ltb m 0x10000000000 k) (bytes-add 4 1 m ∙ ap (λ (t : List ℕ). bytes 4 m ++ t) e ∙ low m (m / 0x100000000 ∷ []))

pub six : (m : ℕ) → 0x10000000000 ≤ m → mnemonic_bytes m ≡ bytes 4 (m % 0x100000000) ++ bytes 2 (m / 0x100000000)
unfolding mnemonic_bytes
six m h =
    rw (le-ltb m 0x100000000 (omega arith), le-ltb m 0x10000000000 h) (bytes-add 4 2 m ∙ low m (bytes 2 (m / 0x100000000)))

-- ---- the whole

pub laid_out : (a : Assembled) (s : Syntax) → Assembles a s
    → text s
    ≡ mnemonic_bytes a.mnemonic
    ++ (operand (register_operand a.first)
    ++ (further (further_register a.second) ++ (further (further_register a.third) ++ further (rest_operands a.rest))))
unfolding text
laid_out a s h =
    rw (h.mnemonic, h.first, ← further-append (further_register a.third) (rest_operands a.rest), ← further-append (further_register a.second), h.more)
    (sym (append_assoc (ascii s.mnemonic) (ascii " ") (operand s.first ++ further s.more)))
