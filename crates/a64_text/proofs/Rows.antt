-- The rows of the table, by how many registers they begin with. Assumes nothing.
use mathlib.Core.Path.{◌≡◌, refl}
use mathlib.Core.List.{◌∷◌, ◌++◌}
use Prim.Native.Nat.{ℕ, ◌^◌, ◌<◌}
use Rattle.std.specs.Prelude.{Some, None}
use Prim.Native.String.{String}
use native.Mathlib.Omega.{arith}
use borrow.Author.Tests.{ne_eqb}
use Rattle.ascii.specs.Ascii.{ascii}
use Rattle.a64_text.specs.declared.operand.Rest.{Rest}
use Rattle.a64_text.specs.Operands.{X, XSP}
use Rattle.a64_text.specs.Text.{syntax_of}
use Rattle.a64_text.specs.Parts.{register_operand, rest_operands, Small, mnemonic_bytes, Assembles}

first-register : (n : ℕ) → n < 32 → register_operand n ≡ X n
first-register n h = rw (ne_eqb n 32 (λ e. omega arith))

module _ (k : ℕ) (rest : Rest) (s : String) (letters : mnemonic_bytes k ≡ ascii s ++ ascii " ") (short : k < 2 ^ 48) (small : Small rest) where
  pub one : (d : ℕ) → d < 32
      → Assembles (record { mnemonic = k; first = d; second = None; third = None; rest = rest }) (syntax_of s (X d) (rest_operands rest))
  one d hd =
      record {
        mnemonic = letters;
        short = short;
        first = first-register d hd;
        more = refl;
        registers = (omega arith, tt, tt);
        small = small;
      }

  pub two : (d n : ℕ) → d < 32 → n < 32
      → Assembles (record { mnemonic = k; first = d; second = Some n; third = None; rest = rest }) (syntax_of s (X d) (X n ∷ rest_operands rest))
  two d n hd hn =
      record {
        mnemonic = letters;
        short = short;
        first = first-register d hd;
        more = rw (first-register n hn);
        registers = (omega arith, omega arith, tt);
        small = small;
      }

  pub three : (d n m : ℕ) → d < 32 → n < 32 → m < 32
      → Assembles (record { mnemonic = k; first = d; second = Some n; third = Some m; rest = rest }) (syntax_of s (X d) (X n ∷ X m ∷ rest_operands rest))
  three d n m hd hn hm =
      record {
        mnemonic = letters;
        short = short;
        first = first-register d hd;
        more = rw (first-register n hn, first-register m hm);
        registers = (omega arith, omega arith, omega arith);
        small = small;
      }

  pub both_sp : Assembles (record { mnemonic = k; first = 32; second = Some 32; third = None; rest = rest }) (syntax_of s (XSP 31) (XSP 31 ∷ rest_operands rest))
  both_sp =
      record {
        mnemonic = letters;
        short = short;
        first = refl;
        more = refl;
        registers = (omega arith, omega arith, tt);
        small = small;
      }
