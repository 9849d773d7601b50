-- What List gives in each of its cases. Assumes nothing.
use mathlib.Core.Path.{◌≡◌, refl, ◌∙◌}
use mathlib.Core.Bool.{true, false}
use mathlib.Core.List.{List, [], ◌∷◌, ◌++◌}
use Prim.Native.Nat.{ℕ, ◌+◌, ◌*◌, ◌/◌, ◌%◌, ◌^◌, ◌≤◌, ◌<◌}
use native.Mathlib.Nat.{zero-add}
use native.Mathlib.Omega.{arith}
use lib.ListN.{length, drop}
use borrow.Author.Tests.{ne_eqb, eq-eqb, lt-ltb, le-ltb}
use Rattle.rules.specs.Limits.{longest_line}
use Rattle.le.specs.Le.{words, numbers, splice}
use Rattle.ascii.specs.Parts.{Put}
use Rattle.listing.specs.Listing.{Listed, lines, block_lines, listing, any_outside, result, list, Outside, Lists}
use Rattle.listing.proofs.Lines.{rewritten}
use Rattle.listing.proofs.Bound.{listing_bound}

module _ (block output : List ℕ) where
  abbrev answer : ℕ → ℕ → ℕ → Listed
  answer n k at = record { refusal = n; length = k; offset = at }

  abbrev Enough : ℕ → Type 0
  Enough n = longest_line * (length block / 4) ≤ length output → n ≡ 14 → ⊥

  -- a refusal by another number than 13
  refused : (n : ℕ) → (n ≡ 13 → ⊥) → (n ≡ 0 → ⊥) → Enough n → result n 0 output ≡ list block output → Lists block output (answer n 0 0) output
  refused n h k l e = record { answer = e; offset = λ q. absurd (h q); no_offset = λ q. refl; fields = λ q. absurd (k q); enough = l }

  pub ragged : (length block % 4 ≡ 0 → ⊥) → Lists block output (answer 12 0 0) output
  unfolding list
  ragged h = refused 12 (λ e. omega arith) (λ e. omega arith) (λ l e. omega arith) (rw (ne_eqb (length block % 4) 0 h))

  module _ (whole : length block % 4 ≡ 0) where
    pub too_long : 2 ^ 32 < length block → Lists block output (answer 12 0 0) output
    unfolding list
    too_long h = refused 12 (λ e. omega arith) (λ e. omega arith) (λ l e. omega arith) (rw (eq-eqb (length block % 4) 0 whole, lt-ltb (2 ^ 32) (length block) h))

    module _ (short : length block ≤ 2 ^ 32) where
      pub outside : any_outside (block_lines block) ≡ true → (at : ℕ) → Outside block at → Lists block output (answer 13 0 at) output
      unfolding list
      outside h at o =
          record {
            answer = rw (eq-eqb (length block % 4) 0 whole, le-ltb (2 ^ 32) (length block) short, h);
            offset = λ q. o;
            no_offset = λ q. absurd (q refl);
            fields = λ q. absurd (omega arith);
            enough = λ l q. omega arith;
          }

      module _ (inside : any_outside (block_lines block) ≡ false) where
        pub short-output : length output < length (listing (block_lines block)) → Lists block output (answer 14 0 0) output
        unfolding list
        short-output h =
            refused 14 (λ e. omega arith) (λ e. omega arith) (λ l e. omega (arith, listing_bound block inside))
            (rw (eq-eqb (length block % 4) 0 whole, le-ltb (2 ^ 32) (length block) short, inside, lt-ltb (length output) (length (listing (block_lines block))) h))

        pub listed : (output' : List ℕ) (r : ℕ) → Put output 0 (listing (block_lines block)) output' r → Lists block output (answer 0 r 0) output'
        unfolding list splice
        listed output' r p =
            let s = listing (block_lines block) in
            let z : 0 + length s ≡ length s = zero-add (length s) in
            let e : output' ≡ s ++ drop (length s) output = p.written ∙ rw z in
            let n : r ≡ length s = p.next ∙ z in
            record {
              answer =
                  rw (
                    eq-eqb (length block % 4) 0 whole,
                    le-ltb (2 ^ 32) (length block) short,
                    inside,
                    le-ltb (length output) (length s) (omega (arith, p.room)),
                    e,
                    n,
                  );
              offset = λ q. absurd (omega arith);
              no_offset = λ q. refl;
              fields = λ q. rewritten 0 (words block) inside;
              enough = λ l q. omega arith;
            }

-- a block of no word
pub no_word : (block output : List ℕ) → length block ≡ 0 → Lists block output (answer block output 0 0 0) output
unfolding splice listing any_outside lines numbers
no_word [] output e = listed [] output refl (omega arith) refl output 0 (record { written = refl; next = refl; room = omega arith })
no_word (x ∷ xs) output e = absurd (omega arith)
