-- The operation List (document 02, No. 1): a block's words, one line each.
use Rattle.std.specs.Prelude.{ℕ, ◌+◌, ◌*◌, ◌/◌, ◌%◌, ◌^◌, ◌≤◌, ◌<◌, ◌≡◌, Bool, true, false, cond, not, ◌||◌, List, [], ◌∷◌, ◌++◌, eqb, ltb, length, drop, Result, Ok, Err}
use Rattle.rules.specs.Limits.{longest_line}
use Rattle.rules.specs.Refusals as Refusals
use Rattle.le.specs.Le.{words, load}
use Rattle.a64.specs.declared.Form.{Form}
use Rattle.a64.specs.declared.Form.TheVariants.{DataProcessing, OneSource, Ldr, Str, Movz, Movk, Cmp, Csel, Sxtw, AddSp, SubSp, Blr, Ret, Unreadable}
use Rattle.a64.specs.Forms.{encode, decode}
use Rattle.ascii.specs.Ascii.{ascii, hex}
use Rattle.a64_text.specs.Text.{syntax, text}
use Rattle.listing.specs.declared.refusals.ListRefusal.{ListRefusal}
use Rattle.listing.specs.Refused as Refused

-- a word, its byte offset in the block, and the form with the fields that were found
pub record Line : Type 0 where
  pub offset : ℕ
  pub word : ℕ
  pub form : Form

-- the words from an offset on
unfoldable pub lines : ℕ → List ℕ → List Line
unfolding decode
lines at [] = []
lines at (w ∷ ws) = record { offset = at; word = w; form = decode w } ∷ lines (at + 4) ws

abbrev pub block_lines : List ℕ → List Line
block_lines block = lines 0 (words block)

-- a line's bytes: offset and word in hexadecimal, the text, a line feed
unfoldable pub line : Line → List ℕ
line l = hex 8 l.offset ++ (ascii " " ++ (hex 8 l.word ++ (ascii " " ++ (text (syntax l.form) ++ ascii "\n"))))

unfoldable pub listing : List Line → List ℕ
listing [] = []
listing (l ∷ ls) = line l ++ listing ls

-- whether a form is none of the 30
abbrev pub is_outside : Form → Bool
is_outside (DataProcessing op rd rn rm) = false
is_outside (Ldr rt rn imm) = false
is_outside (Str rt rn imm) = false
is_outside (Movz rd hw imm) = false
is_outside (Movk rd hw imm) = false
is_outside (Cmp rn rm) = false
is_outside (Csel rd rn rm c) = false
is_outside (OneSource op rd rn) = false
is_outside (Sxtw rd rn) = false
is_outside (AddSp imm) = false
is_outside (SubSp imm) = false
is_outside (Blr rn) = false
is_outside Ret = false
is_outside Unreadable = true

-- whether a word is outside the forms
unfoldable pub any_outside : List Line → Bool
any_outside [] = false
any_outside (l ∷ ls) = is_outside l.form || any_outside ls

-- ---- the operation

-- its refusal, the listing's length and the output's bytes afterwards
pub record Outcome : Type 0 where
  pub refusal : ℕ
  pub length : ℕ
  pub output : List ℕ

abbrev pub result : ℕ → ℕ → List ℕ → Outcome
result n k output = record { refusal = n; length = k; output = output }

-- the listing goes to the output's front
abbrev pub fitted : List ℕ → List ℕ → Outcome
fitted s output =
    cond (ltb (length output) (length s)) (result Refusals.listing_short 0 output)
    (result Refusals.accepted (length s) (s ++ drop (length s) output))

unfoldable pub list : List ℕ → List ℕ → Outcome
unfolding lines listing any_outside
list block output =
    cond (not (eqb (length block % 4) 0) || ltb (2 ^ 32) (length block)) (result Refusals.listing_length 0 output)
    (cond (any_outside (block_lines block)) (result Refusals.outside_forms 0 output) (fitted (listing (block_lines block)) output))

-- a word of the block that is outside the forms, by its byte offset
pub record Outside (block : List ℕ) (at : ℕ) : Type 0 where
  pub multiple : at % 4 ≡ 0
  pub inside : at < length block
  pub outside : decode (load 4 block at) ≡ Unreadable

-- the fields that were found, written again, give each word
abbrev pub Rewritten : List Line → Type 0
Rewritten [] = Unit {0}
Rewritten (l ∷ ls) = (encode l.form ≡ l.word) × Rewritten ls

-- an answer as numbers: the refusal, 0 where the lines were written; how many bytes they have; beside refusal 13 the
-- offset of a word outside the forms
pub record Listed : Type 0 where
  pub refusal : ℕ
  pub length : ℕ
  pub offset : ℕ

-- the code's
abbrev pub answer : Result ℕ ListRefusal → Listed
answer (Ok n) = record { refusal = Refusals.accepted; length = n; offset = 0 }
answer (Err why) = record { refusal = Refused.refusal why; length = 0; offset = Refused.offset why }

-- what List promises of a block and an output, its answer and the output afterwards
pub record Lists (block output : List ℕ) (r : Listed) (output' : List ℕ) : Type 0 where
  pub answer : result r.refusal r.length output' ≡ list block output
  -- beside refusal 13 the offset is that of some word outside the forms, else it is 0
  pub offset : r.refusal ≡ Refusals.outside_forms → Outside block r.offset
  pub no_offset : (r.refusal ≡ Refusals.outside_forms → ⊥) → r.offset ≡ 0
  pub fields : r.refusal ≡ Refusals.accepted → Rewritten (block_lines block)
  -- an output of as many bytes a word as the longest line has is never too short
  pub enough : longest_line * (length block / 4) ≤ length output → r.refusal ≡ Refusals.listing_short → ⊥
