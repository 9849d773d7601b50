-- Demand 3: what the words of a block do to the machine, beside what the ISA does to the guest. Definitions only.
use Rattle.std.specs.Prelude.{◌≡◌, Bool, ◌⊎◌, List, ℕ, ◌+◌, ◌-◌, ◌*◌, ◌%◌, ◌^◌, ◌≤◌, ◌<◌, length, get_or}
use Rattle.word.specs.Word.{wrap}
use Rattle.le.specs.Le.{Bytes, load}
use Rattle.translator.specs.declared.EndKind.{EndKind}
use Rattle.translator.specs.Translate.{end_number}
use Rattle.a64_run.specs.declared.run.End.{End}
use Rattle.a64_exec.specs.Exec.{State, reg}
use Rattle.a64_run.specs.Run as A64
use Rattle.rv64_run.specs.declared.run.Ran as RV
use Rattle.rv64_run.specs.Run as Rv64

-- the number of the end kind of a block that no helper ends
abbrev pub HelperFree : ℕ → Type 0
HelperFree end = (end ≡ end_number EndKind.Plain) ⊎ (end ≡ end_number EndKind.Drop)

-- slot n: the eight bytes at slot offset plus 8 n plus the X0 of entry, modulo 2 ^ 64
abbrev pub slot : State → ℕ → ℕ → ℕ
slot s offset n = wrap (reg s 0 + (offset + 8 * n))

-- where they are in the memory bytes
abbrev pub place : State → ℕ → ℕ → ℕ
place s offset n = slot s offset n - s.base

-- the state at entry, and the guest's registers x
pub record Entry (offset : ℕ) (s : State) (x : List ℕ) : Type 0 where
  -- X0 to X30 of 64 bits, memory of bytes
  pub count : length s.x ≡ 31
  pub small : (k : ℕ) → reg s k < 2 ^ 64
  pub bytes : Bytes s.mem
  -- refusal 11 does not apply
  pub top : s.base + length s.mem ≤ 2 ^ 64
  -- aligned slots, inside memory
  pub aligned : (n : ℕ) → n < 32 → slot s offset n % 8 ≡ 0
  pub inside : (n : ℕ) → n < 32 → (s.base ≤ slot s offset n) × (slot s offset n + 8 ≤ s.base + length s.mem)
  -- guest register n starts as slot n, from 1 on; slot 0 may hold anything (document 02, No. 6)
  pub guest : length x ≡ 32
  pub starts : (n : ℕ) → 1 ≤ n → n < 32 → get_or x n 0 ≡ load 8 s.mem (place s offset n)

-- byte j of memory lies in none of slots 1 to 31; slot 0 is other memory (document 02, No. 6)
abbrev pub Outside : State → ℕ → ℕ → Type 0
Outside s offset j = (n : ℕ) → 1 ≤ n → n < 32 → (j < place s offset n) ⊎ (place s offset n + 8 ≤ j)

-- the run r of a block of so many words from s on, beside the guest's run g; count: what translation answered
pub record Ends (offset : ℕ) (s : State) (words count : ℕ) (r : A64.Ran) (g : RV.Ran) : Type 0 where
  -- to its return, in exactly as many steps as there are words
  pub end : r.end ≡ End.Returned
  pub steps : r.steps ≡ words
  -- the guest does exactly as many instructions as the count
  pub instructions : g.count ≡ count
  -- X0 then equals its next PC, X1 that count, slots 1 to 31 its registers
  pub x0 : reg r.state 0 ≡ g.hart.pc
  pub x1 : reg r.state 1 ≡ count
  pub slots : (n : ℕ) → 1 ≤ n → n < 32 → load 8 r.state.mem (place s offset n) ≡ get_or g.hart.x n 0
  -- all other memory, SP, X2 to X8 and X18 to X30 are as at entry
  pub size : length r.state.mem ≡ length s.mem
  pub memory : (j : ℕ) → Outside s offset j → get_or r.state.mem j 0 ≡ get_or s.mem j 0
  pub base : r.state.base ≡ s.base
  pub sp : r.state.sp ≡ s.sp
  pub low : (k : ℕ) → 2 ≤ k → k ≤ 8 → reg r.state k ≡ reg s k
  pub high : (k : ℕ) → 18 ≤ k → k ≤ 30 → reg r.state k ≡ reg s k

-- the block bytes, at whatever address, whatever the machine holds at entry, with budget enough; and the guest bytes by
-- the RV64 definition from the same PC, limit and flag
abbrev pub Demand3 : List ℕ → ℕ → ℕ → Bool → ℕ → List ℕ → ℕ → Type 0
Demand3 guest pc limit e offset block count =
    (address budget : ℕ) (s : State) (x : List ℕ) → Entry offset s x → length (A64.words block) ≤ budget
    → Ends offset s (length (A64.words block)) count (A64.run (A64.words block) address budget 0 s)
    (Rv64.run e (Rv64.clamped limit) 0 guest (Rv64.start x pc))
