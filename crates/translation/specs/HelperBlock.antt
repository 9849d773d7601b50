-- Blocks that a helper ends (document 02, No. 5): what their words do up to the call, and from where the helper returns. Definitions only.
use Rattle.std.specs.Prelude.{◌≡◌, cond, ◌⊎◌, List, [], ◌∷◌, ℕ, ◌+◌, ◌-◌, ◌*◌, ◌%◌, ◌^◌, ◌≤◌, ◌<◌, eqb, length, get_or, drop}
use Rattle.word.specs.Word.{wrap, add, sub}
use Rattle.le.specs.Le.{load}
use Rattle.isa.specs.Formats.{opcode, rd, funct3, rs1, rs2, i_imm, s_imm}
use Rattle.rv64.specs.Decode.{Table, lookup, itself}
use Rattle.rv64.specs.Execute.{read}
use Rattle.emit_native.specs.declared.Host.{Host}
use Rattle.emit_native.specs.Hart.{MEM_OP_LB, MEM_OP_LH, MEM_OP_LW, MEM_OP_LD, MEM_OP_LBU, MEM_OP_LHU, MEM_OP_LWU, MEM_OP_SB, MEM_OP_SH, MEM_OP_SW, MEM_OP_SD}
use Rattle.translator.specs.declared.EndKind.{EndKind}
use Rattle.translator.specs.Translate.{end_number}
use Rattle.a64_run.specs.declared.run.End.{End}
use Rattle.a64_exec.specs.Exec.{State, reg}
use Rattle.a64_run.specs.Run as A64
use Rattle.rv64_run.specs.declared.run.Ran as RV
use Rattle.rv64_run.specs.declared.run.Stop.{Stop}
use Rattle.rv64_run.specs.Run as Rv64
use Rattle.translation.specs.Demand3.{place, slot, Entry, Outside}

-- the number of the end kind of a block that a helper ends
abbrev pub HelperEnded : ℕ → Type 0
HelperEnded end = end ≡ end_number EndKind.Helper

-- ---- the helper's instruction, and what it is called with (document 01, rule 4, and 'Modules in port order', 5)

-- the instruction that bytes begin with: of 32 bits where its low two are 11, else of 16
abbrev pub first_instruction : List ℕ → ℕ
first_instruction bs = cond (eqb (Rv64.halfword bs % 4) 3) (Rv64.word bs) (Rv64.halfword bs)

-- the one at a PC, from guest bytes of which the first is at start
abbrev pub instruction : List ℕ → ℕ → ℕ → ℕ
instruction guest start pc = first_instruction (drop (sub pc start) guest)

-- the memory helper's operation, by funct3
abbrev pub loads : Table ℕ
loads =
    (0b000, MEM_OP_LB)
    ∷ (0b001, MEM_OP_LH)
    ∷ (0b010, MEM_OP_LW)
    ∷ (0b011, MEM_OP_LD)
    ∷ (0b100, MEM_OP_LBU)
    ∷ (0b101, MEM_OP_LHU)
    ∷ (0b110, MEM_OP_LWU)
    ∷ []

abbrev pub stores : Table ℕ
stores = (0b000, MEM_OP_SB) ∷ (0b001, MEM_OP_SH) ∷ (0b010, MEM_OP_SW) ∷ (0b011, MEM_OP_SD) ∷ []

-- the helper's address, and X0, X1, .. as it finds them
pub record Call : Type 0 where
  pub helper : ℕ
  pub arguments : List ℕ

-- X1 to X5 into X0 to X4, the instruction w, its PC. s: the state at the block's entry
abbrev pub general : ℕ → State → ℕ → ℕ → Call
general helper s w pc =
    record { helper = helper; arguments = reg s 1 ∷ reg s 2 ∷ reg s 3 ∷ reg s 4 ∷ reg s 5 ∷ w ∷ pc ∷ [] }

-- X1 to X3 into X0 to X2, the operation, rd, the value, the address, the PC
abbrev pub memory : ℕ → State → ℕ → ℕ → ℕ → ℕ → ℕ → Call
memory helper s operation w value address pc =
    record { helper = helper; arguments = reg s 1 ∷ reg s 2 ∷ reg s 3 ∷ operation ∷ rd w ∷ value ∷ address ∷ pc ∷ [] }

-- x: the guest's registers before the instruction. LOAD and STORE have the memory helper, FP loads and stores and AMO the other of
-- 32 bits. A load's value is 0
abbrev pub call : Host → State → List ℕ → ℕ → ℕ → Call
call h s x w pc =
    cond (eqb (w % 4) 3)
    (cond (eqb (opcode w) 0b0000011)
    (memory h.memory_helper s (lookup loads (funct3 w) itself 0) w 0 (add (read x (rs1 w)) (i_imm w)) pc)
    (cond (eqb (opcode w) 0b0100011)
    (memory h.memory_helper s (lookup stores (funct3 w) itself 0) w (read x (rs2 w)) (add (read x (rs1 w)) (s_imm w)) pc)
    (general h.helper32 s w pc)))
    (general h.helper16 s w pc)

-- ---- the stack

-- SP at the call, modulo 2 ^ 64. The saved X30 is in the eight bytes there
abbrev pub lowered : State → ℕ
lowered s = sub s.sp 16

-- where they are in the memory bytes
abbrev pub cell : State → ℕ
cell s = lowered s - s.base

-- what is asked of the state at entry beside `Entry`
pub record Stack (offset : ℕ) (s : State) : Type 0 where
  -- SP of 64 bits, a multiple of 16
  pub small : s.sp < 2 ^ 64
  pub aligned : s.sp % 16 ≡ 0
  -- the 16 bytes below it inside memory, so that they do not pass 2 ^ 64, and disjoint from every slot
  pub inside : (s.base ≤ lowered s) × (lowered s + 16 ≤ s.base + length s.mem)
  pub apart : (n : ℕ) → n < 32 → (slot s offset n + 8 ≤ lowered s) ⊎ (lowered s + 16 ≤ slot s offset n)

-- byte j of memory is none of them
abbrev pub Beside : State → ℕ → Type 0
Beside s j = (j < cell s) ⊎ (cell s + 16 ≤ j)

-- ---- after the call

-- a state t that the helper may leave, where it was called in the state c: all but SP and the saved X30 is its own
pub record Left (c t : State) : Type 0 where
  -- X0 to X30 of 64 bits, as many bytes of memory
  pub count : length t.x ≡ 31
  pub small : (k : ℕ) → reg t k < 2 ^ 64
  pub base : t.base ≡ c.base
  pub size : length t.mem ≡ length c.mem
  -- SP and the saved X30 as found
  pub sp : t.sp ≡ c.sp
  pub saved : load 8 t.mem (t.sp - t.base) ≡ load 8 c.mem (c.sp - c.base)

-- the run r of the words left, from t on; s: the state at the block's entry; prefix: the instructions before the helper's
pub record Returns (s t : State) (words prefix : ℕ) (r : A64.Ran) : Type 0 where
  -- to its return, in exactly as many steps as there are words left
  pub end : r.end ≡ End.Returned
  pub steps : r.steps ≡ words
  -- X0 is the helper's X0, X1 its X1 plus the prefix modulo 2 ^ 64
  pub x0 : reg r.state 0 ≡ reg t 0
  pub x1 : reg r.state 1 ≡ add (reg t 1) prefix
  -- SP and X30 are as at entry, memory and X18 to X29 as the helper left them
  pub sp : r.state.sp ≡ s.sp
  pub x30 : reg r.state 30 ≡ reg s 30
  pub memory : r.state.mem ≡ t.mem
  pub base : r.state.base ≡ t.base
  pub high : (k : ℕ) → 18 ≤ k → k ≤ 29 → reg r.state k ≡ reg t k

-- ---- the whole

-- the call of the instruction before which the guest's run g stands
abbrev pub called : Host → List ℕ → ℕ → State → RV.Ran → Call
called h guest start s g = call h s g.hart.x (instruction guest start g.hart.pc) g.hart.pc

-- the run r of a block at an address from s on, beside the guest's run g from start on; count: what translation answered
pub record Calls (h : Host) (guest : List ℕ) (start : ℕ) (block : List ℕ) (address : ℕ) (s : State) (count : ℕ) (r : A64.Ran) (g : RV.Ran) : Type 0 where
  -- the run ends as called
  pub end : r.end ≡ End.Called
  -- the guest does the count less one, and stands before the helper's instruction
  pub instructions : g.count + 1 ≡ count
  pub before : g.stop ≡ Stop.Helper
  -- slots 1 to 31 hold the registers after the prefix
  pub slots : (n : ℕ) → 1 ≤ n → n < 32 → load 8 r.state.mem (place s h.slot_offset n) ≡ get_or g.hart.x n 0
  -- the argument registers are as document 01 lays them out, X16 is the helper's address
  pub arguments : (k : ℕ) → k < length (called h guest start s g).arguments → reg r.state k ≡ get_or (called h guest start s g).arguments k 0
  pub x16 : reg r.state 16 ≡ (called h guest start s g).helper
  -- SP is 16 lower, the lower eight of those bytes hold the X30 of entry, X30 is the next word's address
  pub sp : r.state.sp ≡ lowered s
  pub saved : load 8 r.state.mem (cell s) ≡ reg s 30
  pub x30 : reg r.state 30 ≡ wrap (address + 4 * r.steps)
  -- X18 to X29 and all memory outside those slots and those 16 bytes are as at entry
  pub high : (k : ℕ) → 18 ≤ k → k ≤ 29 → reg r.state k ≡ reg s k
  pub size : length r.state.mem ≡ length s.mem
  pub memory : (j : ℕ) → Outside s h.slot_offset j → Beside s j → get_or r.state.mem j 0 ≡ get_or s.mem j 0
  pub base : r.state.base ≡ s.base
  -- from any state that the helper may leave, going on at the next word, with budget enough
  pub returns : (t : State) (budget : ℕ) → Left r.state t → length (A64.words block) ≤ r.steps + budget
      → Returns s t (length (A64.words block) - r.steps) (count - 1) (A64.from block address r.steps budget t)

-- the block bytes, at whatever address, whatever the machine holds at entry, with budget enough; and the guest bytes by
-- the RV64 definition from the same PC, limit and flag
abbrev pub HelperBlock : Host → List ℕ → ℕ → ℕ → List ℕ → ℕ → Type 0
HelperBlock h guest pc limit block count =
    (address budget : ℕ) (s : State) (x : List ℕ) → Entry h.slot_offset s x → Stack h.slot_offset s
    → length (A64.words block) ≤ budget
    → Calls h guest pc block address s count (A64.run (A64.words block) address budget 0 s)
    (Rv64.run h.ignore_ebreak (Rv64.clamped limit) 0 guest (Rv64.start x pc))
