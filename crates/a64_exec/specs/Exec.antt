-- What each A64 form does, from the Arm Architecture Reference Manual (DDI 0487), C6.2. Definitions only.
use Rattle.std.specs.Prelude.{ℕ, ◌+◌, ◌-◌, ◌*◌, ◌%◌, ◌^◌, Bool, cond, not, ◌&&◌, ◌||◌, List, length, ◌==◌, nat_le, slice_index, slice_set}
use Rattle.word.specs.Word.{wrap, add, sext}
use Rattle.le.specs.Le.{load, store}
use Rattle.a64.specs.declared.Form.{Form}
use Rattle.a64.specs.declared.Form.TheVariants.{DataProcessing, OneSource, Ldr, Str, Movz, Movk, Cmp, Csel, Sxtw, AddSp, SubSp, Blr, Ret}
use Rattle.a64_alu.specs.declared.Flags.{Flags}
use Rattle.a64_alu.specs.Alu.{difference, compared, holds, op_value, op1_value, insert}
use Rattle.a64_exec.specs.declared.exec.Outcome.{Outcome}

-- ---- the state

-- x: X0 to X30. mem: the bytes from the address base on
pub record State : Type 0 where
  pub x : List ℕ
  pub sp : ℕ
  pub flags : Flags
  pub base : ℕ
  pub mem : List ℕ

abbrev pub machine : List ℕ → ℕ → Flags → ℕ → List ℕ → State
machine x sp flags base mem = record { x = x; sp = sp; flags = flags; base = base; mem = mem }

-- a register as an operand. Place 31 is past the end of the list: it reads as 0, and what is written there is lost
abbrev pub reg : State → ℕ → ℕ
reg s n = slice_index s.x n

abbrev pub with_reg : State → ℕ → ℕ → State
with_reg s n v = record { x = slice_set s.x n v; sp = s.sp; flags = s.flags; base = s.base; mem = s.mem }

abbrev pub with_sp : State → ℕ → State
with_sp s v = record { x = s.x; sp = v; flags = s.flags; base = s.base; mem = s.mem }

abbrev pub with_flags : State → Flags → State
with_flags s f = record { x = s.x; sp = s.sp; flags = f; base = s.base; mem = s.mem }

abbrev pub with_mem : State → List ℕ → State
with_mem s m = record { x = s.x; sp = s.sp; flags = s.flags; base = s.base; mem = m }

-- ---- accesses of eight bytes: the base is SP for register 31

abbrev pub address : State → ℕ → ℕ → ℕ
address s n imm = wrap (cond (n == 31) s.sp (reg s n) + imm * 8)

-- document 01: wholly inside memory, a multiple of 8, and through SP only where that is a multiple of 16
unfoldable pub reaches : State → ℕ → ℕ → Bool
reaches s n a =
    (nat_le s.base a && nat_le (a + 8) (s.base + length s.mem))
    && (a % 8 == 0 && (not (n == 31) || s.sp % 16 == 0))

-- ---- a form: how it leaves the machine, and the state, which only `Next` changes

pub record After : Type 0 where
  pub outcome : Outcome
  pub state : State

abbrev pub after : Outcome → State → After
after o s = record { outcome = o; state = s }

abbrev pub next : State → After
next s = after Outcome.Next s

unfoldable pub exec : Form → State → After
unfolding reaches
exec (DataProcessing op rd rn rm) s = next (with_reg s rd (op_value op (reg s rn) (reg s rm)))
exec (OneSource op rd rn) s = next (with_reg s rd (op1_value op (reg s rn)))
exec (Ldr rt rn imm) s =
    cond (reaches s rn (address s rn imm))
    (next (with_reg s rt (load 8 s.mem (address s rn imm - s.base)))) (after Outcome.Fault s)
exec (Str rt rn imm) s =
    cond (reaches s rn (address s rn imm))
    (next (with_mem s (store 8 s.mem (address s rn imm - s.base) (reg s rt)))) (after Outcome.Fault s)
exec (Movz rd hw imm) s = next (with_reg s rd (imm * 2 ^ (16 * hw)))
exec (Movk rd hw imm) s = next (with_reg s rd (insert (reg s rd) hw imm))
exec (Cmp rn rm) s = next (with_flags s (compared (reg s rn) (reg s rm)))
exec (Csel rd rn rm k) s = next (with_reg s rd (cond (holds k s.flags) (reg s rn) (reg s rm)))
exec (Sxtw rd rn) s = next (with_reg s rd (sext 32 (reg s rn)))
exec (AddSp imm) s = next (with_sp s (add s.sp imm))
exec (SubSp imm) s = next (with_sp s (difference s.sp imm))
exec (Blr rn) s = after Outcome.Call s
exec Ret s = after Outcome.Return s
exec Form.Unreadable s = after Outcome.Unreadable s
