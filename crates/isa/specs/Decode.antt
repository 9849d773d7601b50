-- decode.rs, carried over, with the fields and the immediates that jit_arm64.rs takes from 16 bits. `>> k` is / 2 ^ k, `& mask` is %, `<< k` is
-- * 2 ^ k, and `|` of fields that share no bit is +.
use Rattle.std.specs.Prelude.{ℕ, ◌+◌, ◌-◌, ◌*◌, ◌/◌, ◌%◌, ◌^◌}
use Rattle.word.specs.Word.{shl, asr}
use Rattle.isa.specs.declared.decode.Decoded32.{Decoded32}

-- `((val << shift) as i64) >> shift`
unfoldable pub sign_extend : ℕ → ℕ → ℕ
sign_extend val bits = asr (shl val (64 - bits)) (64 - bits)

unfoldable pub imm_i : ℕ → ℕ
imm_i instr = sign_extend (instr / 2 ^ 20) 12

unfoldable pub imm_s : ℕ → ℕ
imm_s instr = sign_extend (instr / 2 ^ 25 * 2 ^ 5 + instr / 2 ^ 7 % 32) 12

unfoldable pub imm_b : ℕ → ℕ
imm_b instr =
    let bit12 = instr / 2 ^ 31 % 2 in
    let bit11 = instr / 2 ^ 7 % 2 in
    let bits10_5 = instr / 2 ^ 25 % 64 in
    let bits4_1 = instr / 2 ^ 8 % 16 in
    sign_extend (bit12 * 2 ^ 12 + bit11 * 2 ^ 11 + bits10_5 * 2 ^ 5 + bits4_1 * 2 ^ 1) 13

-- `instr & 0xfffff000`
unfoldable pub imm_u : ℕ → ℕ
imm_u instr = sign_extend (instr / 2 ^ 12 * 2 ^ 12) 32

unfoldable pub imm_j : ℕ → ℕ
imm_j instr =
    let bit20 = instr / 2 ^ 31 % 2 in
    let bits19_12 = instr / 2 ^ 12 % 256 in
    let bit11 = instr / 2 ^ 20 % 2 in
    let bits10_1 = instr / 2 ^ 21 % 1024 in
    sign_extend (bit20 * 2 ^ 20 + bits19_12 * 2 ^ 12 + bit11 * 2 ^ 11 + bits10_1 * 2 ^ 1) 21

-- without the CSR field
abbrev pub decode32 : ℕ → Decoded32
decode32 instr =
    record {
      opcode = instr % 128;
      rd = instr / 2 ^ 7 % 32;
      funct3 = instr / 2 ^ 12 % 8;
      rs1 = instr / 2 ^ 15 % 32;
      rs2 = instr / 2 ^ 20 % 32;
      funct7 = instr / 2 ^ 25 % 128;
      funct5 = instr / 2 ^ 27 % 32;
      imm12 = instr / 2 ^ 20 % 4096;
    }

-- ---- 16 bits

abbrev pub c_funct3 : ℕ → ℕ
c_funct3 instr = instr / 2 ^ 13 % 8

abbrev pub c_op : ℕ → ℕ
c_op instr = instr % 4

abbrev pub c_rd : ℕ → ℕ
c_rd instr = instr / 2 ^ 7 % 32

abbrev pub c_rs2 : ℕ → ℕ
c_rs2 instr = instr / 2 ^ 2 % 32

abbrev pub rd_prime : ℕ → ℕ
rd_prime instr = instr / 2 ^ 2 % 8 + 8

abbrev pub rs1_prime : ℕ → ℕ
rs1_prime instr = instr / 2 ^ 7 % 8 + 8

abbrev pub rs2_prime : ℕ → ℕ
rs2_prime instr = instr / 2 ^ 2 % 8 + 8

-- bit k at place j: `((instr >> k) & 0x1) << j`
abbrev pub bit : ℕ → ℕ → ℕ → ℕ
bit instr k j = instr / 2 ^ k % 2 * 2 ^ j

unfoldable pub imm_ci : ℕ → ℕ
imm_ci instr = sign_extend (bit instr 12 5 + instr / 2 ^ 2 % 32) 6

unfoldable pub shamt : ℕ → ℕ
shamt instr = bit instr 12 5 + instr / 2 ^ 2 % 32

-- of C.ADDI4SPN
unfoldable pub imm_addi4spn : ℕ → ℕ
imm_addi4spn instr =
    bit instr 12 5 + bit instr 11 4 + bit instr 10 9 + bit instr 9 8 + bit instr 8 7 + bit instr 7 6 + bit instr 6 2 + bit instr 5 3

-- of C.ADDI16SP
unfoldable pub imm_addi16sp : ℕ → ℕ
imm_addi16sp instr = sign_extend (bit instr 12 9 + bit instr 6 4 + bit instr 5 6 + bit instr 4 8 + bit instr 3 7 + bit instr 2 5) 10

-- of C.J
unfoldable pub imm_cj : ℕ → ℕ
imm_cj instr =
    sign_extend
    (bit instr 12 11 + bit instr 11 4 + bit instr 10 9 + bit instr 9 8 + bit instr 8 10 + bit instr 7 6 + bit instr 6 7 + bit instr 5 3
    + bit instr 4 2 + bit instr 3 1 + bit instr 2 5)
    12

-- of C.BEQZ and C.BNEZ
unfoldable pub imm_cb : ℕ → ℕ
imm_cb instr =
    sign_extend
    (bit instr 12 8 + bit instr 11 4 + bit instr 10 3 + bit instr 6 7 + bit instr 5 6 + bit instr 4 2 + bit instr 3 1 + bit instr 2 5)
    9
