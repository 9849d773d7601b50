-- `emit_native_instr16`, arm by arm.
use Rattle.std.specs.Prelude.{ℕ, ◌/◌, ◌%◌, ◌^◌, Bool, cond, ◌&&◌, List, [], ◌∷◌, ◌++◌, ◌==◌}
use Rattle.word.specs.Word.{add, shl}
use Rattle.emit_native.specs.Hart.{C_EQ, C_NE, not_1}
use Rattle.isa.specs.Decode.{c_funct3, c_op, c_rd, c_rs2, rd_prime, rs1_prime, rs2_prime, imm_ci, shamt, imm_addi4spn, imm_addi16sp, imm_cj, imm_cb}
use Rattle.a64_emitter.specs.Writers.{add_x, and_x, orr_x, lslv_x, lsrv_x, asrv_x, cmp_x, csel_x, sxtw_x}
use Rattle.emit_native.specs.Calls.{Call, emit, mov_imm64, load, store, if_not_0, Emission, continue, terminate, none, calls_first}
use Rattle.emit_native.specs.Sequences.{sub, and_regs, or_regs, xor_regs, addw, subw}

-- ---- 0b00

unfoldable pub addi4spn : ℕ → Emission
addi4spn instr =
    cond (imm_addi4spn instr == 0) (none [])
    (continue (load 9 2 ∷ mov_imm64 10 (imm_addi4spn instr) ∷ emit (add_x 11 9 10) ∷ store 11 (rd_prime instr) ∷ []))

unfoldable pub quadrant_0 : ℕ → Emission
quadrant_0 instr = cond (c_funct3 instr == 0b000) (addi4spn instr) (none [])

-- ---- 0b01

-- C.ADDI, C.NOP
unfoldable pub c_addi : ℕ → Emission
c_addi instr =
    let rd = c_rd instr in
    continue (if_not_0 rd (load 9 rd ∷ mov_imm64 10 (imm_ci instr) ∷ emit (add_x 11 9 10) ∷ store 11 rd ∷ []))

unfoldable pub c_addiw : ℕ → Emission
c_addiw instr =
    let rd = c_rd instr in
    cond (rd == 0) (none [])
    (continue (load 9 rd ∷ mov_imm64 10 (imm_ci instr) ∷ emit (add_x 11 9 10) ∷ emit (sxtw_x 11 11) ∷ store 11 rd ∷ []))

unfoldable pub c_li : ℕ → Emission
c_li instr = let rd = c_rd instr in continue (if_not_0 rd (mov_imm64 11 (imm_ci instr) ∷ store 11 rd ∷ []))

unfoldable pub c_addi16sp : ℕ → Emission
c_addi16sp instr =
    cond (imm_addi16sp instr == 0) (none [])
    (continue (load 9 2 ∷ mov_imm64 10 (imm_addi16sp instr) ∷ emit (add_x 11 9 10) ∷ store 11 2 ∷ []))

unfoldable pub c_lui : ℕ → Emission
c_lui instr =
    let rd = c_rd instr in
    cond (rd == 0) (none [])
    (cond (imm_ci instr == 0) (none [])
    (continue (mov_imm64 11 (shl (imm_ci instr) 12) ∷ store 11 rd ∷ [])))

unfoldable pub c_srli : ℕ → Emission
c_srli instr =
    let rs1 = rs1_prime instr in
    continue (load 9 rs1 ∷ mov_imm64 10 (shamt instr) ∷ emit (lsrv_x 11 9 10) ∷ store 11 rs1 ∷ [])

unfoldable pub c_srai : ℕ → Emission
c_srai instr =
    let rs1 = rs1_prime instr in
    continue (load 9 rs1 ∷ mov_imm64 10 (shamt instr) ∷ emit (asrv_x 11 9 10) ∷ store 11 rs1 ∷ [])

unfoldable pub c_andi : ℕ → Emission
c_andi instr =
    let rs1 = rs1_prime instr in
    continue (load 9 rs1 ∷ mov_imm64 10 (imm_ci instr) ∷ emit (and_x 11 9 10) ∷ store 11 rs1 ∷ [])

-- `match (subop, alu2)`, with the store after it
unfoldable pub c_alu : ℕ → ℕ → ℕ → Emission
c_alu subop alu2 rs1 =
    let store_rs1 : List Call = store 11 rs1 ∷ [] in
    cond (subop == 0 && alu2 == 0b00) (continue (sub ++ store_rs1))
    (cond (subop == 0 && alu2 == 0b01) (continue (xor_regs ++ store_rs1))
    (cond (subop == 0 && alu2 == 0b10) (continue (or_regs ++ store_rs1))
    (cond (subop == 0 && alu2 == 0b11) (continue (and_regs ++ store_rs1))
    (cond (subop == 1 && alu2 == 0b00) (continue (subw ++ store_rs1))
    (cond (subop == 1 && alu2 == 0b01) (continue (addw ++ store_rs1))
    (none []))))))

unfoldable pub c_group : ℕ → Emission
c_group instr =
    let funct2 = instr / 2 ^ 10 % 4 in
    cond (funct2 == 0b00) (c_srli instr)
    (cond (funct2 == 0b01) (c_srai instr)
    (cond (funct2 == 0b10) (c_andi instr)
    (cond (funct2 == 0b11)
    (calls_first (load 9 (rs1_prime instr) ∷ load 10 (rs2_prime instr) ∷ []) (c_alu (instr / 2 ^ 12 % 2) (instr / 2 ^ 5 % 4) (rs1_prime instr)))
    (none []))))

unfoldable pub c_j : ℕ → ℕ → Emission
c_j pc instr = terminate (mov_imm64 0 (add pc (imm_cj instr)) ∷ [])

-- C.BEQZ, C.BNEZ
unfoldable pub c_branch_on : ℕ → ℕ → ℕ → Emission
c_branch_on pc instr condition =
    terminate
    (load 9 (rs1_prime instr)
    ∷ mov_imm64 10 0
    ∷ emit (cmp_x 9 10)
    ∷ mov_imm64 12 (add pc (imm_cb instr))
    ∷ mov_imm64 13 (add pc 2)
    ∷ emit (csel_x 0 12 13 condition)
    ∷ [])

abbrev pub c_condition : ℕ → ℕ
c_condition funct3 = cond (funct3 == 0b110) C_EQ C_NE

unfoldable pub c_branch : ℕ → ℕ → ℕ → Emission
c_branch pc instr funct3 = c_branch_on pc instr (c_condition funct3)

unfoldable pub c_addi16sp_lui : ℕ → Emission
c_addi16sp_lui instr = cond (c_rd instr == 2) (c_addi16sp instr) (c_lui instr)

unfoldable pub quadrant_1 : ℕ → ℕ → Emission
quadrant_1 pc instr =
    let funct3 = c_funct3 instr in
    cond (funct3 == 0b000) (c_addi instr)
    (cond (funct3 == 0b001) (c_addiw instr)
    (cond (funct3 == 0b010) (c_li instr)
    (cond (funct3 == 0b011) (c_addi16sp_lui instr)
    (cond (funct3 == 0b100) (c_group instr)
    (cond (funct3 == 0b101) (c_j pc instr)
    (cond (funct3 == 0b110) (c_branch pc instr funct3)
    (cond (funct3 == 0b111) (c_branch pc instr funct3)
    (none []))))))))

-- ---- 0b10

unfoldable pub c_slli : ℕ → Emission
c_slli instr =
    let rd = c_rd instr in
    cond (rd == 0) (none [])
    (continue (load 9 rd ∷ mov_imm64 10 (shamt instr) ∷ emit (lslv_x 11 9 10) ∷ store 11 rd ∷ []))

unfoldable pub c_jr : ℕ → Emission
c_jr rd = cond (rd == 0) (none []) (terminate (load 9 rd ∷ mov_imm64 10 not_1 ∷ emit (and_x 0 9 10) ∷ []))

unfoldable pub c_mv : ℕ → ℕ → Emission
c_mv rd rs2 = cond (rd == 0) (none []) (continue (load 11 rs2 ∷ store 11 rd ∷ []))

unfoldable pub c_ebreak : Bool → Emission
c_ebreak ignore_ebreak = cond ignore_ebreak (continue []) (none [])

unfoldable pub c_jalr : ℕ → ℕ → Emission
c_jalr pc rd =
    terminate
    (load 9 rd
    ∷ mov_imm64 10 not_1
    ∷ emit (and_x 11 9 10)
    ∷ mov_imm64 12 (add pc 2)
    ∷ store 12 1
    ∷ emit (orr_x 0 11 31)
    ∷ [])

unfoldable pub c_add : ℕ → ℕ → Emission
c_add rd rs2 =
    cond (rd == 0) (none [])
    (continue (load 9 rd ∷ load 10 rs2 ∷ emit (add_x 11 9 10) ∷ if_not_0 rd (store 11 rd ∷ [])))

unfoldable pub c_jump_move_add : Bool → ℕ → ℕ → Emission
c_jump_move_add ignore_ebreak pc instr =
    let rd = c_rd instr in
    let rs2 = c_rs2 instr in
    let bit12 = instr / 2 ^ 12 % 2 in
    cond (bit12 == 0)
    (cond (rs2 == 0) (c_jr rd) (c_mv rd rs2))
    (cond (rs2 == 0) (cond (rd == 0) (c_ebreak ignore_ebreak) (c_jalr pc rd)) (c_add rd rs2))

unfoldable pub quadrant_2 : Bool → ℕ → ℕ → Emission
quadrant_2 ignore_ebreak pc instr =
    let funct3 = c_funct3 instr in
    cond (funct3 == 0b000) (c_slli instr)
    (cond (funct3 == 0b100) (c_jump_move_add ignore_ebreak pc instr)
    (none []))

unfoldable pub emit_native_instr16 : Bool → ℕ → ℕ → Emission
emit_native_instr16 ignore_ebreak pc instr =
    let op = c_op instr in
    cond (op == 0b00) (quadrant_0 instr)
    (cond (op == 0b01) (quadrant_1 pc instr)
    (cond (op == 0b10) (quadrant_2 ignore_ebreak pc instr)
    (none [])))
