-- The word writers of `A64Emitter` in hart.rs, carried over with its constants and shifts: `<< k` is * 2 ^ k, `>> k` is / 2 ^ k, `& mask` is %, and
-- `|` of fields that share no bit is +. Nothing here is from the Arm manual; crates/translation/proofs/Writing.antt
-- shows that each word is the manual's.
use Rattle.std.specs.Prelude.{ℕ, ◌+◌, ◌*◌, ◌/◌, ◌%◌, ◌^◌, cond, List, [], ◌∷◌, ◌++◌, eqb}

abbrev pub ldr_x : ℕ → ℕ → ℕ → ℕ
ldr_x rt rn off_bytes = 0xF9400000 + off_bytes / 2 ^ 3 * 2 ^ 10 + rn * 2 ^ 5 + rt

abbrev pub str_x : ℕ → ℕ → ℕ → ℕ
str_x rt rn off_bytes = 0xF9000000 + off_bytes / 2 ^ 3 * 2 ^ 10 + rn * 2 ^ 5 + rt

abbrev pub add_x : ℕ → ℕ → ℕ → ℕ
add_x rd rn rm = 0x8B000000 + rm * 2 ^ 16 + rn * 2 ^ 5 + rd

abbrev pub sub_x : ℕ → ℕ → ℕ → ℕ
sub_x rd rn rm = 0xCB000000 + rm * 2 ^ 16 + rn * 2 ^ 5 + rd

abbrev pub and_x : ℕ → ℕ → ℕ → ℕ
and_x rd rn rm = 0x8A000000 + rm * 2 ^ 16 + rn * 2 ^ 5 + rd

abbrev pub orr_x : ℕ → ℕ → ℕ → ℕ
orr_x rd rn rm = 0xAA000000 + rm * 2 ^ 16 + rn * 2 ^ 5 + rd

abbrev pub eor_x : ℕ → ℕ → ℕ → ℕ
eor_x rd rn rm = 0xCA000000 + rm * 2 ^ 16 + rn * 2 ^ 5 + rd

abbrev pub lslv_x : ℕ → ℕ → ℕ → ℕ
lslv_x rd rn rm = 0x9AC02000 + rm * 2 ^ 16 + rn * 2 ^ 5 + rd

abbrev pub lsrv_x : ℕ → ℕ → ℕ → ℕ
lsrv_x rd rn rm = 0x9AC02400 + rm * 2 ^ 16 + rn * 2 ^ 5 + rd

abbrev pub asrv_x : ℕ → ℕ → ℕ → ℕ
asrv_x rd rn rm = 0x9AC02800 + rm * 2 ^ 16 + rn * 2 ^ 5 + rd

abbrev pub mul_x : ℕ → ℕ → ℕ → ℕ
mul_x rd rn rm = 0x9B007C00 + rm * 2 ^ 16 + rn * 2 ^ 5 + rd

abbrev pub smulh_x : ℕ → ℕ → ℕ → ℕ
smulh_x rd rn rm = 0x9B407C00 + rm * 2 ^ 16 + rn * 2 ^ 5 + rd

abbrev pub umulh_x : ℕ → ℕ → ℕ → ℕ
umulh_x rd rn rm = 0x9BC07C00 + rm * 2 ^ 16 + rn * 2 ^ 5 + rd

abbrev pub udiv_x : ℕ → ℕ → ℕ → ℕ
udiv_x rd rn rm = 0x9AC00800 + rm * 2 ^ 16 + rn * 2 ^ 5 + rd

abbrev pub sdiv_x : ℕ → ℕ → ℕ → ℕ
sdiv_x rd rn rm = 0x9AC00C00 + rm * 2 ^ 16 + rn * 2 ^ 5 + rd

abbrev pub mov_x : ℕ → ℕ → ℕ
mov_x rd rn = orr_x rd rn 31

abbrev pub sub_sp_imm : ℕ → ℕ
sub_sp_imm imm = 0xD10003FF + imm % 4096 * 2 ^ 10

abbrev pub add_sp_imm : ℕ → ℕ
add_sp_imm imm = 0x910003FF + imm % 4096 * 2 ^ 10

abbrev pub blr : ℕ → ℕ
blr rn = 0xD63F0000 + rn * 2 ^ 5

abbrev pub cmp_x : ℕ → ℕ → ℕ
cmp_x rn rm = 0xEB00001F + rm * 2 ^ 16 + rn * 2 ^ 5

abbrev pub csel_x : ℕ → ℕ → ℕ → ℕ → ℕ
csel_x rd rn rm c = 0x9A800000 + rm * 2 ^ 16 + c % 16 * 2 ^ 12 + rn * 2 ^ 5 + rd

abbrev pub sxtw_x : ℕ → ℕ → ℕ
sxtw_x rd rn = 0x93407C00 + rn * 2 ^ 5 + rd

-- the literal at the end of a block
abbrev pub ret : ℕ
ret = 0xD65F03C0

-- `mov_imm64`: the lowest halfword, then `for hw in 1..4` each part that is not 0 (document 01, rule 8)
abbrev pub part : ℕ → ℕ → ℕ
part val hw = val / 2 ^ (hw * 16) % 65536

abbrev pub movz : ℕ → ℕ → ℕ
movz rd part = 0xD2800000 + part * 2 ^ 5 + rd

unfoldable pub movk : ℕ → ℕ → ℕ → List ℕ
movk rd hw part = cond (eqb part 0) [] ((0xF2800000 + hw * 2 ^ 21 + part * 2 ^ 5 + rd) ∷ [])

unfoldable pub mov_imm64 : ℕ → ℕ → List ℕ
mov_imm64 rd val = movz rd (val % 65536) ∷ (movk rd 1 (part val 1) ++ (movk rd 2 (part val 2) ++ movk rd 3 (part val 3)))
