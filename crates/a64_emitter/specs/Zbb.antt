-- The word writers that the Rust lacks: the forms that Zbb needs (document 02, No. 7). Nothing here is from the Arm
-- manual; crates/translation/proofs/Writing.antt shows that each word is the manual's.
use Rattle.std.specs.Prelude.{ℕ, ◌+◌, ◌*◌, ◌^◌}

abbrev pub bic_x : ℕ → ℕ → ℕ → ℕ
bic_x rd rn rm = 0x8A200000 + rm * 2 ^ 16 + rn * 2 ^ 5 + rd

abbrev pub orn_x : ℕ → ℕ → ℕ → ℕ
orn_x rd rn rm = 0xAA200000 + rm * 2 ^ 16 + rn * 2 ^ 5 + rd

abbrev pub eon_x : ℕ → ℕ → ℕ → ℕ
eon_x rd rn rm = 0xCA200000 + rm * 2 ^ 16 + rn * 2 ^ 5 + rd

abbrev pub rorv_x : ℕ → ℕ → ℕ → ℕ
rorv_x rd rn rm = 0x9AC02C00 + rm * 2 ^ 16 + rn * 2 ^ 5 + rd

abbrev pub rev_x : ℕ → ℕ → ℕ
rev_x rd rn = 0xDAC00C00 + rn * 2 ^ 5 + rd

abbrev pub clz_x : ℕ → ℕ → ℕ
clz_x rd rn = 0xDAC01000 + rn * 2 ^ 5 + rd
