pub mod Instr32
