pub mod Instr16
