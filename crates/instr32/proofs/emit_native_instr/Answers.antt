use Rattle.instr32.proofs.Dispatch.{in_arm, refused}
use Rattle.instr32.proofs.emit_native_instr.Goals as goal

pub returns-in-Lui : goal.returns-in-Lui
returns-in-Lui c = rw (in_arm _ _ _ c.requires c.opcode_class.ensures c.in-Lui.is) c.emit_lui.ensures

pub returns-in-Auipc : goal.returns-in-Auipc
returns-in-Auipc c = rw (in_arm _ _ _ c.requires c.opcode_class.ensures c.in-Auipc.is) c.emit_auipc.ensures

pub returns-in-Jal : goal.returns-in-Jal
returns-in-Jal c = rw (in_arm _ _ _ c.requires c.opcode_class.ensures c.in-Jal.is) c.emit_jal.ensures

pub returns-in-Jalr : goal.returns-in-Jalr
returns-in-Jalr c = rw (in_arm _ _ _ c.requires c.opcode_class.ensures c.in-Jalr.is) c.emit_jalr.ensures

pub returns-in-Branch : goal.returns-in-Branch
returns-in-Branch c = rw (in_arm _ _ _ c.requires c.opcode_class.ensures c.in-Branch.is) c.emit_branch.ensures

pub returns-in-OpImm : goal.returns-in-OpImm
returns-in-OpImm c = rw (in_arm _ _ _ c.requires c.opcode_class.ensures c.in-OpImm.is) c.emit_op_imm.ensures

pub returns-in-OpImm32 : goal.returns-in-OpImm32
returns-in-OpImm32 c = rw (in_arm _ _ _ c.requires c.opcode_class.ensures c.in-OpImm32.is) c.emit_op_imm_32.ensures

pub returns-in-Op32 : goal.returns-in-Op32
returns-in-Op32 c = rw (in_arm _ _ _ c.requires c.opcode_class.ensures c.in-Op32.is) c.emit_op_32.ensures

pub returns-in-Op : goal.returns-in-Op
returns-in-Op c = rw (in_arm _ _ _ c.requires c.opcode_class.ensures c.in-Op.is) c.emit_op.ensures

pub returns-in-MiscMem : goal.returns-in-MiscMem
returns-in-MiscMem c = rw (in_arm _ _ _ c.requires c.opcode_class.ensures c.in-MiscMem.is) c.emit_misc_mem.ensures

pub returns-in-Load : goal.returns-in-Load
returns-in-Load c = rw (refused _ _ _ c.requires c.opcode_class.ensures c.in-Load.is) c.none.ensures.answers
