use Rattle.std.proofs.Common.{arith}
use Rattle.isa.specs.Classes.{class_of}
use Rattle.rv64.proofs.Steps as Steps
use Rattle.rv64.specs.Parts as S
use Rattle.rv64.specs.Execute as X
use Rattle.rv64.specs.Decode as D
use Rattle.rv64.proofs.decode.effect32.Goals as goal

pub returns-in-51 : goal.returns-in-51
unfolding D.base32 D.by_class class_of D.op
returns-in-51 c = rw (c.put.ensures, c.op.ensures, c.in-51.is, c.read-b.ensures, c.read-a.ensures) (Steps.op c.args.w c.args.pc c.args.x.now D.ops)

pub returns-in-19 : goal.returns-in-19
unfolding D.base32 D.by_class class_of
returns-in-19 c = rw (c.put-in-19.ensures, c.op_imm.ensures, c.in-19.is, c.read-a.ensures) (Steps.op_imm c.args.w c.args.pc c.args.x.now)

pub returns-in-59 : goal.returns-in-59
unfolding D.base32 D.by_class class_of D.op32
returns-in-59 c = rw (c.put-in-59.ensures, c.op_32.ensures, c.in-59.is, c.read-b.ensures, c.read-a.ensures) (Steps.op c.args.w c.args.pc c.args.x.now D.ops32)

pub returns-in-27 : goal.returns-in-27
unfolding D.base32 D.by_class class_of
returns-in-27 c = rw (c.put-in-27.ensures, c.op_imm_32.ensures, c.in-27.is, c.read-a.ensures) (Steps.op_imm_32 c.args.w c.args.pc c.args.x.now)

pub returns-in-55 : goal.returns-in-55
unfolding D.base32 D.by_class class_of S.applied X.exec
returns-in-55 c = (omega arith, rw (c.imm_u.ensures, c.in-55.is))

pub returns-in-23 : goal.returns-in-23
unfolding D.base32 D.by_class class_of S.applied X.exec
returns-in-23 c = (omega arith, rw (c.imm_u-in-23.ensures, c.in-23.is))

pub returns-in-111 : goal.returns-in-111
unfolding D.base32 D.by_class class_of S.applied X.exec
returns-in-111 c = (omega arith, rw (c.imm_j.ensures, c.in-111.is))

pub returns-in-103 : goal.returns-in-103
unfolding D.base32 D.by_class class_of S.applied X.exec
returns-in-103 c = (omega arith, rw (c.imm_i.ensures, c.in-103.is, c.read-a.ensures))

pub returns-in-99 : goal.returns-in-99
unfolding D.base32 D.by_class class_of
returns-in-99 c = rw (c.branch-w.ensures, c.imm_b.ensures, c.in-99.is, c.read-b.ensures, c.read-a.ensures, c.requires) (Steps.branch c.args.w c.args.pc c.args.x.now)

pub returns-in_default : goal.returns-in_default
unfolding D.base32 D.by_class class_of S.applied X.exec
returns-in_default c = rw c.other.ensures (Steps.other c.args.w c.args.pc c.args.x.now c.requires _ c.in_default.in_default-own.rest)
