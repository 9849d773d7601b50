use native.Mathlib.Omega.{arith}
use Rattle.le.specs.Le.{bytes}
use Rattle.a64_text.specs.Operands.{conditions}
use lib.ListN.{get_or-eq_default}
use Rattle.a64_text.proofs.Texts.{past_five}
use Rattle.a64_text.proofs.operand.condition.Goals as goal

pub returns-in-0 : goal.returns-in-0
unfolding bytes
returns-in-0 c = rw c.in-0.is

pub returns-in-1 : goal.returns-in-1
unfolding bytes
returns-in-1 c = rw c.in-1.is

pub returns-in-2 : goal.returns-in-2
unfolding bytes
returns-in-2 c = rw c.in-2.is

pub returns-in-3 : goal.returns-in-3
unfolding bytes
returns-in-3 c = rw c.in-3.is

pub returns-in-4 : goal.returns-in-4
unfolding bytes
returns-in-4 c = rw c.in-4.is

pub returns-in-5 : goal.returns-in-5
unfolding bytes
returns-in-5 c = rw c.in-5.is

pub returns-in-6 : goal.returns-in-6
unfolding bytes
returns-in-6 c = rw c.in-6.is

pub returns-in-7 : goal.returns-in-7
unfolding bytes
returns-in-7 c = rw c.in-7.is

pub returns-in-8 : goal.returns-in-8
unfolding bytes
returns-in-8 c = rw c.in-8.is

pub returns-in-9 : goal.returns-in-9
unfolding bytes
returns-in-9 c = rw c.in-9.is

pub returns-in-10 : goal.returns-in-10
unfolding bytes
returns-in-10 c = rw c.in-10.is

pub returns-in-11 : goal.returns-in-11
unfolding bytes
returns-in-11 c = rw c.in-11.is

pub returns-in-12 : goal.returns-in-12
unfolding bytes
returns-in-12 c = rw c.in-12.is

pub returns-in-13 : goal.returns-in-13
unfolding bytes
returns-in-13 c = rw c.in-13.is

pub returns-in-14 : goal.returns-in-14
unfolding bytes
returns-in-14 c = rw c.in-14.is

pub returns-in_default : goal.returns-in_default
unfolding bytes
returns-in_default c = rw (get_or-eq_default conditions "nv" {n = c.args.c} (past_five 10 (past_five 5 (past_five 0 (omega arith) c.in_default.in_default-own.rest.0.0.0.0.0.0.0.0.0.0.0.0.0.0.1 c.in_default.in_default-own.rest.0.0.0.0.0.0.0.0.0.0.0.0.0.1 c.in_default.in_default-own.rest.0.0.0.0.0.0.0.0.0.0.0.0.1 c.in_default.in_default-own.rest.0.0.0.0.0.0.0.0.0.0.0.1 c.in_default.in_default-own.rest.0.0.0.0.0.0.0.0.0.0.1) c.in_default.in_default-own.rest.0.0.0.0.0.0.0.0.0.1 c.in_default.in_default-own.rest.0.0.0.0.0.0.0.0.1 c.in_default.in_default-own.rest.0.0.0.0.0.0.0.1 c.in_default.in_default-own.rest.0.0.0.0.0.0.1 c.in_default.in_default-own.rest.0.0.0.0.0.1) c.in_default.in_default-own.rest.0.0.0.0.1 c.in_default.in_default-own.rest.0.0.0.1 c.in_default.in_default-own.rest.0.0.1 c.in_default.in_default-own.rest.0.1 c.in_default.in_default-own.rest.1))
