use mathlib.Core.Bool.{xor}
use Rattle.std.proofs.Common.{ne_eqb}
use Rattle.a64_alu.specs.Alu.{holds_even}
use Rattle.a64_alu.proofs.holds_even.Goals as goal

pub returns-in-0 : goal.returns-in-0
unfolding holds_even xor
returns-in-0 c = rw c.in-0.is

pub returns-in-1 : goal.returns-in-1
unfolding holds_even xor
returns-in-1 c = rw c.in-1.is

pub returns-in-2 : goal.returns-in-2
unfolding holds_even xor
returns-in-2 c = rw c.in-2.is

pub returns-in-3 : goal.returns-in-3
unfolding holds_even xor
returns-in-3 c = rw c.in-3.is

pub returns-in-4 : goal.returns-in-4
unfolding holds_even xor
returns-in-4 c = rw c.in-4.is

pub returns-in-5 : goal.returns-in-5
unfolding holds_even xor
returns-in-5 c = rw c.in-5.is

pub returns-in-6 : goal.returns-in-6
unfolding holds_even xor
returns-in-6 c = rw c.in-6.is

pub returns-in_default : goal.returns-in_default
unfolding holds_even xor
returns-in_default c = let k = c.in_default.in_default-own.rest in
    simp (ne_eqb _ _ k.0.0.0.0.0.0.1, ne_eqb _ _ k.0.0.0.0.0.1, ne_eqb _ _ k.0.0.0.0.1, ne_eqb _ _ k.0.0.0.1, ne_eqb _ _ k.0.0.1, ne_eqb _ _ k.0.1, ne_eqb _ _ k.1)
