use native.Mathlib.Omega.{arith}
use Rattle.rv64_run.specs.Run.{onward}
use Rattle.rv64_run.proofs.Running.{at_limit, onto, one, fits, on}
use Rattle.rv64_run.proofs.run.run.Goals as goal

pub overflow_add-at : goal.overflow_add-at
overflow_add-at c = let k = fits c.loop-n.invariant c.if-n-limit.false c.step.ensures.0 c.step.ensures.1 c.in-Some.is in omega arith

pub loop-n-preserved : goal.loop-n-preserved
loop-n-preserved c = on c.loop-n.invariant c.if-n-limit.false c.step.ensures.0 c.step.ensures.1 (rw c.in-Next.is at c.in-Some.is)

pub returns-then-n-limit : goal.returns-then-n-limit
returns-then-n-limit c = at_limit c.loop-n.invariant c.if-n-limit.true

pub returns-in_default : goal.returns-in_default
unfolding onto
returns-in_default c = rw c.in_default.is at (one c.loop-n.invariant c.if-n-limit.false c.step.ensures.0 c.step.ensures.1)

pub returns-in-Ended : goal.returns-in-Ended
unfolding onto onward
returns-in-Ended c = rw (c.in-Some.is, c.in-Ended.is) at (one c.loop-n.invariant c.if-n-limit.false c.step.ensures.0 c.step.ensures.1)

pub returns-in-Helper : goal.returns-in-Helper
unfolding onto onward
returns-in-Helper c = rw (c.in-Some.is, c.in-Helper.is) at (one c.loop-n.invariant c.if-n-limit.false c.step.ensures.0 c.step.ensures.1)

pub returns-in-Uncovered : goal.returns-in-Uncovered
unfolding onto onward
returns-in-Uncovered c = rw (c.in-Some.is, c.in-Uncovered.is) at (one c.loop-n.invariant c.if-n-limit.false c.step.ensures.0 c.step.ensures.1)
