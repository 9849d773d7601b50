use Rattle.std.proofs.Common.{◌∙◌, add_assoc, add-one}
use Rattle.a64_run.specs.Run.{onward}
use Rattle.a64_run.proofs.RunLaws.{off_end, spent, ended, onto}
use Rattle.a64_run.proofs.run.run_words.Goals as goal

pub returns-then-k-budget-clause-ran : goal.returns-then-k-budget-clause-ran
returns-then-k-budget-clause-ran c = spent c.loop-k.invariant.running c.loop-k-test.true c.if-k-budget.true

pub returns-in-Fault-clause-ran : goal.returns-in-Fault-clause-ran
unfolding onward
returns-in-Fault-clause-ran c = ended c.loop-k.invariant.running c.step.result _ c.loop-k-test.true c.if-k-budget.false c.step.ensures.goes _ (rw c.in-Fault.is)

pub returns-in-Unreadable-clause-ran : goal.returns-in-Unreadable-clause-ran
unfolding onward
returns-in-Unreadable-clause-ran c = ended c.loop-k.invariant.running c.step.result _ c.loop-k-test.true c.if-k-budget.false c.step.ensures.goes _ (rw c.in-Unreadable.is)

pub returns-in-Return-clause-ran : goal.returns-in-Return-clause-ran
unfolding onward
returns-in-Return-clause-ran c = ended c.loop-k.invariant.running c.step.result _ c.loop-k-test.true c.if-k-budget.false c.step.ensures.goes _ (rw (c.in-Return.is, add-one))

pub returns-in-Call-clause-ran : goal.returns-in-Call-clause-ran
unfolding onward
returns-in-Call-clause-ran c = ended c.loop-k.invariant.running c.step.result _ c.loop-k-test.true c.if-k-budget.false c.step.ensures.goes _ (rw (c.in-Call.is, add-one, c.link.ensures.held, ← add_assoc))

pub loop-k-preserved : goal.loop-k-preserved
loop-k-preserved c = record {
  running = onto c.loop-k.invariant.running c.step.result _ c.loop-k-test.true c.if-k-budget.false c.step.ensures.goes c.in-Next.is c.step.ensures.size;
  x_lent = c.step.ensures.x_lent ∙ c.loop-k.invariant.x_lent;
  memory_lent = c.step.ensures.memory_lent ∙ c.loop-k.invariant.memory_lent;
}

pub returns-clause-ran : goal.returns-clause-ran
returns-clause-ran c = off_end c.loop-k.invariant.running c.loop-k-test.false
