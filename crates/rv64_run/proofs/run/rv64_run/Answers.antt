use borrow.Author.Tests.{eq-eqb, ne_eqb}
use Rattle.rv64_run.specs.Run.{answer, answer_of, refusal_of, number}
use Rattle.rv64_run.proofs.Refusing.{answer-at_first, accepted, unmoved}
use Rattle.rv64_run.proofs.run.rv64_run.Goals as goal

pub returns-then-limit-eq0-clause-numbers : goal.returns-then-limit-eq0-clause-numbers
unfolding answer answer_of refusal_of number
returns-then-limit-eq0-clause-numbers c = rw (eq-eqb _ _ c.if-limit-eq0.true)

pub returns-then-hart-ne0-clause-numbers : goal.returns-then-hart-ne0-clause-numbers
unfolding answer answer_of refusal_of number
returns-then-hart-ne0-clause-numbers c = rw (ne_eqb _ _ c.if-limit-eq0.false, ne_eqb _ _ c.if-hart-ne0.true)

pub returns-then-ran-eq0-clause-numbers : goal.returns-then-ran-eq0-clause-numbers
returns-then-ran-eq0-clause-numbers c =
    let e = rw c.min.ensures at c.run-ran.ensures in
    rw (c.at_first.ensures, unmoved _ _ _ _ c.if-limit-eq0.false c.if-hart-ne0.false e c.if-ran-eq0.true)
    (answer-at_first _ _ _ _ c.if-limit-eq0.false c.if-hart-ne0.false e c.if-ran-eq0.true)

pub returns-then-ran-eq0-clause-given : goal.returns-then-ran-eq0-clause-given
returns-then-ran-eq0-clause-given c =
    unmoved _ _ _ _ c.if-limit-eq0.false c.if-hart-ne0.false (rw c.min.ensures at c.run-ran.ensures) c.if-ran-eq0.true

pub returns-clause-numbers : goal.returns-clause-numbers
returns-clause-numbers c = accepted _ _ _ _ c.if-limit-eq0.false c.if-hart-ne0.false (rw c.min.ensures at c.run-ran.ensures) c.if-ran-eq0.false
