use Rattle.std.proofs.Common.{sym, ◌∙◌, eq-eqb, ne_eqb, rules}
use Rattle.a64_run.specs.Run.{answered}
use Rattle.a64_run.proofs.run.a64_run_from.Goals as goal

pub returns-then-block-ne0 : goal.returns-then-block-ne0
unfolding answered
returns-then-block-ne0 c = rw (ne_eqb _ _ c.if-block-ne0.true)

pub returns-then-beyond : goal.returns-then-beyond
unfolding answered
returns-then-beyond c = let b = sym c.beyond.ensures ∙ c.if-beyond.true in
    rw (eq-eqb _ _ c.if-block-ne0.false, b)

pub returns : goal.returns
unfolding answered
returns c = let b = sym c.beyond.ensures ∙ c.if-beyond.false in
    rw (eq-eqb _ _ c.if-block-ne0.false, b, ← c.run_words-end.ensures.ran) (search rules)
