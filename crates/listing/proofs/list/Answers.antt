use Rattle.std.proofs.Common.{arith, ◌∙◌, sym}
use borrow.Author.Tests.{ltb-true}
use Rattle.listing.proofs.Answering.{ragged, too_long, outside, short-output, listed, no_word}
use Rattle.listing.proofs.list.Goals.{then-block-ne0-via-then-block-ne0, then-block-ne0-via-else-block-ne0+then-block-gt4294967296}
use Rattle.listing.proofs.list.Goals as goal

pub returns-then-block-ne0 : goal.returns-then-block-ne0
returns-then-block-ne0 c = let a = c.args in
    elim c.then-block-ne0.branch [
      | then-block-ne0-via-then-block-ne0 w ↦ ragged a.block.now a.output.now w.if-block-ne0.true
      | then-block-ne0-via-else-block-ne0+then-block-gt4294967296 w ↦ too_long a.block.now a.output.now w.if-block-ne0.false (omega arith)
    ]

pub returns-then-block-eq0 : goal.returns-then-block-eq0
returns-then-block-eq0 c = no_word c.args.block.now c.args.output.now c.if-block-eq0.true

pub returns-in-Some : goal.returns-in-Some
returns-in-Some c = let a = c.args in
    outside a.block.now a.output.now c.if-block-ne0.false (omega arith) c.in-Some.ensures.none c.in-Some.offset c.in-Some.ensures.some

pub returns-then-too_short : goal.returns-then-too_short
returns-then-too_short c = let a = c.args in
    short-output a.block.now a.output.now c.if-block-ne0.false (omega arith) c.in_default.ensures.none
    (ltb-true _ _ (sym c.too_short.ensures ∙ c.if-too_short.true))

pub returns : goal.returns
returns c = let a = c.args in
    listed a.block.now a.output.now c.if-block-ne0.false (omega arith) c.in_default.ensures.none _ _ c.put_lines.ensures
