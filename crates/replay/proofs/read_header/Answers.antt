use Rattle.std.proofs.Common.{◌∙◌, sym, arith}
use Rattle.replay.proofs.Filled.{load-filled}
use Rattle.replay.proofs.read_header.Goals as goal

pub returns-then-load-magic-clause-cases : goal.returns-then-load-magic-clause-cases
returns-then-load-magic-clause-cases c h is =
    let e =
    load-filled
    8
    0
    c.read_full.result
    _
    _
    _
    (omega (arith, h, c.read_full.ensures.count))
    (omega (arith, c.read_full.ensures.count))
    c.read_full.ensures.bytes in
    absurd (c.if-load-magic.true (c.load.ensures ∙ e ∙ is))

pub returns-clause-other : goal.returns-clause-other
returns-clause-other c h is =
    let e =
    load-filled
    8
    0
    c.read_full.result
    _
    _
    _
    (omega (arith, h, c.read_full.ensures.count))
    (omega (arith, c.read_full.ensures.count))
    c.read_full.ensures.bytes in
    absurd (is (sym e ∙ sym c.load.ensures ∙ c.if-load-magic.false))

pub returns-clause-cases : goal.returns-clause-cases
returns-clause-cases c h is =
    c.load-2.ensures
    ∙ load-filled
    4
    8
    c.read_full.result
    _
    _
    _
    (omega (arith, h, c.read_full.ensures.count))
    (omega (arith, c.read_full.ensures.count))
    c.read_full.ensures.bytes
