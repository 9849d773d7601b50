use Rattle.translator.proofs.Translating.{is_drop, is_helper, is_plain}
use Rattle.translator.proofs.end_kind.Goals as goal

pub returns-then-fence : goal.returns-then-fence
returns-then-fence c f q = is_drop f _ c.if-fence.true q

pub returns-in-Helper : goal.returns-in-Helper
returns-in-Helper c f q = is_helper f c.if-fence.false c.in-Helper.is q

pub returns : goal.returns
returns c f q = is_plain f _ c.if-fence.false c.in_default.not-Helper q
