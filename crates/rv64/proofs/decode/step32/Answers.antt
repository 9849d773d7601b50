use Rattle.rv64.proofs.Base.{base-first}
use Rattle.rv64.proofs.Steps as Steps
use Rattle.rv64.proofs.decode.step32.Goals as goal

pub apply-requires : goal.apply-requires
apply-requires c = rw c.or_zbb-e.ensures (base-first c.args.w c.args.pc c.args.x.now c.ranges.w.fits c.effect32-e.result c.effect32-e.ensures).0

pub returns : goal.returns
returns c = rw (c.apply.ensures.0, c.apply.ensures.1, c.or_zbb-e.ensures) (Steps.parts (base-first c.args.w c.args.pc c.args.x.now c.ranges.w.fits c.effect32-e.result c.effect32-e.ensures).1)
