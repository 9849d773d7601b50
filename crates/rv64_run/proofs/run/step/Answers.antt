use mathlib.Core.Path.{refl}
use Rattle.rv64_run.specs.Parts.{stepped, after}
use Rattle.rv64_run.proofs.Fetching.{fetched, decoded}
use Rattle.rv64_run.proofs.run.step.Goals as goal

pub returns-in_err-w : goal.returns-in_err-w
unfolding stepped after decoded
returns-in_err-w c = rw (c.from_residual.ensures, fetched, ← c.fetch.ensures, c.in_err-w.was) (refl, refl)

pub returns-in-Half : goal.returns-in-Half
unfolding stepped after decoded
returns-in-Half c = rw (c.step16.ensures.0, c.step16.ensures.1, fetched, ← c.fetch.ensures, c.in_ok-w.was, c.in-Half.is) (refl, refl)

pub returns-in-Word : goal.returns-in-Word
unfolding stepped after decoded
returns-in-Word c = rw (c.step32.ensures.0, c.step32.ensures.1, fetched, ← c.fetch.ensures, c.in_ok-w.was, c.in-Word.is) (refl, refl)
