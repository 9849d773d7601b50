use Rattle.block_log.specs.Log.{dropped}
use Rattle.block_log.proofs.drop_at.Goals as goal

pub returns : goal.returns
unfolding dropped
returns c = rw (
  c.store.ensures,
  c.at.ensures,
  c.unlink.ensures,
  c.bucket.ensures.0,
  c.entry_at-e.ensures,
)
