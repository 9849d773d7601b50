use Rattle.std.proofs.Common.{refl}
use Rattle.le.proofs.Arrays.{put_low}
use Rattle.le.proofs.U16Number.store_at.Goals as goal

pub returns : goal.returns
returns c = put_low 2 _ _ _ _ _ _ refl c.copy_from_slice.ensures.after c.to_le_bytes.ensures
