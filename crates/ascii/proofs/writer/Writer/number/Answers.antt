use Rattle.std.proofs.Common.{rules, refl}
use Rattle.ascii.proofs.Writing.{put-store}
use Rattle.ascii.proofs.writer.Writer.number.Goals as goal

pub returns : goal.returns
returns g c =
    record { same = refl; length = c.store.auto.s; put = rw c.WIDTH.ensures (put-store _ _ _ _ _ c.store.ensures (search rules)) }
