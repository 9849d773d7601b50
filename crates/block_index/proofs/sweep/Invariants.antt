use Rattle.std.proofs.Common.{◌≡◌, ◌<◌}
use Rattle.block_log.specs.Log.{used, slots}
use Rattle.block_index.specs.Index.{swept, room_left}
use Rattle.block_index.proofs.sweep.Given as goal

-- the sweep from here ends as the whole does
abbrev pub invariant-loop-p : goal.invariant-loop-p
invariant-loop-p l =
    (l.p < slots) × (swept l.m l.e l.room l.p ≡ swept l.initial.m l.e l.room-2 (used l.initial.m))
    × (room_left l.m l.e l.room l.p ≡ room_left l.initial.m l.e l.room-2 (used l.initial.m))
