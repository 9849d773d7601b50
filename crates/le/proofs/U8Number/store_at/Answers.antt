use Rattle.std.proofs.Common.{arith, ◌≡◌, ◌%◌}
use Rattle.le.proofs.Laws.{store_byte}
use Rattle.le.proofs.U8Number.store_at.Goals as goal

pub returns : goal.returns
returns c = let a = c.args in
    let e : a.self % 256 ≡ a.self = omega arith in
    rw (store_byte a.s.now a.at a.self (omega arith), e)
