use Rattle.std.proofs.Common.{ℕ, ◌≡◌, Bool, List}
use lib.Dec.{eqb}
use Rattle.block_log.specs.Log as L
use Rattle.block_log.proofs.previous.Given as goal

abbrev pub before_p : List ℕ → ℕ → ℕ → Bool
before_p m p q = eqb (L.next_at m q) p

-- the walk from here ends as the whole does
abbrev pub invariant-loop-q : goal.invariant-loop-q
invariant-loop-q l =
    L.walk l.m (before_p l.m l.p.number) l.q.number l.q.number ≡ L.previous l.m l.fn.head.number l.p.number

abbrev pub decreases-loop-q : goal.decreases-loop-q
decreases-loop-q l = l.q.number
