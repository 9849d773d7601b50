use Rattle.std.proofs.Common.{◌≤◌}
use denote.Param.Always.{always_mut}
use Rattle.replay.proofs.replay_cases.Given as goal

abbrev pub invariant-loop : goal.invariant-loop
invariant-loop g l =
    (always_mut g.F.FnMut l.initial.replay_case → always_mut g.F.FnMut l.replay_case) × (l.tally.cases ≤ l.counter)
    × (l.tally.wrong ≤ l.tally.cases)
