-- What the proof of `op_value` cites. Assumes nothing.
use Rattle.a64_alu.proofs.Comparing.{difference-sub}

pub ruleset op_results = difference-sub
