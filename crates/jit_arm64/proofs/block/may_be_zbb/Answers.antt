use Rattle.std.proofs.Common.{inl, inr}
use Rattle.isa.proofs.ZbbRows.{no_zbb}
use Rattle.jit_arm64.proofs.block.may_be_zbb.Goals as goal

pub returns-in_default : goal.returns-in_default
returns-in_default c = let none = c.in_default.in_default-own.rest.1 in
    λ _. no_zbb _ (λ e. none (inr (inr (inl e)))) (λ e. none (inl e)) (λ e. none (inr (inr (inr e)))) (λ e. none (inr (inl e)))
