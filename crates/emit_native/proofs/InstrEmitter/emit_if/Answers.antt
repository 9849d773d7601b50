use borrow.Author.Rules.{rules}
use mathlib.Core.Path.{◌≡◌}
use lib.ListN.{length}
use Rattle.rules.specs.Limits.{instr_words}
use Rattle.emit_native.specs.Parts.{held}
use Rattle.emit_native.proofs.Chains.{asked}
use Rattle.emit_native.proofs.InstrEmitter.emit_if.Goals as goal

pub returns : goal.returns
unfolding held
returns c =
    let s = c.args.self in
    let l : length s.words.now ≡ instr_words = search rules in
    rw (c.emit_at_if.ensures.holds, l, asked (held s) c.args.test c.args.w)
