use borrow.Author.Rules.{rules}
use mathlib.Core.Path.{◌≡◌}
use lib.ListN.{length}
use Rattle.a64_emitter.specs.Parts.{block_words}
use Rattle.a64_emitter.proofs.BlockEmitter.emit_if.Goals as goal

pub returns : goal.returns
unfolding block_words
returns g c =
    let l : length c.args.self.words ≡ g.row.N = search rules in
    rw l at c.emit_at_if.ensures.holds
