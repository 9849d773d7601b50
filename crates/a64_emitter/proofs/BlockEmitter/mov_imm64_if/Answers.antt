use borrow.Author.Rules.{rules}
use mathlib.Core.Path.{◌≡◌}
use lib.ListN.{length}
use Rattle.a64_emitter.specs.Parts.{block_words}
use Rattle.a64_emitter.proofs.BlockEmitter.mov_imm64_if.Goals as goal

pub returns : goal.returns
unfolding block_words
returns g c =
    let l : length c.args.self.words ≡ g.row.N = search rules in
    rw l at c.mov_imm64_at_if.ensures.holds
