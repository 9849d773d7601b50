use Rattle.a64_emitter.specs.Parts.{block_words}
use Rattle.a64_emitter.proofs.BlockEmitter.finish.Goals as goal

pub returns : goal.returns
unfolding block_words
returns g c = c.write_words.ensures
