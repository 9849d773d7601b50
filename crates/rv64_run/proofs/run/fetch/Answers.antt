use borrow.Author.Tests.{eq-eqb, ne_eqb, lt-ltb, le-ltb}
use lib.ListN.{length-drop}
use Rattle.rv64_run.specs.Parts.{encoding}
use Rattle.rv64_run.proofs.Fetching.{at_front}
use Rattle.rv64_run.proofs.run.fetch.Goals as goal

pub returns-then-left-lt2 : goal.returns-then-left-lt2
unfolding encoding
returns-then-left-lt2 c = rw (length-drop, lt-ltb _ _ c.if-left-lt2.true)

pub returns-then-low-ne3 : goal.returns-then-low-ne3
unfolding encoding
returns-then-low-ne3 c = rw (length-drop, le-ltb _ _ c.if-left-lt2.false, at_front, ← c.load-low.ensures, ne_eqb _ _ c.if-low-ne3.true)

pub returns-then-left-lt4 : goal.returns-then-left-lt4
unfolding encoding
returns-then-left-lt4 c = rw (length-drop, le-ltb _ _ c.if-left-lt2.false, at_front, ← c.load-low.ensures, eq-eqb _ _ c.if-low-ne3.false, lt-ltb _ _ c.if-left-lt4.true)

pub returns : goal.returns
unfolding encoding
returns c = rw (length-drop, le-ltb _ _ c.if-left-lt2.false, at_front 2, ← c.load-low.ensures, at_front 4, ← c.load.ensures, eq-eqb _ _ c.if-low-ne3.false, le-ltb _ _ c.if-left-lt4.false)
