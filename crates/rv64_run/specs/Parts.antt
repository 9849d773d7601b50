-- What the functions of this crate promise one another; no operation's contract reaches it.
use Rattle.std.specs.Prelude.{cond, not, List, ℕ, ◌%◌, ltb, eqb, length, Option, Some, None}
use Rattle.rules.specs.declared.refusals.Refusal.{Refusal}
use Rattle.rv64.specs.declared.execute.Flow.{Flow}
use Rattle.rv64.specs.Execute.{exec}
use Rattle.rv64_run.specs.declared.run.Encoding.{Encoding}
use Rattle.rv64_run.specs.declared.run.Stop.{Stop}
use Rattle.rv64_run.specs.Run.{Fetched, halfword, word}

unfoldable pub encoding : List ℕ → Option Encoding
encoding bs =
    cond (ltb (length bs) 2) None
    (cond (not (eqb (halfword bs % 4) 3)) (Some (Encoding.Half (halfword bs)))
    (cond (ltb (length bs) 4) None (Some (Encoding.Word (word bs)))))

-- the step of what was fetched, and the registers after it
unfoldable pub stepped : Fetched → ℕ → List ℕ → Option (Flow × ℕ)
stepped None pc x = None
stepped (Some (i, size)) pc x = Some ((exec i size pc x).flow, size)

unfoldable pub after : Fetched → ℕ → List ℕ → List ℕ
after None pc x = x
after (Some (i, size)) pc x = (exec i size pc x).x

-- the refusal of a run that stopped at its first instruction
unfoldable pub at_first : Stop → Refusal
at_first Stop.NotFetched = Refusal.NotFetched
at_first Stop.Limit = Refusal.NotCovered
at_first Stop.Ended = Refusal.NotCovered
at_first Stop.Helper = Refusal.NotCovered
at_first Stop.Uncovered = Refusal.NotCovered
