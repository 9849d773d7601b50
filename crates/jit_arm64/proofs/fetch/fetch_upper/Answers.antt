use Rattle.std.proofs.Common.{◌≡◌, ◌+◌, length, sym, ◌∙◌, arith, eqb-true, le-leb}
use borrow.Author.Tests.{lt-leb}
use Rattle.word.specs.Word.{add}
use Rattle.fetch_window.specs.Parts.{index}
use Rattle.fetch_window.proofs.Reading.{found, missing, index-next}
use Rattle.jit_arm64.specs.Block.{fetch_upper}
use Rattle.jit_arm64.proofs.Fetching.{none_found, word-found}
use Rattle.jit_arm64.proofs.fetch.fetch_upper.Goals as goal

pub returns-in_err-upper : goal.returns-in_err-upper
unfolding fetch_upper
returns-in_err-upper c = let a = c.args in
    let i = index a.start a.pc in
    let next : index a.start (add a.pc 2) ≡ i + 2 = index-next a.start a.pc (omega arith) (omega arith) (omega arith) in
    let h = missing a.guest.now (i + 2) (rw next at (sym c.read_u16.ensures ∙ c.in_err-upper.was)) in
    rw (lt-leb (i + 4) (length a.guest.now) (omega arith), c.from_residual.ensures) none_found

pub returns : goal.returns
unfolding fetch_upper
returns c = let a = c.args in
    let p = c.requires in
    let i = index a.start a.pc in
    let next : index a.start (add a.pc 2) ≡ i + 2 = index-next a.start a.pc (omega arith) (omega arith) (omega arith) in
    let h = found a.guest.now (i + 2) _ (rw next at (sym c.read_u16.ensures ∙ c.in_ok-upper.was)) in
    rw (le-leb (i + 4) (length a.guest.now) (omega arith), h.1, ← p.1) (word-found _ _ (eqb-true _ _ p.2))
