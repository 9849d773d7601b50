use Rattle.std.proofs.Common.{◌+◌, ◌%◌, length, sym, ◌∙◌, arith, rules, eq-eqb, ne_eqb, le-leb}
use borrow.Author.Tests.{lt-leb}
use Rattle.fetch_window.specs.Parts.{index}
use Rattle.fetch_window.proofs.Reading.{found, missing}
use Rattle.jit_arm64.specs.Block.{fetch}
use Rattle.jit_arm64.proofs.Fetching.{none_found, half-found}
use Rattle.jit_arm64.proofs.fetch.fetch.Goals as goal

pub returns-then-pc-eq1 : goal.returns-then-pc-eq1
unfolding fetch
returns-then-pc-eq1 c = let a = c.args in rw (ne_eqb (a.pc % 2) 0 (omega arith)) none_found

pub fetch_upper-requires : goal.fetch_upper-requires
fetch_upper-requires c = let a = c.args in
    let h = found a.guest.now (index a.start a.pc) _ (sym c.read_u16.ensures ∙ c.in_ok-instr16.was) in
    (h.0, sym h.1, eq-eqb _ _ c.if-instr16-eq3.true)

pub returns-then-instr16-eq3 : goal.returns-then-instr16-eq3
unfolding fetch
returns-then-instr16-eq3 c = let a = c.args in
    let i = index a.start a.pc in
    let h = found a.guest.now i _ (sym c.read_u16.ensures ∙ c.in_ok-instr16.was) in
    rw (eq-eqb (a.pc % 2) 0 (omega arith), le-leb (i + 2) (length a.guest.now) h.0, h.1, eq-eqb _ _ c.if-instr16-eq3.true) c.fetch_upper.ensures

pub returns-in_err-instr16 : goal.returns-in_err-instr16
unfolding fetch
returns-in_err-instr16 c = let a = c.args in
    let i = index a.start a.pc in
    let h = missing a.guest.now i (sym c.read_u16.ensures ∙ c.in_err-instr16.was) in
    rw (eq-eqb (a.pc % 2) 0 (omega arith), lt-leb (i + 2) (length a.guest.now) h, c.from_residual.ensures) none_found

pub returns : goal.returns
unfolding fetch
returns c = let a = c.args in
    let i = index a.start a.pc in
    let h = found a.guest.now i _ (sym c.read_u16.ensures ∙ c.in_ok-instr16.was) in
    rw (eq-eqb (a.pc % 2) 0 (omega arith), le-leb (i + 2) (length a.guest.now) h.0, h.1, ne_eqb _ _ c.if-instr16-eq3.false)
    (half-found _ c.if-instr16-eq3.false (search rules))
