use Rattle.a64.specs.Forms.{decode}
use Rattle.listing.proofs.Lines.{outside_cond}
use Rattle.listing.proofs.forms.is_outside.Goals as goal

pub returns : goal.returns
unfolding decode
returns c = rw (c.pick.ensures, c.pick-r-5.ensures, c.pick-r-4.ensures, c.pick-r-3.ensures, c.pick-r-2.ensures, c.pick-r.ensures, c.pick-sp.ensures, c.outside_register-r.ensures) (simp outside_cond)
