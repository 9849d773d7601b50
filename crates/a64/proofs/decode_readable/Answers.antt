use mathlib.Core.Path.{◌∙◌}
use Rattle.a64.proofs.Coding.{form-decode}
use Rattle.a64.proofs.decode_readable.Goals as goal

pub returns : goal.returns
returns c = c.form_by_byte.ensures ∙ form-decode c.args.w c.requires
