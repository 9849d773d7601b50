-- The code's answer as numbers: a refusal's, with 0 for all else, or 0 and what was written.
use Rattle.std.specs.Prelude.{Ok, Err, Result}
use Rattle.rules.specs.declared.refusals.Refusal.{Refusal}
use Rattle.rules.specs.Refusals.{accepted, number}
use Rattle.translator.specs.declared.Translated.{Translated}
use Rattle.translator.specs.Translate.{Answer, end_number}

abbrev pub numbers : Result Translated Refusal → Answer
numbers (Ok t) = record { refusal = accepted; length = t.length; count = t.count; end = end_number t.end }
numbers (Err r) = record { refusal = number r; length = 0; count = 0; end = 0 }
