-- A refusal of List as numbers.
use Rattle.std.specs.Prelude.{ℕ}
use Rattle.rules.specs.Refusals as Refusals
use Rattle.listing.specs.declared.refusals.ListRefusal.{ListRefusal}

abbrev pub refusal : ListRefusal → ℕ
refusal ListRefusal.Length = Refusals.listing_length
refusal (ListRefusal.OutsideForms at) = Refusals.outside_forms
refusal ListRefusal.Short = Refusals.listing_short

-- the offset of a word outside the forms, else 0
abbrev pub offset : ListRefusal → ℕ
offset (ListRefusal.OutsideForms at) = at
offset ListRefusal.Length = 0
offset ListRefusal.Short = 0
