-- What the code's `fetch` answers.
use Rattle.std.specs.Prelude.{Option}
use Rattle.jit_arm64.specs.declared.fetch.Fetched.{Fetched}

abbrev pub Read : Type 0
Read = Option Fetched
