-- Words as bytes, lowest first.
use Rattle.std.specs.Prelude.{ℕ, List}
use Rattle.le.specs.Le.{all_bytes}

abbrev pub bytes : List ℕ → List ℕ
bytes ws = all_bytes 4 ws
