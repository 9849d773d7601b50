-- What the functions of this crate promise; no operation's contract reaches it.
use Rattle.std.specs.Prelude.{ℕ, ◌*◌, List, ◌++◌, length, drop}
use Rattle.le.specs.Le.{all_bytes}

-- m with the bytes of the numbers vs over its front
abbrev pub over : ℕ → List ℕ → List ℕ → List ℕ
over k vs m = all_bytes k vs ++ drop (k * length vs) m
