-- What the functions of this crate promise; no operation's contract reaches it.
use Rattle.std.specs.Prelude.{ℕ, ◌+◌, ◌≤◌, ◌≡◌, List, length}
use Rattle.le.specs.Le.{splice}
use Rattle.ascii.specs.declared.writer.Writer.{Writer}

-- s was written at at, where it has room, and r is the place after it
pub record Put (m : List ℕ) (at : ℕ) (s m' : List ℕ) (r : ℕ) : Type 0 where
  pub written : m' ≡ splice m at s
  pub next : r ≡ at + length s
  pub room : at + length s ≤ length m

-- the bytes s have room from the writer's place on
abbrev pub Room : Writer → List ℕ → Type 0
Room w s = w.at + length s ≤ length w.out.now

-- s was written there, and the writer stands after it
pub record Wrote (w : Writer) (s : List ℕ) (w' : Writer) : Type 0 where
  pub same : w'.out.ghost_name ≡ w.out.ghost_name
  pub length : length w'.out.now ≡ length w.out.now
  pub put : Put w.out.now w.at s w'.out.now w'.at
