-- What the functions of this crate promise one another; no operation's contract reaches it.
use Rattle.std.specs.Prelude.{ℕ, ◌+◌, ◌≤◌, ◌≡◌, Bool, true, false, cond, List, [], ◌∷◌, ◌++◌, length, take, drop, leb}
use Rattle.a64_emitter.specs.declared.BlockEmitter.{BlockEmitter}
use Rattle.a64_emitter.specs.Writers.{mov_imm64}
use Rattle.a64_emitter.specs.Emitter.{bytes}

-- ---- the words that a block's emitter holds, and what calls leave

unfoldable pub block_words : {n : ℕ} → BlockEmitter n → List ℕ
block_words e = take e.len e.words

-- the words h, of which there is room for m, after a call that adds ws: with all of ws, or unchanged where they do
-- not fit
unfoldable pub emitted_in : ℕ → List ℕ → List ℕ → List ℕ
emitted_in m h ws = cond (leb (length h + length ws) m) (h ++ ws) h

-- a word, where the test holds
unfoldable pub emitted_if : Bool → ℕ → List ℕ
emitted_if true w = w ∷ []
emitted_if false w = []

-- a constant's words, where the test holds
unfoldable pub constant_if : Bool → ℕ → ℕ → List ℕ
constant_if true rd val = mov_imm64 rd val
constant_if false rd val = []

-- the words h, of which there is room for m, after several calls, each of which adds a group of words
abbrev pub in_turn : ℕ → List ℕ → List (List ℕ) → List ℕ
in_turn m h [] = h
in_turn m h (g ∷ gs) = in_turn m (emitted_in m h g) gs

-- what a call leaves of an array l whose first n words are held: the first r of l' are held, and they are those with
-- ws added
pub record Added (l : List ℕ) (n : ℕ) (l' : List ℕ) (r : ℕ) (ws : List ℕ) : Type 0 where
  pub holds : take r l' ≡ emitted_in (length l) (take n l) ws
  pub room : (n ≤ length l → r ≤ length l)

-- d with the words ws as bytes at its front and the rest unchanged, where they fit
unfoldable pub written : List ℕ → List ℕ → List ℕ
written ws d = cond (leb (length (bytes ws)) (length d)) (bytes ws ++ drop (length (bytes ws)) d) d

-- the words ws written to d, which is then d': r bytes are theirs
pub record Written (ws d : List ℕ) (r : ℕ) (d' : List ℕ) : Type 0 where
  pub count : r ≡ length (bytes ws)
  pub content : d' ≡ written ws d
