-- Bytes written one part after the other. Assumes nothing.
use mathlib.Core.Path.{◌≡◌, refl, sym, ◌∙◌}
use mathlib.Core.List.{List, [], ◌∷◌, ◌++◌}
use Prim.Native.Nat.{ℕ, ◌+◌, ◌≤◌, ◌<◌}
use native.Mathlib.Nat.{add_assoc, add-zero}
use native.Mathlib.Numerals.{add-one}
use native.Mathlib.Omega.{arith}
use lib.ListN.{length, set, length-append}
use lib.Seq.{set_split}
use Rattle.le.specs.Le.{bytes, store, splice}
use Rattle.le.proofs.Laws.{length-bytes}
use Rattle.le.proofs.Splices.{splice-append, splice_nothing, length-splice}
use Rattle.ascii.specs.declared.writer.Writer.{Writer}
use Rattle.ascii.specs.Parts.{Put, Wrote}

-- one part, and another after it
pub put_then : {m m₁ m₂ s t : List ℕ} {at k r : ℕ} → Put m at s m₁ k → Put m₁ k t m₂ r → Put m at (s ++ t) m₂ r
put_then {m} {m₁} {m₂} {s} {t} {at} {k} {r} p q =
    let h = p.room in
    let l : length m₁ ≡ length m = rw p.written (length-splice m at s h) in
    record {
      written = rw (q.written, p.written, p.next) (splice-append m at s t (omega arith));
      next = rw (q.next, p.next, length-append s t) (add_assoc at (length s) (length t));
      room = rw (length-append s t) (omega (arith, p.next, q.room));
    }

pub nothing : (m : List ℕ) (at : ℕ) → at ≤ length m → Put m at [] m at
nothing m at h = record { written = sym (splice_nothing m at); next = sym (add-zero at); room = omega arith }

pub put-set : (m : List ℕ) (at b : ℕ) → at < length m → Put m at (b ∷ []) (set m at b) (at + 1)
unfolding splice
put-set m at b h = record { written = rw (set_split m at b h, add-one); next = refl; room = omega arith }

pub put-store : (k : ℕ) (m : List ℕ) (at v : ℕ) (m' : List ℕ) → m' ≡ store k m at v → at + k ≤ length m → Put m at (bytes k v) m' (at + k)
unfolding splice store
put-store k m at v m' e h = let l = length-bytes k v in record { written = rw (e, l); next = rw l; room = rw l h }

-- ---- by a writer

pub then : {w w₁ w₂ : Writer} {s t : List ℕ} → Wrote w s w₁ → Wrote w₁ t w₂ → Wrote w (s ++ t) w₂
then p q = record { same = q.same ∙ p.same; length = q.length ∙ p.length; put = put_then p.put q.put }

pub wrote_nothing : (w : Writer) → w.at ≤ length w.out.now → Wrote w [] w
wrote_nothing w h = record { same = refl; length = refl; put = nothing w.out.now w.at h }
