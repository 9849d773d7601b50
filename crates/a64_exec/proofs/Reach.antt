-- Where an access goes, from where its address lies; a form's effect, from what it leaves. Assumes nothing.
use Rattle.std.proofs.Common.{Option, Some, None, ◌≡◌, ℕ, ◌+◌, ◌*◌, ◌%◌, ◌^◌, true, not, ◌||◌, eqb, length, length-set, refl, sym, add-zero, zero-add, zero-mul, eq-eqb, ne_eqb}
use mathlib.Core.Bool.{and-true, and-false}
use native.Mathlib.Nat.{zero-mod, zero-div}
use Rattle.word.specs.Word.{wrap}
use Rattle.a64.specs.declared.Form.{Form}
use Rattle.a64_exec.specs.declared.exec.Outcome.{Outcome}
use Rattle.a64_exec.specs.Exec.{State, reg, with_reg, after, next, exec, address, reaches}
use Rattle.a64_alu.specs.Alu.{insert}
use Rattle.a64_alu.proofs.Comparing.{difference-sub}
use Rattle.a64_exec.specs.Parts.{Within, Reached}

module _ (s : State) (n imm : ℕ) where
  reached : (a : ℕ) (r : Option ℕ) → address s n imm ≡ a → (not (eqb n 31) || eqb (s.sp % 16) 0) ≡ true
      → Within a s.base (length s.mem) r → Reached s n imm r
  unfolding reaches
  reached a (Some i) e ok w = rw e ((rw (w.0, w.1, w.2, ok)), w.3, w.4)
  reached a None e ok w = rw (e, ok, and-true) w

  -- through SP
  pub through_sp : (a : ℕ) (r : Option ℕ) → n ≡ 31 → s.sp % 16 ≡ 0 → a ≡ wrap (s.sp + imm * 8)
      → Within a s.base (length s.mem) r → Reached s n imm r
  through_sp a r h k e w = reached a r (rw (eq-eqb n 31 h) (sym e)) (rw (eq-eqb n 31 h) (eq-eqb (s.sp % 16) 0 k)) w

  -- through another register
  pub through_register : (a : ℕ) (r : Option ℕ) → (n ≡ 31 → ⊥) → a ≡ wrap (reg s n + imm * 8)
      → Within a s.base (length s.mem) r → Reached s n imm r
  through_register a r h e w = reached a r (rw (ne_eqb n 31 h) (sym e)) (rw (ne_eqb n 31 h)) w

  pub misaligned_sp : n ≡ 31 → (s.sp % 16 ≡ 0 → ⊥) → Reached s n imm None
  unfolding reaches
  misaligned_sp h k = rw (eq-eqb n 31 h, ne_eqb (s.sp % 16) 0 k) (simp and-false)

-- a form that leaves v in register rd, and no more
pub by_result : (f : Form) (s t : State) (rd v : ℕ) (o : Outcome) → exec f s ≡ next (with_reg s rd v)
    → (o ≡ Outcome.Next) × (t ≡ with_reg s rd v)
    → (exec f s ≡ after o t) × (length t.x ≡ length s.x) × (length t.mem ≡ length s.mem)
by_result f s t rd v o e h = (rw (h.0, h.1) e, rw h.1 (length-set s.x rd v), rw h.1 refl)

-- MOVZ is MOVK into 0
pub insert-zero : (hw v : ℕ) → insert 0 hw v ≡ v * 2 ^ (16 * hw)
unfolding insert
insert-zero hw v = rw (zero-mod, zero-div, zero-mul, zero-add, add-zero)

pub ruleset form_results = (insert-zero, difference-sub)
