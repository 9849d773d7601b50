-- What helpers are called with, by computation.
use mathlib.Core.Path.{◌≡◌, refl}
use mathlib.Core.List.{List, [], ◌∷◌}
use Prim.Native.Nat.{ℕ, ◌-◌, ◌^◌}
use Rattle.word.specs.Word.{add}
use Rattle.le.specs.Le.{load}
use Rattle.a64_exec.specs.Exec.{State, reg}
use Rattle.rv64.specs.Execute.{read}
use Rattle.emit_native.specs.declared.Host.{Host}
use Rattle.translation.specs.HelperBlock.{call, instruction}

module _ (h : Host) (s : State) (x : List ℕ) (pc : ℕ) where
  abbrev Is : ℕ → ℕ → List ℕ → Type 0
  Is w helper arguments = call h s x w pc ≡ record { helper = helper; arguments = arguments }

  -- ld x10, 8(x11)
  ld : Is 0x0085B503 h.memory_helper (reg s 1 ∷ reg s 2 ∷ reg s 3 ∷ 3 ∷ 10 ∷ 0 ∷ add (read x 11) 8 ∷ pc ∷ [])
  ld = refl

  -- sb x5, -1(x6)
  sb : Is 0xFE530FA3 h.memory_helper (reg s 1 ∷ reg s 2 ∷ reg s 3 ∷ 16 ∷ 31 ∷ read x 5 ∷ add (read x 6) (2 ^ 64 - 1) ∷ pc ∷ [])
  sb = refl

  -- amoadd.w x10, x11, (x10)
  amoadd : Is 0x00B5252F h.helper32 (reg s 1 ∷ reg s 2 ∷ reg s 3 ∷ reg s 4 ∷ reg s 5 ∷ 0x00B5252F ∷ pc ∷ [])
  amoadd = refl

  -- c.lw x10, 4(x11)
  c_lw : Is 0x41C8 h.helper16 (reg s 1 ∷ reg s 2 ∷ reg s 3 ∷ reg s 4 ∷ reg s 5 ∷ 0x41C8 ∷ pc ∷ [])
  c_lw = refl

-- c.nop, then ld x10, 8(x11), from a PC just below 2 ^ 64 on: the instruction at 0
behind_the_top : instruction (0x01 ∷ 0x00 ∷ 0x03 ∷ 0xB5 ∷ 0x85 ∷ 0x00 ∷ []) (2 ^ 64 - 2) 0 ≡ 0x0085B503
unfolding load
behind_the_top = refl
