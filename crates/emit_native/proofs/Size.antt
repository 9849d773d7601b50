-- How many words a list of calls takes at most. Assumes nothing.
use Prim.Native.Nat.{ℕ, ◌+◌, ◌-◌, ◌≤◌}
use native.Mathlib.Omega.{arith}
use mathlib.Core.Path.{◌≡◌, refl}
use mathlib.Core.Bool.{Bool, true, false, cond}
use mathlib.Core.List.{List, [], ◌∷◌, ◌++◌, flatten}
use lib.Dec.{eqb, leb, T, leb→le}
use lib.ListN.{length, length-append}
use Rattle.a64_emitter.proofs.Emission.{constant_most}
use Rattle.emit_native.specs.declared.EmitFlow.{EmitFlow}
use Rattle.emit_native.specs.declared.EmitFlow.TheVariants.{Continue, Terminate}
use Rattle.std.specs.Prelude.{Option, Some, None}
use Rattle.emit_native.specs.Calls.{Call, emit, mov_imm64, load, store, product, call_words, groups, if_not_0, store_rd, Emission, calls_first, then_store_rd}

abbrev pub size : ℕ → List Call → ℕ
size slot_offset cs = length (flatten (groups slot_offset cs))

-- at most 4 words for a constant, and 1 for any other call
abbrev pub cost : Call → ℕ
cost (emit f) = 1
cost (mov_imm64 rd v) = 4
cost (load rt n) = 1
cost (store rt n) = 1

abbrev pub costs : List Call → ℕ
costs [] = 0
costs (c ∷ cs) = cost c + costs cs

-- by a test's answer
pub by : {P : Type 0} (b : Bool) → (b ≡ true → P) → (b ≡ false → P) → P
by true f g = f refl
by false f g = g refl

module _ (slot_offset : ℕ) where
  call-size : (c : Call) → length (call_words product slot_offset c) ≤ cost c
  call-size (emit f) = omega arith
  call-size (mov_imm64 rd v) = constant_most rd v
  call-size (load rt n) = omega arith
  call-size (store rt n) = omega arith

  size-cons : (c : Call) (cs : List Call) → size slot_offset (c ∷ cs) ≡ length (call_words product slot_offset c) + size slot_offset cs
  unfolding flatten
  size-cons c cs = length-append (call_words product slot_offset c) (flatten (groups slot_offset cs))

  pub size-append : (cs ds : List Call) → size slot_offset (cs ++ ds) ≡ size slot_offset cs + size slot_offset ds
  unfolding flatten
  size-append [] ds = omega arith
  size-append (c ∷ cs) ds = omega (arith, size-cons c (cs ++ ds), size-cons c cs, size-append cs ds)

  pub size-le : (cs : List Call) → size slot_offset cs ≤ costs cs
  unfolding flatten
  size-le [] = omega arith
  size-le (c ∷ cs) = omega (arith, size-cons c cs, size-le cs, call-size c)

  pub if_size : (n : ℕ) (cs : List Call) (k : ℕ) → size slot_offset cs ≤ k → size slot_offset (if_not_0 n cs) ≤ k
  unfolding flatten
  if_size n cs k h = at (eqb n 0)
    where
      at : (b : Bool) → size slot_offset (cond b [] cs) ≤ k
      at true = omega arith
      at false = h

  store-size : (f : Option EmitFlow) (rd : ℕ) → size slot_offset (store_rd f rd) ≤ 1
  unfolding store_rd flatten
  store-size (Some Continue) rd = if_size rd (store 11 rd ∷ []) 1 (size-le (store 11 rd ∷ []))
  store-size (Some Terminate) rd = omega arith
  store-size None rd = omega arith

  -- an emission of at most n words
  pub record Within (n : ℕ) (e : Emission) : Type 0 where
    pub within : size slot_offset e.calls ≤ n

  -- by the calls' costs
  pub cheap : {n : ℕ} (e : Emission) → T (leb (costs e.calls) n) → Within n e
  cheap {n} e h = record { within = omega (arith, size-le e.calls, leb→le (costs e.calls) n h) }

  -- what a test picks
  pub pick : {n : ℕ} (b : Bool) (x y : Emission) → Within n x → Within n y → Within n (cond b x y)
  pick true x y p q = p
  pick false x y p q = q

  -- in front of a match, and after it
  pub front : (n : ℕ) (cs : List Call) (e : Emission) → T (leb (costs cs) n) → Within (n - costs cs) e → Within n (calls_first cs e)
  front n cs e h k = record { within = omega (arith, size-append cs e.calls, size-le cs, leb→le (costs cs) n h, k.within) }

  pub stored : {n : ℕ} (rd : ℕ) (e : Emission) → Within n e → Within (n + 1) (then_store_rd rd e)
  stored rd e k = record { within = omega (arith, size-append e.calls (store_rd e.flow rd), store-size e.flow rd, k.within) }
