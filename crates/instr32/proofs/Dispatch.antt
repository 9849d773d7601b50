-- The match on the opcode is the match on its class. Assumes nothing.
use Rattle.std.proofs.Common.{◌≡◌, ◌⊎◌, inl, inr, ℕ, ◌%◌, Bool, true, false, cond, eqb, [], refl, arith, eqb-true}
use Rattle.isa.specs.declared.classes.Class.{Class}
use Rattle.isa.specs.declared.classes.Class.TheVariants.{Load, LoadFp, MiscMem, OpImm, Auipc, OpImm32, Store, StoreFp, Amo, Op, Lui, Op32, Branch, Jalr, Jal, System, Other}
use Rattle.isa.specs.declared.decode.Decoded32.{Decoded32}
use Rattle.isa.specs.Classes.{class_of}
use Rattle.emit_native.specs.Calls.{Emission, none}
use Rattle.isa.specs.Decode.{decode32}
use Rattle.instr32.specs.Instr32.{lui, auipc, jal, jalr, branch, op_imm, op_imm_32, op_32, op, misc_mem, emit_native_instr}
use Rattle.emit_native.specs.Parts.{InRange}

abbrev pub by_class : ℕ → ℕ → Decoded32 → Class → Emission
by_class pc instr d Load = none []
by_class pc instr d LoadFp = none []
by_class pc instr d MiscMem = misc_mem d
by_class pc instr d OpImm = op_imm instr d
by_class pc instr d Auipc = auipc pc instr d
by_class pc instr d OpImm32 = op_imm_32 instr d
by_class pc instr d Store = none []
by_class pc instr d StoreFp = none []
by_class pc instr d Amo = none []
by_class pc instr d Op = op d
by_class pc instr d Lui = lui instr d
by_class pc instr d Op32 = op_32 d
by_class pc instr d Branch = branch pc instr d d.funct3
by_class pc instr d Jalr = jalr pc instr d
by_class pc instr d Jal = jal pc instr d
by_class pc instr d System = none []
by_class pc instr d Other = none []

-- a property of what a test picks
pick : (P : Class → Type 0) (b : Bool) (x y : Class) → (b ≡ true → P x) → (b ≡ false → P y) → P (cond b x y)
pick P true x y f g = f refl
pick P false x y f g = g refl

-- a property of a number's class, shown at each opcode, and for a number that is none of them
by_opcode : (P : ℕ → Class → Type 0)
    → P 0b0000011 Load → P 0b0000111 LoadFp → P 0b0001111 MiscMem → P 0b0010011 OpImm → P 0b0010111 Auipc → P 0b0011011 OpImm32
    → P 0b0100011 Store → P 0b0100111 StoreFp → P 0b0101111 Amo → P 0b0110011 Op → P 0b0110111 Lui → P 0b0111011 Op32
    → P 0b1100011 Branch → P 0b1100111 Jalr → P 0b1101111 Jal → P 0b1110011 System
    → (n : ℕ)
    → (eqb n 0b0000011 ≡ false → eqb n 0b0000111 ≡ false → eqb n 0b0001111 ≡ false → eqb n 0b0010011 ≡ false → eqb n 0b0010111 ≡ false
    → eqb n 0b0011011 ≡ false → eqb n 0b0100011 ≡ false → eqb n 0b0100111 ≡ false → eqb n 0b0101111 ≡ false → eqb n 0b0110011 ≡ false
    → eqb n 0b0110111 ≡ false → eqb n 0b0111011 ≡ false → eqb n 0b1100011 ≡ false → eqb n 0b1100111 ≡ false → eqb n 0b1101111 ≡ false
    → eqb n 0b1110011 ≡ false → P n Other)
    → P n (class_of n)
unfolding class_of
by_opcode P load load_fp misc_mem op_imm auipc op_imm_32 store store_fp amo op lui op_32 branch jalr jal system n other =
    at 0b0000011 Load load _ (λ a. at 0b0000111 LoadFp load_fp _ (λ b. at 0b0001111 MiscMem misc_mem _ (λ c. at 0b0010011 OpImm op_imm _ (λ d.
    at 0b0010111 Auipc auipc _ (λ e. at 0b0011011 OpImm32 op_imm_32 _ (λ f. at 0b0100011 Store store _ (λ g. at 0b0100111 StoreFp store_fp _ (λ h.
    at 0b0101111 Amo amo _ (λ i. at 0b0110011 Op op _ (λ j. at 0b0110111 Lui lui _ (λ k. at 0b0111011 Op32 op_32 _ (λ l.
    at 0b1100011 Branch branch _ (λ m. at 0b1100111 Jalr jalr _ (λ o. at 0b1101111 Jal jal _ (λ p. at 0b1110011 System system _ (λ q.
    other a b c d e f g h i j k l m o p q))))))))))))))))
  where
    at : (k : ℕ) (x : Class) → P k x → (y : Class) → (eqb n k ≡ false → P n y) → P n (cond (eqb n k) x y)
    at k x p y g = pick (P n) (eqb n k) x y (λ t. rw (eqb-true n k t) p) g

-- the match on an opcode n in the place of d's
abbrev with_opcode : ℕ → Decoded32 → Decoded32
with_opcode n d = record { opcode = n; rd = d.rd; funct3 = d.funct3; rs1 = d.rs1; rs2 = d.rs2; funct7 = d.funct7; funct5 = d.funct5; imm12 = d.imm12 }

module _ (pc instr : ℕ) where
  by_class_is : (d : Decoded32) (n : ℕ) → emit_native_instr pc instr (with_opcode n d) ≡ by_class pc instr (with_opcode n d) (class_of n)
  unfolding emit_native_instr
  by_class_is d n =
      by_opcode (λ (k : ℕ) (c : Class). emit_native_instr pc instr (with_opcode k d) ≡ by_class pc instr (with_opcode k d) c)
      refl refl refl refl refl refl refl refl refl refl refl refl refl refl refl refl n
      (λ a b c' d' e f g h i j k l m o p q. rw (k, e, p, o, m, d', f, l, j, c'))

  in_class : (d : Decoded32) (c : Class) → d ≡ decode32 instr → c ≡ class_of (instr % 128) → emit_native_instr pc instr d ≡ by_class pc instr d c
  in_class d c e f = rw (f, e) (by_class_is (decode32 instr) (instr % 128))

  -- what is emitted for the word is what is emitted in the arm of its class k
  pub in_arm : (d : Decoded32) {c k : Class} → d ≡ decode32 instr → c ≡ class_of (instr % 128) → c ≡ k → emit_native_instr pc instr d ≡ by_class pc instr d k
  in_arm d e f g = rw (in_class d _ e f, g) refl

  -- nothing is, in the other arms
  pub refused : (d : Decoded32) {c : Class} → d ≡ decode32 instr → c ≡ class_of (instr % 128)
      → (c ≡ Load) ⊎ ((c ≡ LoadFp) ⊎ ((c ≡ Store) ⊎ ((c ≡ StoreFp) ⊎ ((c ≡ Amo) ⊎ ((c ≡ System) ⊎ (c ≡ Other))))))
      → emit_native_instr pc instr d ≡ none []
  refused d e f (inl g) = in_arm d e f g
  refused d e f (inr (inl g)) = in_arm d e f g
  refused d e f (inr (inr (inl g))) = in_arm d e f g
  refused d e f (inr (inr (inr (inl g)))) = in_arm d e f g
  refused d e f (inr (inr (inr (inr (inl g))))) = in_arm d e f g
  refused d e f (inr (inr (inr (inr (inr (inl g)))))) = in_arm d e f g
  refused d e f (inr (inr (inr (inr (inr (inr g)))))) = in_arm d e f g

-- the registers of a word that was decoded
pub in_range : (instr : ℕ) (d : Decoded32) → d ≡ decode32 instr → InRange d
in_range instr d e = rw e (omega arith, omega arith, omega arith)
