-- Laws of the decoder's tables.
use Rattle.std.proofs.Common.{◌≡◌, ℕ, Bool, true, false, cond, eqb, [], ◌∷◌, refl, ne_eqb}
use Rattle.rv64.specs.Decode.{Table, lookup}

-- n is no key of the table, as the last arm of a `match` on the keys has it; P: what stands before that
abbrev pub Missed : {A : Type 0} → Type 0 → Table A → ℕ → Type 0
Missed P [] n = P
Missed P ((k, a) ∷ t) n = Missed (P × (n ≡ k → ⊥)) t n

module _ {A B : Type 0} (n : ℕ) (make : A → B) (other : B) where
  missed-after : (P : Type 0) (t : Table A) → Missed P t n → P × (other ≡ lookup t n make other)
  missed-after P [] h = (h, refl)
  missed-after P ((k, a) ∷ t) h =
      let q = missed-after (P × (n ≡ k → ⊥)) t h in (q.0.0, rw (ne_eqb n k q.0.1) q.1)

  pub missed : (P : Type 0) (t : Table A) → Missed P t n → other ≡ lookup t n make other
  missed P t h = (missed-after P t h).1

-- two tables' answers that agree entry by entry, and where there is none
pub either : {A B C : Type 0} (f : A → C) (g : B → C) (b : Bool) {x y : A} {u v : B} → f x ≡ g u → f y ≡ g v → f (cond b x y) ≡ g (cond b u v)
either f g true p q = p
either f g false p q = q

pub both : {K A B C : Type 0} (f : A → C) (g : B → C) (make : K → A) (made : K → B) {other : A} {rest : B} (t : Table K) (n : ℕ)
    → ((k : K) → f (make k) ≡ g (made k)) → f other ≡ g rest → f (lookup t n make other) ≡ g (lookup t n made rest)
both f g make made [] n p q = q
both f g make made ((k, a) ∷ t) n p q = either f g (eqb n k) (p a) (both f g make made t n p q)
