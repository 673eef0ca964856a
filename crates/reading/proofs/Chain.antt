-- The count of fields, by the test that a line of one kind begins with. Assumes nothing.
use mathlib.Core.Path.{◌≡◌, sym, ◌∙◌}
use mathlib.Core.Bool.{cond}
use Prim.Native.Nat.{ℕ}
use borrow.Author.Tests.{eq-eqb, ne_eqb}
use lib.Dec.{eqb}

-- a test of a number that a callee answered
pub is : {A : Type 0} (n m k : ℕ) (x a b : A) → n ≡ m → n ≡ k → x ≡ a → x ≡ cond (eqb m k) a b
is n m k x a b e h q = rw (eq-eqb m k (sym e ∙ h)) q

pub is-not : {A : Type 0} (n m k : ℕ) (x a b : A) → n ≡ m → (n ≡ k → ⊥) → x ≡ b → x ≡ cond (eqb m k) a b
is-not n m k x a b e h q = rw (ne_eqb m k (λ z. h (e ∙ z))) q
