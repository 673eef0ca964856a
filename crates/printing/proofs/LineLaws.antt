-- Laws of lines: fields after fields, and the values that a refusal carries.
-- Assumes nothing.
use Prim.Native.Nat.{ℕ, zero, suc, ◌≤◌, ◌<◌}
use mathlib.Core.Path.{◌≡◌, refl, sym, ap, ◌∙◌}
use mathlib.Core.Bool.{cond}
use mathlib.Core.List.{List, [], ◌∷◌, ◌++◌, append_assoc, append-nil}
use native.Mathlib.Omega.{arith}
use lib.Dec.{ltb}
use lib.ListN.{take}
use lib.Seq.{take-nil}
use borrow.Author.Tests.{lt-ltb, le-ltb, eq-eqb, ne_eqb}
use Rattle.answers.specs.declared.RefusalWords.{RefusalWords}
use Rattle.answers.specs.declared.kinds.Kind.{Kind}
use Rattle.answers.specs.Kinds.{kind_of}
use Rattle.texts.specs.Written.{Wrote}
use Rattle.texts.proofs.Writing.{on}
use Rattle.texts.specs.Decimal.{decimal, signed}
use Rattle.printing.specs.Shown.{spaced, first_text, value_texts, refused, shown_refusal}

pub spaced-append : (ts us : List (List ℕ)) → spaced (ts ++ us) ≡ spaced ts ++ spaced us
spaced-append [] us = refl
spaced-append (t ∷ ts) us =
    ap (λ (l : List ℕ). 32 ∷ (t ++ l)) (spaced-append ts us) ∙ ap (λ (l : List ℕ). 32 ∷ l) (sym (append_assoc t (spaced ts) (spaced us)))

-- a field before the fields that follow it, and what else follows
pub field : (ts : List (List ℕ)) (zs : List ℕ) {area : List ℕ} {at : ℕ} {t after : List ℕ} {p : ℕ} {last : List ℕ} {q : ℕ}
    → Wrote area at (32 ∷ t) after p → Wrote after p (spaced ts ++ zs) last q → Wrote area at (spaced (t ∷ ts) ++ zs) last q
field ts zs {t = t} w v = rw (append_assoc t (spaced ts) zs) (on w v)

-- number and values, then what else the line has
pub refused-on : (r : RefusalWords) (more : List (List ℕ))
    → (82 ∷ spaced (decimal r.number ∷ value_texts r)) ++ (spaced more ++ (10 ∷ [])) ≡ refused r more
refused-on r more =
    let ts = decimal r.number ∷ value_texts r in
    ap (λ (l : List ℕ). 82 ∷ l)
    (sym (append_assoc (spaced ts) (spaced more) (10 ∷ [])) ∙ ap (λ (l : List ℕ). l ++ (10 ∷ [])) (sym (spaced-append ts more)))

pub refusal-shown : (r : RefusalWords) → (82 ∷ spaced (decimal r.number ∷ value_texts r)) ++ (10 ∷ []) ≡ shown_refusal r
unfolding shown_refusal
refusal-shown r = refused-on r []

-- ---- values

pub first_signed : (r : RefusalWords) → r.number ≡ 41 → signed r.a ≡ first_text r
unfolding first_text
first_signed r e = rw (eq-eqb r.number 41 e) refl

pub first_plain : (r : RefusalWords) → (r.number ≡ 41 → ⊥) → decimal r.a ≡ first_text r
unfolding first_text
first_plain r e = rw (ne_eqb r.number 41 e) refl

-- a field where the number carries more than p values
abbrev pub carries : ℕ → ℕ → List ℕ → List ℕ
carries p k t = cond (ltb p k) (32 ∷ t) []

pub carries-it : (p k : ℕ) (t : List ℕ) → p < k → 32 ∷ t ≡ carries p k t
carries-it p k t h = rw (lt-ltb p k h) refl

pub carries-none : (p k : ℕ) (t : List ℕ) → k ≤ p → [] ≡ carries p k t
carries-none p k t h = rw (le-ltb p k h) refl

carried : (k : ℕ) (a b c d : List ℕ) → 1 ≤ k
    → (32 ∷ a) ++ (carries 1 k b ++ (carries 2 k c ++ carries 3 k d)) ≡ spaced (take k (a ∷ b ∷ c ∷ d ∷ []))
carried zero a b c d h = absurd (omega arith)
carried (suc zero) a b c d h = refl
carried (suc (suc zero)) a b c d h = refl
carried (suc (suc (suc zero))) a b c d h = refl
carried (suc (suc (suc (suc j)))) a b c d h =
    let k = suc (suc (suc (suc j))) in
    rw (lt-ltb 1 k (omega arith), lt-ltb 2 k (omega arith), lt-ltb 3 k (omega arith), take-nil j, append-nil d) refl

pub values-none : (r : RefusalWords) (k : Kind) → k ≡ kind_of r.number → k.values ≡ 0 → [] ≡ spaced (value_texts r)
unfolding value_texts
values-none r k e z =
    let n : (kind_of r.number).values ≡ 0 = ap (λ (x : Kind). x.values) (sym e) ∙ z in
    rw n refl

pub values-some : (r : RefusalWords) (k : Kind) → k ≡ kind_of r.number → 1 ≤ k.values
    → (32 ∷ first_text r) ++ (carries 1 k.values (decimal r.b) ++ (carries 2 k.values (decimal r.c) ++ carries 3 k.values (decimal r.d)))
    ≡ spaced (value_texts r)
unfolding value_texts
values-some r k e h =
    let ts = first_text r ∷ decimal r.b ∷ decimal r.c ∷ decimal r.d ∷ [] in
    carried k.values (first_text r) (decimal r.b) (decimal r.c) (decimal r.d) h
    ∙ ap (λ (x : Kind). spaced (take x.values ts)) e
