-- Laws of comma lists, for texts of any kind; then of the texts of numbers and of pairs.
-- Assumes nothing.
use Prim.Native.Nat.{ℕ, zero, suc, ◌+◌, ◌*◌, ◌/◌, ◌≤◌, ◌<◌, min}
use mathlib.Core.Path.{◌≡◌, refl, sym, ap, ◌∙◌}
use mathlib.Core.Logic.{⊎_elim}
use mathlib.Core.List.{List, [], ◌∷◌, ◌++◌, map, append_assoc, append-nil}
use native.Mathlib.Omega.{arith}
use native.Mathlib.Numerals.{add-one}
use native.Mathlib.Nat.{min-eq_left, min-eq_right, add-div_right}
use lib.ListN.{length, get_or, take, drop, length-map, get_or-map}
use lib.Seq.{take-suc, take_all, take-length}
use Rattle.lists.proofs.Cases.{lt-or-le}
use Rattle.texts.specs.Decimal.{decimal}
use Rattle.texts.specs.CommaList.{commas_after, commas, pair_texts}
use Rattle.texts.specs.Written.{Wrote}
use Rattle.texts.proofs.Writing.{kept, nothing, on, said}

-- ---- texts of any kind

commas-after : (ts us : List (List ℕ)) → commas_after (ts ++ us) ≡ commas_after ts ++ commas_after us
commas-after [] us = refl
commas-after (t ∷ ts) us =
    ap (λ (l : List ℕ). 44 ∷ (t ++ l)) (commas-after ts us) ∙ ap (λ (l : List ℕ). 44 ∷ l) (sym (append_assoc t (commas_after ts) (commas_after us)))

-- the bytes behind the first text, up to the i-th
abbrev pub behind : List (List ℕ) → ℕ → List ℕ
behind ts i = commas_after (drop 1 (take i ts))

pub behind-one : (ts : List (List ℕ)) → behind ts 1 ≡ []
behind-one [] = refl
behind-one (t ∷ ts) = refl

pub behind_more : (ts : List (List ℕ)) (i : ℕ) (d : List ℕ) → 1 ≤ i → i < length ts → behind ts (i + 1) ≡ behind ts i ++ (44 ∷ get_or ts i d)
behind_more ts zero d p h = absurd (omega arith)
behind_more [] (suc k) d p h = absurd (omega arith)
behind_more (t ∷ ts) (suc k) d p h =
    let e : suc k + 1 ≡ suc (suc k) = omega arith in
    ap (behind (t ∷ ts)) e
    ∙ ap commas_after (take-suc ts k d (omega arith))
    ∙ commas-after (take k ts) (get_or ts k d ∷ [])
    ∙ ap (λ (l : List ℕ). commas_after (take k ts) ++ (44 ∷ l)) (append-nil (get_or ts k d))

first-behind : (ts : List (List ℕ)) (n : ℕ) (d : List ℕ) → 1 ≤ n → 1 ≤ length ts → get_or ts 0 d ++ behind ts n ≡ commas (take n ts)
unfolding commas
first-behind ts zero d p h = absurd (omega arith)
first-behind [] (suc k) d p h = absurd (omega arith)
first-behind (t ∷ ts) (suc k) d p h = refl

take-least : (ts : List (List ℕ)) (count : ℕ) → take (min count (length ts)) ts ≡ take count ts
take-least ts count =
    ⊎_elim
    (λ (h : count < length ts). ap (λ (k : ℕ). take k ts) (min-eq_left {n = count} {m = length ts} (omega arith)))
    (λ (h : length ts ≤ count). ap (λ (k : ℕ). take k ts) (min-eq_right h) ∙ take-length ts ∙ sym (take_all count ts h))
    (lt-or-le count (length ts))

-- the list is done: n texts of it, which are the first `count` or as many as there are
pub commas-done : (ts : List (List ℕ)) (count n : ℕ) (d : List ℕ) → n ≡ min count (length ts) → 1 ≤ n
    → get_or ts 0 d ++ behind ts n ≡ commas (take count ts)
commas-done ts count n d e p =
    first-behind ts n d p (omega arith) ∙ ap (λ (k : ℕ). commas (take k ts)) e ∙ ap commas (take-least ts count)

pub commas-none : (ts : List (List ℕ)) (count n : ℕ) → n ≡ min count (length ts) → n ≡ 0 → 45 ∷ [] ≡ commas (take count ts)
unfolding commas
commas-none ts count n e z = ap (λ (k : ℕ). commas (take k ts)) (sym z ∙ e) ∙ ap commas (take-least ts count)

-- ---- a turn of a loop that writes a list: the first text stands before `area`, the others follow

pub begun : (ts : List (List ℕ)) {first : List ℕ} {at : ℕ} {t area : List ℕ} {p : ℕ} → Wrote first at t area p → Wrote area p (behind ts 1) area p
begun ts {area = area} {p = p} w = said (sym (behind-one ts)) (nothing area p p (omega (arith, w.stands, kept w)))

pub next-text : (ts : List (List ℕ)) (i : ℕ) (d : List ℕ) {area : List ℕ} {at : ℕ} {a : List ℕ} {p : ℕ} {b : List ℕ} {q : ℕ} {t c : List ℕ} {r : ℕ}
    → 1 ≤ i → i < length ts → get_or ts i d ≡ t
    → Wrote area at (behind ts i) a p → Wrote a p (44 ∷ []) b q → Wrote b q t c r → Wrote area at (behind ts (i + 1)) c r
next-text ts i d h l e w comma text =
    said (sym (behind_more ts i d h l)) (on w (on comma (said (sym e) text)))

-- ---- numbers

pub numbers-length : (l : List ℕ) → length (map decimal l) ≡ length l
numbers-length l = length-map l decimal

pub number_at : (l : List ℕ) (i : ℕ) → get_or (map decimal l) i (decimal 0) ≡ decimal (get_or l i 0)
number_at l i = get_or-map decimal l i 0

-- ---- pairs

pub pairs-length : (mark : ℕ) (l : List ℕ) → length (pair_texts mark l) ≡ length l / 2
pairs-length mark [] = refl
pairs-length mark (x ∷ []) = refl
pairs-length mark (x ∷ y ∷ l) =
    let e : suc (suc (length l)) ≡ length l + 2 = omega arith in
    ap suc (pairs-length mark l) ∙ sym (ap (λ (k : ℕ). k / 2) e ∙ add-div_right (length l) (omega arith) ∙ add-one (length l / 2))

pub pair-at : (mark : ℕ) (l : List ℕ) (i : ℕ) → i < length (pair_texts mark l)
    → get_or (pair_texts mark l) i [] ≡ decimal (get_or l (2 * i) 0) ++ (mark ∷ decimal (get_or l (2 * i + 1) 0))
pair-at mark [] i h = absurd (omega arith)
pair-at mark (x ∷ []) i h = absurd (omega arith)
pair-at mark (x ∷ y ∷ l) zero h = refl
pair-at mark (x ∷ y ∷ l) (suc k) h =
    let e : 2 * suc k ≡ suc (suc (2 * k)) = omega arith in
    let f : 2 * suc k + 1 ≡ suc (suc (2 * k + 1)) = omega arith in
    pair-at mark l k (omega arith) ∙ sym (rw (f, e) refl)
