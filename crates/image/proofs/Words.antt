-- What the writers of one row use: an optional field fixed in place (fix_none, fix_some), the head and the site copied and then fixed
-- (head-copied, site-copied), no site (cleared), and the site behind the head (row_written). A part of k words is written out
-- (part-words), and each fix is a part put inside it (put-inner). Assumes nothing.
use mathlib.Core.Path.{◌≡◌, refl, sym, ap, ◌∙◌}
use mathlib.Core.Option.{Option, none, some}
use mathlib.Core.List.{List, [], ◌∷◌, ◌++◌}
use Prim.Native.Nat.{ℕ, ◌+◌, ◌-◌, ◌<◌, ◌≤◌}
use native.Mathlib.Omega.{arith}
use native.Mathlib.Nat.{add-zero}
use lib.ListN.{length, get_or, set, replicate}
use borrow.Author.Tests.{eq-eqb, ne_eqb}
use Rattle.words.specs.Part.{part, put}
use Rattle.words.proofs.PartLaws.{part_length, set-part, set-put, put_as, get-put, get_after, length-put}
use Rattle.rules.specs.Tables.{head_width, place_width, held_width, optional, head_at, parents_at, children_at, placement_at, option_words, head_words, site_words}
use Rattle.rules.proofs.Places.{part-words}
use Rattle.words.proofs.PutMore.{put-join, put-inner}

-- ---- an optional field

pub option-length : (o : Option ℕ) → length (option_words o) ≡ 2
option-length none = refl
option-length (some x) = refl

module _ (w : List ℕ) (place : ℕ) (fits : place + 2 ≤ length w) where
  two : part w place 2 ≡ get_or w place 0 ∷ get_or w (place + 1) 0 ∷ []
  two = part-words w place 1 fits

  pub fix_none : get_or w place 0 ≡ 0 → set w (place + 1) 0 ≡ put w place 2 (option_words (optional (get_or w place 0) (get_or w (place + 1) 0)))
  fix_none h =
      let o : option_words (optional (get_or w place 0) (get_or w (place + 1) 0)) ≡ 0 ∷ 0 ∷ [] = rw (eq-eqb (get_or w place 0) 0 h) refl in
      set-part w place 2 1 0 (omega arith) fits
      ∙ ap (λ (t : List ℕ). put w place 2 (set t 1 0)) two
      ∙ ap (λ (x : ℕ). put w place 2 (x ∷ 0 ∷ [])) h
      ∙ ap (put w place 2) (sym o)

  pub fix_some : (get_or w place 0 ≡ 0 → ⊥) → set w place 1 ≡ put w place 2 (option_words (optional (get_or w place 0) (get_or w (place + 1) 0)))
  fix_some h =
      let o : option_words (optional (get_or w place 0) (get_or w (place + 1) 0)) ≡ 1 ∷ get_or w (place + 1) 0 ∷ [] = rw (ne_eqb (get_or w place 0) 0 h) refl in
      let z : place + 0 ≡ place = add-zero place in
      ap (λ (k : ℕ). set w k 1) (sym z)
      ∙ set-part w place 2 0 1 (omega arith) fits
      ∙ ap (λ (t : List ℕ). put w place 2 (set t 0 1)) two
      ∙ ap (put w place 2) (sym o)

-- ---- the head of a row

-- the second optional field, behind the first
mid : (a b c d e g h p q : ℕ) (o : Option ℕ) (z : List ℕ)
    → put (a ∷ b ∷ c ∷ d ∷ e ∷ (option_words o ++ (g ∷ h ∷ p ∷ q ∷ []))) 7 2 z ≡ a ∷ b ∷ c ∷ d ∷ e ∷ (option_words o ++ (z ++ (p ∷ q ∷ [])))
mid a b c d e g h p q none z = refl
mid a b c d e g h p q (some x) z = refl

mid-length : (a b c d e g h p q : ℕ) (o : Option ℕ) → length (a ∷ b ∷ c ∷ d ∷ e ∷ (option_words o ++ (g ∷ h ∷ p ∷ q ∷ []))) ≡ 11
mid-length a b c d e g h p q none = refl
mid-length a b c d e g h p q (some x) = refl

module _ (w table : List ℕ) (place from : ℕ) (room : place + head_width ≤ length w) (row : from + head_width ≤ length table) where
  abbrev src : List ℕ
  src = part table from (from + head_width - from)

  abbrev X : ℕ → ℕ
  X k = get_or table (from + k) 0

  abbrev L : List ℕ
  L = get_or table from 0 ∷ X 1 ∷ X 2 ∷ X 3 ∷ X 4 ∷ X 5 ∷ X 6 ∷ X 7 ∷ X 8 ∷ X 9 ∷ X 10 ∷ []

  src-is : src ≡ L
  src-is = let e : from + head_width - from ≡ head_width = omega arith in ap (part table from) e ∙ part-words table from 10 row

  pub head-copied : (w1 w2 w3 : List ℕ) → w1 ≡ put w place (length src) src
      → w2 ≡ put w1 (place + 5) 2 (option_words (optional (get_or w1 (place + 5) 0) (get_or w1 (place + 5 + 1) 0)))
      → w3 ≡ put w2 (place + 7) 2 (option_words (optional (get_or w2 (place + 7) 0) (get_or w2 (place + 7 + 1) 0)))
      → w3 ≡ put w place head_width (head_words (head_at table from) (parents_at table from) (children_at table from))
  head-copied w1 w2 w3 e1 e2 e3 =
      let f1 : w1 ≡ put w place 11 L = e1 ∙ put_as w place (length src) 11 src L (ap length src-is) src-is in
      let get : (k : ℕ) → k < 11 → get_or w1 (place + k) 0 ≡ get_or L k 0 = λ k h. ap (λ (t : List ℕ). get_or t (place + k) 0) f1 ∙ get-put w place 11 L refl room k h in
      let o1 : Option ℕ = optional (X 5) (X 6) in
      let o2 : Option ℕ = optional (X 7) (X 8) in
      let s5 : place + 5 + 1 ≡ place + 6 = omega arith in
      let s7 : place + 7 + 1 ≡ place + 8 = omega arith in
      let len1 : length w1 ≡ length w = ap length f1 ∙ length-put w place 11 L refl room in
      let g2 : w2 ≡ put w1 (place + 5) 2 (option_words o1) =
      e2 ∙ rw (s5, get 5 (omega arith), get 6 (omega arith)) refl in
      let f2 : w2 ≡ put w place 11 (get_or table from 0 ∷ X 1 ∷ X 2 ∷ X 3 ∷ X 4 ∷ (option_words o1 ++ (X 7 ∷ X 8 ∷ X 9 ∷ X 10 ∷ []))) =
      g2 ∙ ap (λ (t : List ℕ). put t (place + 5) 2 (option_words o1)) f1 ∙ put-inner w place 11 L refl room 5 2 (option_words o1) (omega arith) in
      let get2 : (k : ℕ) → 7 ≤ k → k < 11 → get_or w2 (place + k) 0 ≡ get_or L k 0 = λ k a b.
      ap (λ (t : List ℕ). get_or t (place + k) 0) g2 ∙ get_after w1 (place + 5) 2 (option_words o1) (option-length o1) (omega arith) (place + k) (omega arith) ∙ get k b in
      let g3 : w3 ≡ put w2 (place + 7) 2 (option_words o2) =
      e3 ∙ rw (s7, get2 7 (omega arith) (omega arith), get2 8 (omega arith) (omega arith)) refl in
      g3 ∙ ap (λ (t : List ℕ). put t (place + 7) 2 (option_words o2)) f2
      ∙ put-inner w place 11 (get_or table from 0 ∷ X 1 ∷ X 2 ∷ X 3 ∷ X 4 ∷ (option_words o1 ++ (X 7 ∷ X 8 ∷ X 9 ∷ X 10 ∷ []))) (mid-length (get_or table from 0) (X 1) (X 2) (X 3) (X 4) (X 7) (X 8) (X 9) (X 10) o1)
      room 7 2 (option_words o2) (omega arith)
      ∙ ap (put w place 11) (mid (get_or table from 0) (X 1) (X 2) (X 3) (X 4) (X 7) (X 8) (X 9) (X 10) o1 (option_words o2))

-- ---- the site of a row

last : (a b c d : ℕ) (o : Option ℕ) → put (a ∷ b ∷ c ∷ d ∷ []) 2 2 (option_words o) ≡ a ∷ b ∷ option_words o
last a b c d none = refl
last a b c d (some x) = refl

module _ (w places : List ℕ) (place from : ℕ) (room : place + 4 ≤ length w) (row : from + place_width ≤ length places) where
  abbrev four : List ℕ
  four = part places from (from + place_width - from)

  abbrev Y : ℕ → ℕ
  Y k = get_or places (from + k) 0

  four_is : four ≡ get_or places from 0 ∷ Y 1 ∷ Y 2 ∷ Y 3 ∷ []
  four_is = let e : from + place_width - from ≡ place_width = omega arith in ap (part places from) e ∙ part-words places from 3 row

  pub site-copied : (w1 w2 w3 : List ℕ) → w1 ≡ put w place (length four) four → w2 ≡ set w1 place 1
      → w3 ≡ put w2 (place + 2) 2 (option_words (optional (get_or w2 (place + 2) 0) (get_or w2 (place + 2 + 1) 0)))
      → w3 ≡ put w place 4 (site_words (some (placement_at places from).site))
  site-copied w1 w2 w3 e1 e2 e3 =
      let L4 : List ℕ = get_or places from 0 ∷ Y 1 ∷ Y 2 ∷ Y 3 ∷ [] in
      let f1 : w1 ≡ put w place 4 L4 = e1 ∙ put_as w place (length four) 4 four L4 (ap length four_is) four_is in
      let z : place + 0 ≡ place = add-zero place in
      let f2 : w2 ≡ put w place 4 (1 ∷ Y 1 ∷ Y 2 ∷ Y 3 ∷ []) =
      e2 ∙ ap (λ (t : List ℕ). set t place 1) f1 ∙ ap (λ (k : ℕ). set (put w place 4 L4) k 1) (sym z) ∙ set-put w place 4 L4 0 1 refl room (omega arith) in
      let get : (k : ℕ) → k < 4 → get_or w2 (place + k) 0 ≡ get_or (1 ∷ Y 1 ∷ Y 2 ∷ Y 3 ∷ []) k 0 = λ k h.
      ap (λ (t : List ℕ). get_or t (place + k) 0) f2 ∙ get-put w place 4 (1 ∷ Y 1 ∷ Y 2 ∷ Y 3 ∷ []) refl room k h in
      let s : place + 2 + 1 ≡ place + 3 = omega arith in
      let o : Option ℕ = optional (Y 2) (Y 3) in
      let g3 : w3 ≡ put w2 (place + 2) 2 (option_words o) = e3 ∙ rw (s, get 2 (omega arith), get 3 (omega arith)) refl in
      g3 ∙ ap (λ (t : List ℕ). put t (place + 2) 2 (option_words o)) f2
      ∙ put-inner w place 4 (1 ∷ Y 1 ∷ Y 2 ∷ Y 3 ∷ []) refl room 2 2 (option_words o) (omega arith)
      ∙ ap (put w place 4) (last 1 (Y 1) (Y 2) (Y 3) o)

pub cleared : (w z : List ℕ) (place : ℕ) → place + 4 ≤ length w → z ≡ replicate (length (part w place (place + 4 - place))) 0
    → put w place (place + 4 - place) z ≡ put w place 4 (0 ∷ 0 ∷ 0 ∷ 0 ∷ [])
cleared w z place h e =
    let n : place + 4 - place ≡ 4 = omega arith in
    let l : length (part w place (place + 4 - place)) ≡ 4 = part_length w place (place + 4 - place) (omega arith) ∙ n in
    put_as w place (place + 4 - place) 4 z (0 ∷ 0 ∷ 0 ∷ 0 ∷ []) n (e ∙ ap (λ (k : ℕ). replicate k 0) l)

-- ---- a row: the head, and the site behind it

pub row_written : (w w1 w2 : List ℕ) (place : ℕ) (xs ys : List ℕ) → place + held_width ≤ length w → length xs ≡ head_width
    → w1 ≡ put w place head_width xs → w2 ≡ put w1 (place + head_width) 4 ys → w2 ≡ put w place held_width (xs ++ ys)
row_written w w1 w2 place xs ys h l e f =
    f ∙ ap (λ (t : List ℕ). put t (place + head_width) 4 ys) e ∙ put-join w place head_width xs l (omega arith) 4 ys
