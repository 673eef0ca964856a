-- Segment lines, return by return: what the definition gives by what the callees answered, and the words that both lists leave.
-- Assumes nothing.
use Rattle.std.specs.Prelude.{Option, Some, None}
use mathlib.Core.Path.{◌≡◌, refl, sym, ap, ◌∙◌}
use mathlib.Core.Bool.{Bool, true, false, cond}
use mathlib.Core.List.{List, [], ◌∷◌, ◌++◌, append_assoc, append-nil}
use Prim.Native.Nat.{ℕ, zero, suc, ◌+◌, ◌-◌, ◌≤◌}
use native.Mathlib.Omega.{arith}
use lib.Dec.{eqb}
use lib.ListN.{length, take, drop, length-append, length-drop, drop_of_length-le}
use lib.Seq.{take_at, drop_at, take_all, drop-drop}
use Rattle.types.specs.declared.records.SegmentInfo.{SegmentInfo}
use Rattle.reading.specs.declared.lines.Line.{Line}
use Rattle.reading.specs.declared.lines.Line.TheVariants.{Segment}
use Rattle.reading.specs.Numbers.{number_of}
use Rattle.reading.specs.Fields.{fields_of, field, letter_of}
use Rattle.reading.specs.Lists.{before, numbers_of, items_of, list_of, listed, list_words, filled}
use Rattle.reading.specs.Lines.{Read, plain, row_of, segment_line}
use Rattle.reading.proofs.Chain.{is, is-not}

-- ---- a list that was measured

pub known : (r : Option ℕ) (o : Option (List ℕ)) (n : ℕ) → r ≡ listed o → r ≡ Some n → o ≡ Some (list_words o)
known r None n e k = absurd (let z : ◌≡◌ {A = ℕ} 0 1 = cc in omega arith)
known r (Some vs) n e k = refl

pub measured : (r : Option ℕ) (o : Option (List ℕ)) (n : ℕ) → r ≡ listed o → r ≡ Some n → length (list_words o) ≡ n
measured r None n e k = absurd (let z : ◌≡◌ {A = ℕ} 0 1 = cc in omega arith)
measured r (Some vs) n e k = cc

pub unknown : (r : Option ℕ) (o : Option (List ℕ)) → r ≡ listed o → r ≡ None → o ≡ None
unknown r None e k = refl
unknown r (Some vs) e k = absurd (let z : ◌≡◌ {A = ℕ} 0 1 = cc in omega arith)

numbers_fit : (room : ℕ) (is : List (List ℕ)) → length (list_words (numbers_of room is)) ≤ room
unfolding numbers_of
numbers_fit room [] = omega arith
numbers_fit zero (i ∷ is) = omega arith
numbers_fit (suc room) (i ∷ is) = go (number_of i) (numbers_of room is) (numbers_fit room is)
  where
    go : (n : Option ℕ) (o : Option (List ℕ)) → length (list_words o) ≤ room → length (list_words (before n o)) ≤ suc room
    go None o h = omega arith
    go (Some v) None h = omega arith
    go (Some v) (Some vs) h = omega arith

pub list-fits : (room : ℕ) (f : List ℕ) → length (list_words (list_of room f)) ≤ room
unfolding list_of
list-fits room f = go (eqb (letter_of f) 45) (numbers_fit room (items_of f))
  where
    go : (t : Bool) → length (list_words (numbers_of room (items_of f))) ≤ room → length (list_words (cond t (Some []) (numbers_of room (items_of f)))) ≤ room
    go true h = omega arith
    go false h = h

pub count_fits : (room : ℕ) (f : List ℕ) (r : Option ℕ) (n : ℕ) → r ≡ listed (list_of room f) → r ≡ Some n → n ≤ room
count_fits room f r n e k = omega (arith, list-fits room f, measured r (list_of room f) n e k)

-- ---- segment lines

module _ (s : List ℕ) (room n : ℕ) (ne : n ≡ length (fields_of s)) where
  pub segment-count : (n ≡ 10 → ⊥) → plain None ≡ segment_line room s
  unfolding segment_line
  segment-count h = is-not n (length (fields_of s)) 10 _ _ _ ne h refl

  module _ (h : n ≡ 10) (r : Option ℕ) (e : r ≡ listed (list_of room (field s 8))) where
    pub segment-parents : r ≡ None → plain None ≡ segment_line room s
    unfolding segment_line
    segment-parents k = is n (length (fields_of s)) 10 _ _ _ ne h (rw (unknown r (list_of room (field s 8)) e k) refl)

    module _ (p : ℕ) (k : r ≡ Some p) (r' : Option ℕ) (e' : r' ≡ listed (list_of (room - p) (field s 9))) where
      pub segment-children : r' ≡ None → plain None ≡ segment_line room s
      unfolding segment_line
      segment-children k' =
          is n (length (fields_of s)) 10 _ _ _ ne h
          (rw (known r (list_of room (field s 8)) p e k, measured r (list_of room (field s 8)) p e k, unknown r' (list_of (room - p) (field s 9)) e' k') refl)

      module _ (c : ℕ) (k' : r' ≡ Some c) (t : Option SegmentInfo) (et : t ≡ row_of s p c) where
        pub segment-row : t ≡ None → plain None ≡ segment_line room s
        unfolding segment_line
        segment-row kt =
            is n (length (fields_of s)) 10 _ _ _ ne h
            (rw (
              known r (list_of room (field s 8)) p e k,
              measured r (list_of room (field s 8)) p e k,
              known r' (list_of (room - p) (field s 9)) c e' k',
              measured r' (list_of (room - p) (field s 9)) c e' k',
              ← et,
              kt,
            ) refl)

        pub segment-read : (info : SegmentInfo) → t ≡ Some info
            → record { line = Some (Segment info); edges = list_words (list_of room (field s 8)) ++ list_words (list_of (room - p) (field s 9)); history = []; completed = [] }
            ≡ segment_line room s
        unfolding segment_line
        segment-read info kt =
            is n (length (fields_of s)) 10 _ _ _ ne h
            (rw (
              known r (list_of room (field s 8)) p e k,
              measured r (list_of room (field s 8)) p e k,
              known r' (list_of (room - p) (field s 9)) c e' k',
              measured r' (list_of (room - p) (field s 9)) c e' k',
              ← et,
              kt,
            ) refl)

pub segment-out : (R : Read) (w : List ℕ) → plain None ≡ R → (None ≡ R.line) × (w ≡ filled w R.edges)
segment-out R w e = (ap (λ (q : Read). q.line) e, ap (λ (q : Read). filled w q.edges) e)

-- ---- one list written behind another

module _ (W W₁ ps : List ℕ) (p : ℕ) (l : length ps ≡ p) (h : p ≤ length W) (e : W₁ ≡ filled W ps) where
  front-is : take p W₁ ≡ ps
  front-is = rw e (take_at ps (drop (length ps) W) p l)

  rest-is : drop p W₁ ≡ drop p W
  rest-is = rw e (drop_at ps (drop (length ps) W) p l ∙ rw l refl)

  part-is : take (length W₁ - p) (drop p W₁) ≡ drop p W
  part-is = take_all (length W₁ - p) (drop p W₁) (rw length-drop (omega arith)) ∙ rest-is

  pub room-left : length (take (length W₁ - p) (drop p W₁)) ≡ length W - p
  room-left = rw part-is (length-drop p W)

  none_left : drop (length W₁ - p) (drop p W₁) ≡ []
  none_left = drop_of_length-le (drop p W₁) {i = length W₁ - p} (rw length-drop (omega arith))

  pub both-written : (cs Y : List ℕ) → Y ≡ filled (take (length W₁ - p) (drop p W₁)) cs
      → take p W₁ ++ (Y ++ drop (length W₁ - p) (drop p W₁)) ≡ filled W (ps ++ cs)
  both-written cs Y k =
      let y : Y ≡ cs ++ drop (length cs) (drop p W) = k ∙ rw part-is refl in
      let m : length (ps ++ cs) ≡ p + length cs = length-append ps cs ∙ rw l refl in
      rw (front-is, none_left, append-nil Y, y, m, ← drop-drop (length cs) p W) (sym (append_assoc ps cs (drop (length cs) (drop p W))))

  pub both-listed : (f Y : List ℕ) → Y ≡ filled (take (length W₁ - p) (drop p W₁)) (list_words (list_of (length (take (length W₁ - p) (drop p W₁))) f))
      → take p W₁ ++ (Y ++ drop (length W₁ - p) (drop p W₁)) ≡ filled W (ps ++ list_words (list_of (length W - p) f))
  both-listed f Y k =
      both-written (list_words (list_of (length W - p) f)) Y (k ∙ ap (λ (n : ℕ). filled (take (length W₁ - p) (drop p W₁)) (list_words (list_of n f))) room-left)

pub segment-in : (R : Read) (l : Option Line) (w w' es : List ℕ) → record { line = l; edges = es; history = []; completed = [] } ≡ R → w' ≡ filled w es
    → (l ≡ R.line) × (w' ≡ filled w R.edges)
segment-in R l w w' es e q = (ap (λ (q : Read). q.line) e, q ∙ ap (λ (q : Read). filled w q.edges) e)
