-- The rows with the mark 1, by a scan upward: which ids are listed, that they ascend, and the loop of the scan.
--     in-reached, reached-in, reached-up
--     scan_step, scan-end
-- Assumes nothing.
use Prim.Native.Nat.{ℕ, zero, suc, ◌+◌, ◌*◌, ◌<◌, ◌≤◌}
use native.Mathlib.Omega.{arith}
use mathlib.Core.Path.{◌≡◌, refl, sym, ap, ◌∙◌}
use mathlib.Core.Bool.{Bool, true, false, cond}
use mathlib.Core.Logic.{⊎_elim}
use mathlib.Core.List.{List, [], ◌∷◌, ◌++◌}
use lib.Dec.{eqb}
use lib.ListN.{length, get_or, set, take}
use lib.Seq.{take-set-le}
use Rattle.lists.specs.Lists.{◌∈◌}
use Rattle.lists.specs.Sets.{Ascending}
use Rattle.lists.proofs.Cases.{lt-or-le}
use Rattle.lists.proofs.SetLaws.{never}
use Rattle.words.specs.Part.{part}
use Rattle.words.specs.Table.{ids, Ascends}
use Rattle.words.proofs.PartLaws.{part_at}
use Rattle.words.proofs.TableLaws.{ids_at}
use Rattle.rules.specs.Tables.{held_width}
use Rattle.tabled.proofs.Kept.{word_kept}
use Rattle.walk.specs.Met.{marks_in, reached, reached_in}
use Rattle.walk.proofs.Singles.{in-snoc, snoc_old, snoc_new, asc-snoc}
use Rattle.walk.proofs.Steps.{part-more}

module _ (table marks : List ℕ) where
  pub in-reached : (i z : ℕ) → z ∈ reached table marks i → (x : ℕ) × (x < i) × (eqb (get_or marks x 0) 1 ≡ true) × (get_or table x 0 ≡ z)
  unfolding reached
  in-reached zero z h = never h
  in-reached (suc i) z h = go (in-reached i z) (eqb (get_or marks i 0) 1) refl h
    where
      go : (z ∈ reached table marks i → (x : ℕ) × (x < i) × (eqb (get_or marks x 0) 1 ≡ true) × (get_or table x 0 ≡ z)) → (t : Bool) → eqb (get_or marks i 0) 1 ≡ t
          → z ∈ cond t (reached table marks i ++ (get_or table i 0 ∷ [])) (reached table marks i) → (x : ℕ) × (x < suc i) × (eqb (get_or marks x 0) 1 ≡ true) × (get_or table x 0 ≡ z)
      go ih true e h = ⊎_elim (λ (k : z ∈ reached table marks i). let r = ih k in (r.0, omega (arith, r.1), r.2, r.3)) (λ (k : z ≡ get_or table i 0). (i, omega arith, e, sym k)) (in-snoc z (get_or table i 0) (reached table marks i) h)
      go ih false e h = let r = ih h in (r.0, omega (arith, r.1), r.2, r.3)

  pub reached-in : (i x : ℕ) → x < i → eqb (get_or marks x 0) 1 ≡ true → get_or table x 0 ∈ reached table marks i
  unfolding reached
  reached-in zero x h e = absurd (omega arith)
  reached-in (suc i) x h e = ⊎_elim (λ (l : x < i). old (reached-in i x l e) (eqb (get_or marks i 0) 1)) (λ (l : i ≤ x). let z : x ≡ i = omega arith in rw z (new (eqb (get_or marks i 0) 1) (rw z at e))) (lt-or-le x i)
    where
      old : get_or table x 0 ∈ reached table marks i → (t : Bool) → get_or table x 0 ∈ cond t (reached table marks i ++ (get_or table i 0 ∷ [])) (reached table marks i)
      old k true = snoc_old (get_or table x 0) (get_or table i 0) (reached table marks i) k
      old k false = k

      new : (t : Bool) → t ≡ true → get_or table i 0 ∈ cond t (reached table marks i ++ (get_or table i 0 ∷ [])) (reached table marks i)
      new true k = snoc_new (get_or table i 0) (reached table marks i)
      new false k = never k

  pub reached-up : Ascends table → (i : ℕ) → i ≤ length table → Ascending (reached table marks i)
  unfolding reached
  reached-up up zero h = tt
  reached-up up (suc i) h = go (reached-up up i (omega arith)) (eqb (get_or marks i 0) 1)
    where
      under : (z : ℕ) → z ∈ reached table marks i → z < get_or table i 0
      under z k = let r = in-reached i z k in rw (← r.3) (up r.0 i r.1 h)

      go : Ascending (reached table marks i) → (t : Bool) → Ascending (cond t (reached table marks i ++ (get_or table i 0 ∷ [])) (reached table marks i))
      go ih true = asc-snoc (get_or table i 0) (reached table marks i) ih under
      go ih false = ih

-- ---- in the work area

module _ (rows : List ℕ) (n b : ℕ) (w₀ : List ℕ) (behind : 2 * n ≤ b) where
  abbrev up_to : ℕ → List ℕ
  up_to i = reached (ids rows held_width n) (marks_in n w₀) i

  pub scan-start : part w₀ b 0 ≡ up_to 0
  unfolding reached
  scan-start = refl

  module _ (i k : ℕ) (w : List ℕ) (room : b + k < length w) (front : take b w ≡ take b w₀) (h : i < n) (ki : k ≤ i) (done : part w b k ≡ up_to i) where
    next : up_to (i + 1) ≡ cond (eqb (get_or w (n + i) 0) 1) (up_to i ++ (get_or (ids rows held_width n) i 0 ∷ [])) (up_to i)
    unfolding reached
    next =
        let e : i + 1 ≡ suc i = omega arith in
        ap up_to e ∙ ap (λ (m : ℕ). cond (eqb m 1) (up_to i ++ (get_or (ids rows held_width n) i 0 ∷ [])) (up_to i)) (part_at w₀ n n i h ∙ sym (word_kept w w₀ b front (n + i) (omega arith)))

    pub scan_step : (w' : List ℕ) (k' : ℕ) → w' ≡ cond (eqb (get_or w (n + i) 0) 1) (set w (b + k) (get_or rows (i * held_width) 0)) w → k' ≡ cond (eqb (get_or w (n + i) 0) 1) (k + 1) k
        → (k' ≤ i + 1) × (take b w' ≡ take b w₀) × (part w' b k' ≡ up_to (i + 1))
    scan_step w' k' ew ek = rw (ew, ek, next) (go (eqb (get_or w (n + i) 0) 1))
      where
        id : get_or rows (i * held_width) 0 ≡ get_or (ids rows held_width n) i 0
        id = sym (ids_at rows held_width n i h)

        go : (t : Bool) → (cond t (k + 1) k ≤ i + 1) × (take b (cond t (set w (b + k) (get_or rows (i * held_width) 0)) w) ≡ take b w₀)
            × (part (cond t (set w (b + k) (get_or rows (i * held_width) 0)) w) b (cond t (k + 1) k) ≡ cond t (up_to i ++ (get_or (ids rows held_width n) i 0 ∷ [])) (up_to i))
        go true = (omega arith, take-set-le b w (b + k) (get_or rows (i * held_width) 0) (omega arith) ∙ front, part-more w b k (get_or rows (i * held_width) 0) room ∙ rw (done, id) refl)
        go false = (omega arith, front, done)

  pub scan-end : (i k : ℕ) (w : List ℕ) → i ≤ n → n ≤ i → part w b k ≡ up_to i → part w b k ≡ reached_in rows n w₀
  scan-end i k w h l e = let z : i ≡ n = omega arith in e ∙ ap up_to z
