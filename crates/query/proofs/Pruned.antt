-- The lists of document 01 from the ancestors of a segment that has a row:
--     root_is          a pruned root by its row
--     pruned-are       pruned roots among the segment and its ancestors: a segment that is one has no ancestors
--     remote-are, incomplete-are     by what the history and the completed list say of each ancestor
-- Assumes nothing.
use Prim.Native.Nat.{ℕ, suc, ◌+◌, ◌*◌, ◌<◌}
use native.Mathlib.Omega.{arith}
use mathlib.Core.Path.{◌≡◌, refl, sym, ap, ◌∙◌}
use mathlib.Core.Bool.{Bool, true, false, cond, not, ◌&&◌}
use mathlib.Core.Option.{Option, none, some}
use mathlib.Core.List.{List, [], ◌∷◌}
use borrow.Author.Tests.{ne_eqb}
use lib.Dec.{eqb, ltb}
use lib.ListN.{length, get_or}
use Rattle.lists.specs.Lists as Lists
use Rattle.lists.specs.Lists.{has}
use Rattle.lists.specs.Sets.{add, keep}
use Rattle.lists.proofs.SetLaws.{never, keep_same}
use Rattle.words.specs.Table.{ids, where_is, Found, At, Nothing}
use Rattle.words.proofs.TableLaws.{row-found, hit}
use Rattle.rules.specs.Model.{Segment, ids_of, lookup}
use Rattle.rules.specs.Tables.{held_width, held_segments, start_of, parents_at}
use Rattle.rules.specs.Ancestors.{Ancestor, parent, further, parents_of, created_of, ancestors, family}
use Rattle.rules.specs.Ordering.{pruned_root, pruned, remote, incomplete}
use Rattle.rules.proofs.Ancestry.{ancestors-unique}
use Rattle.rules.proofs.Places.{start-room, length-stretch}
use Rattle.tabled.specs.Image.{Tabled, segment_in, segment_found}
use Rattle.tabled.proofs.ByRow.{lookup-found}
use Rattle.walk.proofs.ByParents.{parents-at}
use Rattle.owned.specs.Marks.{root_found, root_of}
use Rattle.query.specs.Told.{pruned_in, remote_in, incomplete_in}
use Rattle.tabled.proofs.HasRow.{has-row}

-- ---- a row's words

abbrev created_in : Option Segment → ℕ
created_in none = 0
created_in (some s) = s.head.created

created-lookup : (S : List Segment) (x : ℕ) → created_of S x ≡ created_in (lookup x S)
unfolding created_of
created-lookup [] x = refl
created-lookup (s ∷ S) x = go (created-lookup S x) (eqb s.head.id x)
  where
    go : created_of S x ≡ created_in (lookup x S) → (t : Bool) → cond t s.head.created (created_of S x) ≡ created_in (cond t (some s) (lookup x S))
    go ih true = refl
    go ih false = ih

none-length : (l : List ℕ) → Lists.none l ≡ eqb (length l) 0
none-length [] = refl
none-length (x ∷ l) = sym (ne_eqb (suc (length l)) 0 (λ e. omega arith))

keep-add : (t : ℕ → Bool) (x : ℕ) (l : List ℕ) → t x ≡ false → keep t (add x l) ≡ keep t l
unfolding keep add
keep-add t x [] e = rw e refl
keep-add t x (y ∷ l) e = go (keep-add t x l e) (ltb x y) (eqb y x)
  where
    go : keep t (add x l) ≡ keep t l → (p q : Bool) → keep t (cond p (x ∷ y ∷ l) (cond q (y ∷ l) (y ∷ add x l))) ≡ cond (t y) (y ∷ keep t l) (keep t l)
    go ih true q = rw e refl
    go ih false true = refl
    go ih false false = rw ih refl

module _ (rows edges : List ℕ) (h : ℕ) (t : Tabled rows edges h) where
  abbrev S : List Segment
  S = held_segments rows edges h

  parents-empty : (r : ℕ) → r < h → Lists.none (segment_in rows edges r).parents ≡ eqb (parents_at rows (r * held_width)) 0
  parents-empty r l =
      none-length (segment_in rows edges r).parents
      ∙ ap (λ (k : ℕ). eqb k 0) (length-stretch edges (start_of held_width rows r) (parents_at rows (r * held_width)) (omega (arith, start-room held_width rows h r (length edges) t.counts l)))

  root_is : (x : ℕ) → pruned_root S x ≡ root_of rows h x
  unfolding root_of
  root_is x = go (where_is (ids rows held_width h) x) refl
    where
      go : (f : Found) → where_is (ids rows held_width h) x ≡ f → (has x (ids_of S) && (Lists.none (parents_of S x) && ltb 0 (created_of S x))) ≡ root_found rows f
      go Nothing e = rw (has-row rows edges h x ∙ ap hit e) refl
      go (At r) e =
          let p : Lists.none (parents_of S x) ≡ eqb (parents_at rows (r * held_width)) 0 = ap Lists.none (parents-at rows edges h x r e) ∙ parents-empty r (row-found rows held_width h x r e).0 in
          let c : created_of S x ≡ get_or rows (r * held_width + 4) 0 = created-lookup S x ∙ ap created_in (lookup-found rows edges x h ∙ ap (segment_found rows edges) e) in
          rw (has-row rows edges h x ∙ ap hit e, p, c) refl

  -- a parentless segment has no ancestors
  no-ancestors : (c : ℕ) → parents_of S c ≡ [] → ancestors S c ≡ []
  no-ancestors c e = sym (ancestors-unique S c [] tt (λ x. ((λ i. never i), (λ b. absurd (none_of b refl)))))
    where
      none_of : {x y : ℕ} → Ancestor S x y → y ≡ c → ⊥
      none_of {x} {y} (parent i) z = never (sym (ap (has x) (ap (parents_of S) z ∙ e)) ∙ i)
      none_of {x} {y} (further {q = q} b i) z = never (sym (ap (has q) (ap (parents_of S) z ∙ e)) ∙ i)

  empty : (l : List ℕ) → Lists.none l ≡ true → l ≡ []
  empty [] e = refl
  empty (x ∷ l) e = never e

  pub pruned-are : (c : ℕ) → pruned_in rows h c (ancestors S c) ≡ pruned S c
  unfolding pruned family keep add
  pruned-are c = go (root_of rows h c) refl
    where
      both : (a b d : Bool) → (a && (b && d)) ≡ true → b ≡ true
      both true true d e = refl
      both true false d e = never e
      both false b d e = never e

      same : (l : List ℕ) → keep (root_of rows h) l ≡ keep (pruned_root S) l
      same l = keep_same (root_of rows h) (pruned_root S) l (λ x i. sym (root_is x))

      go : (b : Bool) → root_of rows h c ≡ b → cond b (c ∷ []) (keep (root_of rows h) (ancestors S c)) ≡ keep (pruned_root S) (add c (ancestors S c))
      go true e =
          let q : pruned_root S c ≡ true = root_is c ∙ e in
          let n : ancestors S c ≡ [] = no-ancestors c (empty (parents_of S c) (both (has c (ids_of S)) (Lists.none (parents_of S c)) (ltb 0 (created_of S c)) q)) in
          rw (n, q) refl
      go false e = same (ancestors S c) ∙ sym (keep-add (pruned_root S) c (ancestors S c) (root_is c ∙ e))

-- ---- by status

module _ (S : List Segment) (c : ℕ) (history completed : List ℕ) where
  pub remote-are : remote_in history completed (ancestors S c) ≡ remote S c history
  unfolding remote
  remote-are = keep_same _ _ (ancestors S c) (λ x i. status (has x history) (has x completed))
    where
      status : (a b : Bool) → eqb (cond a (cond b 2 1) 0) 0 ≡ not a
      status true true = refl
      status true false = refl
      status false b = refl

  pub incomplete-are : incomplete_in history completed (ancestors S c) ≡ incomplete S c history completed
  unfolding incomplete
  incomplete-are = keep_same _ _ (ancestors S c) (λ x i. status (has x history) (has x completed))
    where
      status : (a b : Bool) → eqb (cond a (cond b 2 1) 0) 1 ≡ (a && not b)
      status true true = refl
      status true false = refl
      status false b = refl
