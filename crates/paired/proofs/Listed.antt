-- Ids listed one by one: a search in a table tells whether it has an id, and the ids that it lacks stand one behind the other.
--     found_has, missing_has     `has` and the search agree
--     listed_start, listed_next, listed-count, listed-is     the loop that lists them
-- Assumes nothing.
use Prim.Native.Nat.{ℕ, ◌+◌, ◌*◌, ◌≤◌, ◌<◌}
use native.Mathlib.Numerals.{add-one}
use native.Mathlib.Omega.{arith}
use mathlib.Core.Path.{◌≡◌, refl, sym, ap, ◌∙◌}
use mathlib.Core.Bool.{Bool, true, false, not, cond}
use mathlib.Core.List.{List, [], ◌∷◌, ◌++◌, append_assoc}
use lib.ListN.{length, get_or, take, drop, set, length-append}
use lib.Seq.{take-suc, take_all, drop-drop, drop_at, take_at, set_split}
use Rattle.lists.specs.Lists.{has, front}
use Rattle.lists.specs.Sets.{keep}
use Rattle.lists.proofs.SetLaws.{keep-shorter}
use Rattle.words.specs.Part.{put}
use Rattle.words.proofs.PartLaws.{put-none}
use Rattle.rules.specs.Tables.{held_width}
use Rattle.words.specs.Table.{where_is, Found, At, Nothing}
use Rattle.words.proofs.TableLaws.{length_ids, ids_at, hit, has-hit}
use Rattle.paired.specs.Tables.{lacking, ids_in}

-- ---- the search

pub found_has : (l : List ℕ) (x r : ℕ) (f : Found) → f ≡ where_is l x → f ≡ At r → (b : Bool) → b ≡ true → b ≡ has x l
found_has l x r f e g b h = h ∙ sym (has-hit l x ∙ ap hit (sym e ∙ g))

pub missing_has : (l : List ℕ) (x : ℕ) (f : Found) → f ≡ where_is l x → f ≡ Nothing → (b : Bool) → b ≡ false → b ≡ has x l
missing_has l x f e g b h = h ∙ sym (has-hit l x ∙ ap hit (sym e ∙ g))

-- ---- what is kept of two lists

pub keep_append : (t : ℕ → Bool) (a b : List ℕ) → keep t (a ++ b) ≡ keep t a ++ keep t b
unfolding keep
keep_append t [] b = refl
keep_append t (x ∷ a) b = go (keep_append t a b) (t x)
  where
    go : keep t (a ++ b) ≡ keep t a ++ keep t b → (u : Bool) → cond u (x ∷ keep t (a ++ b)) (keep t (a ++ b)) ≡ cond u (x ∷ keep t a) (keep t a) ++ keep t b
    go ih true = ap (λ (l : List ℕ). x ∷ l) ih
    go ih false = ih

lacking-append : (a b u : List ℕ) → lacking (a ++ b) u ≡ lacking a u ++ lacking b u
unfolding lacking
lacking-append a b u = keep_append (λ (x : ℕ). not (has x u)) a b

lacking-few : (a u : List ℕ) → length (lacking a u) ≤ length a
unfolding lacking
lacking-few a u = keep-shorter (λ (x : ℕ). not (has x u)) a

-- ---- one id

module _ (x : ℕ) (u : List ℕ) (b : Bool) (said : b ≡ has x u) where
  had : b ≡ true → lacking (x ∷ []) u ≡ []
  unfolding lacking keep
  had told = rw (sym said ∙ told) refl

  lacked : b ≡ false → lacking (x ∷ []) u ≡ x ∷ []
  unfolding lacking keep
  lacked told = rw (sym said ∙ told) refl

  pub skip_count : b ≡ true → (k : ℕ) → k ≡ k + length (lacking (x ∷ []) u)
  skip_count told k = rw (had told) (omega arith)

  pub skip_is : b ≡ true → (k : ℕ) (out : List ℕ) → out ≡ put out k (length (lacking (x ∷ []) u)) (lacking (x ∷ []) u)
  skip_is told k out = rw (had told) (put-none out k)

  pub push-count : b ≡ false → (k : ℕ) → k + 1 ≡ k + length (lacking (x ∷ []) u)
  push-count told k = rw (lacked told) refl

  pub push-is : b ≡ false → (k : ℕ) (out : List ℕ) → k < length out → set out k x ≡ put out k (length (lacking (x ∷ []) u)) (lacking (x ∷ []) u)
  push-is told k out h = rw (lacked told, set_split out k x h, drop-drop 1 k out, add-one k) refl

-- ---- one behind the other

-- what stands when i ids of t were looked up in u: the k that u lacks, at the front
pub record Listed (out₀ out t u : List ℕ) (k i : ℕ) : Type 0 where
  pub size : length out ≡ length out₀
  pub few : k ≤ i
  pub count : k ≡ length (lacking (take i t) u)
  pub is : out ≡ front (lacking (take i t) u) out₀

pub listed_start : (out t u : List ℕ) → Listed out out t u 0 0
unfolding lacking keep
listed_start out t u = record { size = refl; few = omega arith; count = refl; is = refl }

-- ys behind xs at the front
front-join : (xs ys out₀ out : List ℕ) (k : ℕ) → k ≡ length xs → out ≡ front xs out₀ → put out k (length ys) ys ≡ front (xs ++ ys) out₀
front-join xs ys out₀ out k e f =
    let t : take k out ≡ xs = ap (take k) f ∙ take_at xs (drop (length xs) out₀) k (sym e) in
    let d : drop k out ≡ drop (length xs) out₀ = ap (drop k) f ∙ drop_at xs (drop (length xs) out₀) k (sym e) in
    rw (t, d, drop-drop (length ys) (length xs) out₀, length-append xs ys, append_assoc xs ys) refl

module _ (out₀ out these u : List ℕ) (n k i : ℕ) (p : Listed out₀ out (ids_in these n) u k i) where
  pub listed_next : i < n → (out' : List ℕ) (r : ℕ) → length out' ≡ length out → r ≡ k + length (lacking (get_or these (i * held_width) 0 ∷ []) u)
      → out' ≡ put out k (length (lacking (get_or these (i * held_width) 0 ∷ []) u)) (lacking (get_or these (i * held_width) 0 ∷ []) u)
      → Listed out₀ out' (ids_in these n) u r (i + 1)
  listed_next h out' r len c e =
      let t : List ℕ = ids_in these n in
      let x : ℕ = get_or these (i * held_width) 0 in
      let more : take (i + 1) t ≡ take i t ++ (x ∷ []) =
      rw (add-one i, take-suc t i 0 (rw (length_ids these held_width n) h), ids_at these held_width n i h) refl in
      let all : lacking (take (i + 1) t) u ≡ lacking (take i t) u ++ lacking (x ∷ []) u = ap (λ (l : List ℕ). lacking l u) more ∙ lacking-append (take i t) (x ∷ []) u in
      record {
        size = len ∙ p.size;
        few = omega (arith, lacking-few (x ∷ []) u, p.few);
        count = rw (all, length-append (lacking (take i t) u)) (rw (← p.count) c);
        is = e ∙ rw all (front-join (lacking (take i t) u) (lacking (x ∷ []) u) out₀ out k p.count p.is);
      }

  all_ids : n ≤ i → take i (ids_in these n) ≡ ids_in these n
  all_ids h = take_all i (ids_in these n) (rw (length_ids these held_width n) h)

  pub listed-count : n ≤ i → k ≡ length (lacking (ids_in these n) u)
  listed-count h = p.count ∙ ap (λ (l : List ℕ). length (lacking l u)) (all_ids h)

  pub listed-is : n ≤ i → out ≡ front (lacking (ids_in these n) u) out₀
  listed-is h = p.is ∙ ap (λ (l : List ℕ). front (lacking l u) out₀) (all_ids h)
