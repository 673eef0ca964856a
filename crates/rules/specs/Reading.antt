-- Demand 3: a layout that the judge accepted, and reading in the order that the answers allow.
-- Assumes nothing.
use Rattle.std.specs.Prelude.{◌≡◌, ◌⊎◌, not, List, ℕ, suc, ◌+◌, ◌<◌, length, get_or, take}
use Rattle.lists.specs.Lists.{has, ◌∈◌, ◌∉◌}
use Rattle.lists.specs.Sets.{keep}
use Rattle.types.specs.declared.records.OrderingMode.{OrderingMode}
use Rattle.rules.specs.Model.{Segment, ids_of}
use Rattle.rules.specs.Ancestors.{parents_of, Ancestor}
use Rattle.rules.specs.Ordering.{ordering, blocked, MayRead}

-- what the judge establishes of an accepted layout and this page needs: every parent has a row, and the order lists every row, each after its parents
pub record Accepted (S : List Segment) : Type 0 where
  pub present : (c p : ℕ) → p ∈ parents_of S c → p ∈ ids_of S
  pub order : List ℕ
  pub all : (x : ℕ) → x ∈ ids_of S → x ∈ order
  pub before : (j : ℕ) → j < length order → (p : ℕ) → p ∈ parents_of S (get_or order j 0) → p ∈ take j order

-- "let the completed list only grow"
abbrev pub Grows : List ℕ → List ℕ → Type 0
Grows e e' = (x : ℕ) → x ∈ e → x ∈ e'

-- Segment c was answered with `named` as incomplete while the completed list was d. Since then j of the named segments were completed one after
-- the other, each of which could itself be read in its turn; the completed list is e now. Ids that are not named may come to it at any time.
pub data Reading (S : List Segment) (mode : OrderingMode) (history named d : List ℕ) : ℕ → List ℕ → Type 0 where
  begin : Reading S mode history named d 0 d
  complete : {j : ℕ} {e e' : List ℕ} (m : ℕ) → Reading S mode history named d j e
      → m ∈ named → m ∉ e → MayRead (ordering S mode m history e)
      → Grows e e' → m ∈ e' → ((x : ℕ) → x ∈ named → x ∈ e' → (x ∈ e) ⊎ (x ≡ m))
      → Reading S mode history named d (suc j) e'
  other : {j : ℕ} {e e' : List ℕ} → Reading S mode history named d j e
      → Grows e e' → ((x : ℕ) → x ∈ named → x ∈ e' → x ∈ e)
      → Reading S mode history named d j e'

-- those of the named that are not in the completed list
abbrev pub uncompleted : List ℕ → List ℕ → List ℕ
uncompleted named e = keep (λ x. not (has x e)) named

-- where segment c is after j completions of the k that were named, the completed list being e; remotes and n are the rest of its first answer
pub record Proceeds (S : List Segment) (mode : OrderingMode) (c : ℕ) (history named remotes : List ℕ) (n j : ℕ) (e : List ℕ) : Type 0 where
  -- k - j of the named are left
  pub left : length (uncompleted named e) + j ≡ length named
  -- "ours stays blocked before the k-th completion", by exactly those
  pub stays : j < length named → ordering S mode c history e ≡ blocked (uncompleted named e) remotes n
  -- "at least one named and uncompleted segment may itself be read, each time until all k are done"
  pub next : j < length named → (m : ℕ) × (m ∈ named) × (m ∉ e) × MayRead (ordering S mode m history e)
  -- "and may be read after it"
  pub reads : j ≡ length named → MayRead (ordering S mode c history e)

-- DEMAND 3: "No reading order comes to a dead end"
abbrev pub NoDeadEnd : List Segment → Type 0
NoDeadEnd S =
    (mode : OrderingMode) (c : ℕ) (history d named remotes : List ℕ) (n : ℕ) → ordering S mode c history d ≡ blocked named remotes n
    → (j : ℕ) (e : List ℕ) → Reading S mode history named d j e → Proceeds S mode c history named remotes n j e

-- "Ids that are not its ancestors, in either list, change nothing in its answer"; nor do order and repeats
abbrev pub OnlyAncestorsCount : List Segment → Type 0
OnlyAncestorsCount S =
    (mode : OrderingMode) (c : ℕ) (history history' completed completed' : List ℕ)
    → ((x : ℕ) → Ancestor S x c → has x history ≡ has x history')
    → ((x : ℕ) → Ancestor S x c → has x completed ≡ has x completed')
    → ordering S mode c history completed ≡ ordering S mode c history' completed'
