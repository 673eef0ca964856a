-- The answer of a segment that has a row, from its lists: `a n` is the answer where n references were read.
-- Assumes nothing.
use Rattle.std.specs.Prelude.{ℕ, ◌+◌, ◌*◌, ◌≤◌, ◌≡◌, cond, List, [], ◌∷◌, eqb, length}
use Rattle.lists.specs.Lists.{front}
use Rattle.lists.specs.Sets.{keep}
use Rattle.answers.specs.Verdict.{Verdict}
use Rattle.answers.specs.declared.Ordering.{Ordering}
use Rattle.types.specs.declared.records.OrderingMode.{OrderingMode}
use Rattle.rules.specs.Ordering.{Answer, unprovable_for, barred, settled, told_of, first_of, second_of, answered, ordering_of, first_after, second_after}
use Rattle.types.specs.declared.lent.History.{History}
use Rattle.types.specs.declared.lent.Lists.{Lists}
use Rattle.held.specs.declared.Held.{Held}
use Rattle.owned.specs.Marks.{status_of, root_of}

-- ancestors that no segment's history has, and those that were owned and not completed
abbrev pub remote_in : List ℕ → List ℕ → List ℕ → List ℕ
remote_in history completed ancestors = keep (λ x. eqb (status_of history completed x) 0) ancestors

abbrev pub incomplete_in : List ℕ → List ℕ → List ℕ → List ℕ
incomplete_in history completed ancestors = keep (λ x. eqb (status_of history completed x) 1) ancestors

-- pruned roots: a segment that is one has no ancestors
abbrev pub pruned_in : List ℕ → ℕ → ℕ → List ℕ → List ℕ
pruned_in rows h id ancestors = cond (root_of rows h id) (id ∷ []) (keep (root_of rows h) ancestors)

-- past the pruned roots
abbrev pub open_answer : OrderingMode → ℕ → List ℕ → List ℕ → ℕ → Answer
open_answer mode id remotes incomplete n = unprovable_for id n (barred mode remotes) (settled incomplete remotes n)

abbrev pub row_answer : OrderingMode → ℕ → List ℕ → List ℕ → List ℕ → ℕ → Answer
row_answer mode id pruned remotes incomplete n = unprovable_for id n pruned (open_answer mode id remotes incomplete n)

-- the answer of a row with this id and these ancestors
abbrev pub answer_for : Held → OrderingMode → ℕ → History → List ℕ → ℕ → Answer
answer_for held mode id history ancestors =
    row_answer mode id (pruned_in held.rows.now held.count id ancestors)
    (remote_in history.owned.now history.completed.now ancestors)
    (incomplete_in history.owned.now history.completed.now ancestors)

-- the answer by value, and both lists before and after
pub record Told (a : ℕ → Answer) (told : Verdict) (first first' second second' : List ℕ) : Type 0 where
  pub told_is : (n : ℕ) → told ≡ told_of (a n)
  pub first-is : (n : ℕ) → first' ≡ front (first_of (a n)) first
  pub second_is : (n : ℕ) → second' ≡ front (second_of (a n)) second

-- the same with its count
pub record Replied (a : Answer) (o : Ordering) (first first' second second' : List ℕ) : Type 0 where
  pub answer-is : o ≡ ordering_of (answered a)
  pub first-is : first' ≡ first_after (answered a) first
  pub second_is : second' ≡ second_after (answered a) second

-- room for a query over h rows with g edge words
pub record Room (work first second h g : ℕ) : Type 0 where
  pub for-work : 32 * (g + h) ≤ work
  pub for-first : g + 1 ≤ first
  pub for-second : g + 1 ≤ second

-- the same of held tables, a work area of that length and two lists
abbrev pub HasRoom : Held → ℕ → Lists → Type 0
HasRoom held work lists = Room work (length lists.first.now) (length lists.second.now) held.count (length held.edges.now)
