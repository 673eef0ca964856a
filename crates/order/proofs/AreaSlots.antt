-- The tree of the ready set, lent from the work area as the words 2n..4n and back again:
--     tree-back, tree-clear     what the area is once it is back, with other words, or empty
--     beside_same, beside-both     all words but the tree's stayed
-- Assumes nothing.
use mathlib.Core.Path.{◌≡◌, refl, ◌∙◌}
use mathlib.Core.List.{List}
use Prim.Native.Nat.{ℕ, ◌+◌, ◌-◌, ◌*◌, ◌≤◌}
use native.Mathlib.Omega.{arith}
use lib.ListN.{length}
use Rattle.words.specs.Part.{part, put}
use Rattle.words.proofs.PartLaws.{part_length, part-put, part-before, drop-after}
use Rattle.tree.specs.Tree.{Tree}
use Rattle.order.specs.Area.{tree_in, Beside}

halved : (n : ℕ) → 4 * n - 2 * n ≡ 2 * n
halved n = omega arith

-- the tree's part is back as ys
pub tree-back : (n : ℕ) (w ys : List ℕ) → 4 * n ≤ length w → length ys ≡ length (part w (2 * n) (4 * n - 2 * n))
    → (tree_in n (put w (2 * n) (4 * n - 2 * n) ys) ≡ ys) × Beside n w (put w (2 * n) (4 * n - 2 * n) ys)
tree-back n w ys l ly =
    let half = halved n in
    let l₂ : 2 * n + 2 * n ≤ length w = omega arith in
    let ly₂ : length ys ≡ 2 * n = ly ∙ rw half (part_length w (2 * n) (2 * n) l₂) in
    rw half (
      part-put w (2 * n) (2 * n) ys ly₂ l₂,
      record {
        degs = part-before w (2 * n) (2 * n) ys ly₂ l₂ 0 n (omega arith);
        deps = part-before w (2 * n) (2 * n) ys ly₂ l₂ n n (omega arith);
        rest = drop-after w (2 * n) (2 * n) ys ly₂ l₂ (4 * n) (omega arith);
      },
    )

pub tree-clear : (n : ℕ) (w ys : List ℕ) → 4 * n ≤ length w → length ys ≡ length (part w (2 * n) (4 * n - 2 * n)) → Tree n ys → Tree n (tree_in n (put w (2 * n) (4 * n - 2 * n) ys)) × Beside n w (put w (2 * n) (4 * n - 2 * n) ys)
tree-clear n w ys l ly t = let b = tree-back n w ys l ly in (rw b.0 t, b.1)

pub beside-both : (n : ℕ) (a b c : List ℕ) → Beside n a b → Beside n b c → Beside n a c
beside-both n a b c p q = record { degs = q.degs ∙ p.degs; deps = q.deps ∙ p.deps; rest = q.rest ∙ p.rest }

pub beside_same : (n : ℕ) (a : List ℕ) → Beside n a a
beside_same n a = record { degs = refl; deps = refl; rest = refl }
