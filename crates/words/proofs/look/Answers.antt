-- `words::look` meets its contract: each need is arithmetic, a law that is imported, or what a callee promised.
-- those before lo are below x, those from hi on above it
use native.Mathlib.Omega.{arith}
use mathlib.Core.Path.{◌≡◌}
use mathlib.Core.List.{List}
use Prim.Native.Nat.{ℕ, ◌+◌, ◌*◌, ◌≤◌, ◌<◌}
use native.Mathlib.Nat.{le_trans, lt_of_lt_of_le}
use native.Mathlib.Numerals.{lt_of_le_of_ne}
use Rattle.words.specs.Table.{ids, where_is, Ascends, At, Nothing}
use Rattle.words.proofs.TableLaws.{word_in}
use Rattle.words.proofs.Beside.{stands, past, short-of, between}
use lib.ListN.{get_or}
use Rattle.words.proofs.look.Invariants.{Bracket}
use Rattle.words.proofs.look.Goals as goal

module _ (t : List ℕ) (w n x lo hi : ℕ) (asc : Ascends (ids t w n)) (b : Bracket (ids t w n) x n lo hi) (m : ℕ) (from-lo : lo ≤ m) (in-hi : m < hi) where
  in-n : m < n
  in-n = lt_of_lt_of_le in-hi b.hi-le

  up : get_or t (m * w) 0 < x → Bracket (ids t w n) x n (m + 1) hi
  up h = record {
    lo-le = omega (arith, in-hi);
    hi-le = b.hi-le;
    below = past t w n x asc m in-n h;
    above = b.above;
  }

  down : x < get_or t (m * w) 0 → Bracket (ids t w n) x n lo m
  down h = record {
    lo-le = from-lo;
    hi-le = omega (arith, b.hi-le);
    below = b.below;
    above = short-of t w n x asc m in-n h;
  }

  hit : get_or t (m * w) 0 ≡ x → At m ≡ where_is (ids t w n) x
  hit = stands t w n x asc m in-n

miss : (t : List ℕ) (w n x lo hi : ℕ) → Bracket (ids t w n) x n lo hi → hi ≤ lo → Nothing ≡ where_is (ids t w n) x
miss t w n x lo hi b h = between t w n x lo b.below (λ k q. b.above k (le_trans h q))

pub returns-then-x-id : goal.returns-then-x-id
returns-then-x-id c =
    let inside = c.loop-lo.invariant.1 c.loop-lo-test.true in
    hit c.args.rows.now c.args.width _ _ _ _ c.requires.ascends c.loop-lo.invariant.0 _ inside.0 inside.1 c.if-x-id.true

pub loop-lo-preserved-then-x-id-2 : goal.loop-lo-preserved-then-x-id-2
loop-lo-preserved-then-x-id-2 c =
    let inside = c.loop-lo.invariant.1 c.loop-lo-test.true in (
      up c.args.rows.now c.args.width _ _ _ _ c.requires.ascends c.loop-lo.invariant.0 _ inside.0 inside.1 c.if-x-id-2.true,
      λ h. (c.further-at.ensures.0, c.further-at.ensures.2 h),
    )

pub loop-lo-preserved : goal.loop-lo-preserved
loop-lo-preserved c =
    let inside = c.loop-lo.invariant.1 c.loop-lo-test.true in (
      down c.args.rows.now c.args.width _ _ _ _ c.requires.ascends c.loop-lo.invariant.0 _ inside.0 inside.1 (omega arith),
      λ h. (c.nearer-at.ensures.0, c.nearer-at.ensures.2 h),
    )

pub returns : goal.returns
returns c = miss c.args.rows.now c.args.width _ _ _ _ c.loop-lo.invariant.0 c.loop-lo-test.false
