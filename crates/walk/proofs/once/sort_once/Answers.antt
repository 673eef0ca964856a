-- `sort_once` meets its contract: sorted rows rise, and they have the same ids.
use Prim.Native.Nat.{◌+◌, ◌*◌, ◌≤◌}
use native.Mathlib.Omega.{arith}
use lib.ListN.{length}
use Rattle.walk.proofs.Sorting.{sorted-length, sorted_front, sorted_rises, sorted-kept}
use Rattle.walk.proofs.once.sort_once.Goals as goal

pub keep_once-requires : goal.keep_once-requires
keep_once-requires c =
    let h : c.args.a + 3 * c.args.m ≤ length c.args.w.now = omega (arith, c.requires.0, c.requires.1) in (
      c.requires.0,
      omega (arith, c.requires.1, sorted-length c.args.w.now c.args.a c.args.m c.sort3.new.a h c.sort3.auto.a c.sort3.ensures),
      sorted_rises c.args.w.now c.args.a c.args.m c.sort3.new.a h c.sort3.auto.a c.sort3.ensures,
    )

pub returns : goal.returns
returns c =
    let h : c.args.a + 3 * c.args.m ≤ length c.args.w.now = omega (arith, c.requires.0, c.requires.1) in (
      sorted-kept c.args.w.now c.args.a c.args.m c.sort3.new.a h c.sort3.auto.a c.sort3.ensures _ c.keep_once.ensures.0,
      c.keep_once.ensures.1,
      sorted_front c.args.w.now c.args.a c.args.m c.sort3.new.a h c.sort3.auto.a c.sort3.ensures _ c.args.b (omega (arith, c.requires.0)) c.keep_once.ensures.2,
    )
