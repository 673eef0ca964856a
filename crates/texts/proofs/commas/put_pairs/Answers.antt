-- `texts::commas::put_pairs` meets its contract: each need is arithmetic, a law that is imported, or what a callee promised.
use Prim.Native.Nat.{min, ◌<◌}
use lib.ListN.{length}
use mathlib.Core.Path.{◌≡◌, sym}
use mathlib.Core.List.{[]}
use native.Mathlib.Omega.{arith}
use borrow.Author.Rules.{rules}
use Rattle.texts.proofs.Writing.{on, said}
use Rattle.texts.specs.CommaList.{pair_texts, pairs_listed}
use Rattle.texts.proofs.CommaLaws.{next-text, commas-none, commas-done, pairs-length, pair-at}
use Rattle.texts.proofs.commas.put_pairs.Goals as goal

pub returns-then-n-eq0 : goal.returns-then-n-eq0
unfolding pairs_listed
returns-then-n-eq0 c =
    let ts = pair_texts c.args.mark c.args.pairs.now in
    said
    (commas-none ts c.args.count c.min-n.result (omega (arith, pairs-length c.args.mark c.args.pairs.now, c.min-n.ensures)) (search rules))
    c.put_byte.ensures

pub loop-i-preserved : goal.loop-i-preserved
loop-i-preserved c =
    let ts = pair_texts c.args.mark c.args.pairs.now in
    let h : c.loop-i.i < length ts = omega (arith, pairs-length c.args.mark c.args.pairs.now, c.min-n.ensures) in (
      search rules,
      search rules,
      search rules,
      next-text ts c.loop-i.i [] (omega arith) h (pair-at c.args.mark c.args.pairs.now c.loop-i.i h) c.loop-i.invariant.3
          c.put_byte-p.ensures c.put_pair-p-in-loop-i.ensures,
    )

pub returns : goal.returns
unfolding pairs_listed
returns c =
    let ts = pair_texts c.args.mark c.args.pairs.now in
    let n : c.loop-i.i ≡ min c.args.count (length ts) = omega (arith, pairs-length c.args.mark c.args.pairs.now, c.min-n.ensures) in
    said
    (commas-done ts c.args.count c.loop-i.i [] n (omega arith))
    (on (said (sym (pair-at c.args.mark c.args.pairs.now 0 (omega arith))) c.put_pair-p.ensures) c.loop-i.invariant.3)
