-- `texts::area::put_bytes` meets its contract: each need is arithmetic, a law that is imported, or what a callee promised.
use native.Mathlib.Omega.{arith}
use borrow.Author.Rules.{rules}
use Rattle.texts.proofs.Writing.{byte-on}
use Rattle.texts.proofs.area.put_bytes.Goals as goal

pub loop-byte-preserved : goal.loop-byte-preserved
loop-byte-preserved c = (
  search rules,
  search rules,
  byte-on c.args.bytes.now c.loop-byte.byte-index (omega arith) c.loop-byte.invariant.2 c.put_byte-p.ensures,
)
