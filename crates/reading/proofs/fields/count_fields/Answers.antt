-- `reading::fields::count_fields` meets its contract: each space begins one field more.
use borrow.Author.Rules.{rules}
use Prim.Native.Nat.{ℕ}
use mathlib.Core.Path.{◌≡◌}
use lib.Dec.{eqb}
use Rattle.std.specs.List.{count_by}
use Rattle.reading.proofs.Counts.{counted}
use Rattle.reading.proofs.fields.count_fields.Goals as goal

pub returns : goal.returns
returns c =
    let spaces : c.count.result ≡ count_by (λ (b : ℕ). eqb b 32) c.args.line.now = search rules in
    rw spaces (counted 32 c.args.line.now)
