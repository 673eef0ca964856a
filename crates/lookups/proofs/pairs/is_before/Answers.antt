-- `is_before` meets its contract: the words that it reads are the row's.
use borrow.Author.Tests.{eq-eqb, le-ltb}
use Rattle.answers.proofs.Judging.{judging}
use Rattle.sorts.proofs.RowLaws.{rows_at}
use Rattle.lookups.proofs.pairs.is_before.Goals as goal

pub returns-then-a-x : goal.returns-then-a-x
returns-then-a-x c = rw (rows_at _ _ c.requires) (search judging)

pub returns-then-a-x-2 : goal.returns-then-a-x-2
returns-then-a-x-2 c = rw (rows_at _ _ c.requires, le-ltb _ _ c.if-a-x.false, eq-eqb _ _ c.if-a-x-2.true)

pub returns-else-a-x-2 : goal.returns-else-a-x-2
returns-else-a-x-2 c = rw (rows_at _ _ c.requires) (search judging)
