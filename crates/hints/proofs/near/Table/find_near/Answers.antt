-- `Table::find_near` meets its contract: what was looked at says it, else the search does.
use Rattle.hints.proofs.near.Table.find_near.Goals as goal

pub returns-then-stands_at : goal.returns-then-stands_at
returns-then-stands_at c = c.stands_at.ensures c.if-stands_at.true

pub returns-then-lies_before : goal.returns-then-lies_before
returns-then-lies_before c = c.lies_before.ensures c.if-lies_before.true
