-- What is lent to a call, as the rule book's records of words.
-- Assumes nothing.
use Rattle.types.specs.declared.lent.Layout.{Layout}
use Rattle.types.specs.declared.lent.Areas as Lent
use Rattle.types.specs.declared.lent.Changes as Listed
use Rattle.rules.specs.Judge.{Tables, Areas}
use Rattle.rules.specs.Update.{Changes}

-- the words of the tables that come
abbrev pub tables_in : Layout → Tables
tables_in l = record { rows = l.rows.now; edges = l.edges.now; places = l.places.now }

-- the words of the areas that an accepted layout fills
abbrev pub areas_in : Lent.Areas → Areas
areas_in a = record { held = a.held.now; links = a.links.now; order = a.order.now }

-- the words of the four lists of a delta
abbrev pub changes_in : Listed.Changes → Changes
changes_in c = record { added = c.added.now; removed = c.removed.now; splits = c.splits.now; merges = c.merges.now }
