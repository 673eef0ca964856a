-- What is lent stays the caller's: a call writes words, and hands back the very areas that it was lent.
-- Assumes nothing.
use Rattle.std.specs.Prelude.{◌≡◌}
use Rattle.lister.specs.declared.lent.Tables.{Tables}
use Rattle.lister.specs.declared.lent.Held.{Held}

pub record SameTables (old new : Tables) : Type 0 where
  pub rows : new.rows.ghost_name ≡ old.rows.ghost_name
  pub edges : new.edges.ghost_name ≡ old.edges.ghost_name
  pub places : new.places.ghost_name ≡ old.places.ghost_name

pub record SameHeld (old new : Held) : Type 0 where
  pub rows : new.rows.ghost_name ≡ old.rows.ghost_name
  pub edges : new.edges.ghost_name ≡ old.edges.ghost_name
