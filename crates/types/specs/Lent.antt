-- What is lent stays the caller's: a call writes words, and hands back the very areas that it was lent.
-- Assumes nothing.
use Rattle.std.specs.Prelude.{◌≡◌}
use Rattle.types.specs.declared.lent.Areas.{Areas}
use Rattle.types.specs.declared.lent.Changes.{Changes}
use Rattle.types.specs.declared.lent.Lists.{Lists}

pub record SameAreas (old new : Areas) : Type 0 where
  pub held : new.held.ghost_name ≡ old.held.ghost_name
  pub links : new.links.ghost_name ≡ old.links.ghost_name
  pub order : new.order.ghost_name ≡ old.order.ghost_name

pub record SameChanges (old new : Changes) : Type 0 where
  pub added : new.added.ghost_name ≡ old.added.ghost_name
  pub removed : new.removed.ghost_name ≡ old.removed.ghost_name
  pub splits : new.splits.ghost_name ≡ old.splits.ghost_name
  pub merges : new.merges.ghost_name ≡ old.merges.ghost_name

pub record SameLists (old new : Lists) : Type 0 where
  pub first : new.first.ghost_name ≡ old.first.ghost_name
  pub second : new.second.ghost_name ≡ old.second.ghost_name
