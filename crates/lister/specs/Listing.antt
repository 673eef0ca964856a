-- What a call leaves of a listing. Assumes nothing.
use Rattle.std.specs.Prelude.{◌≡◌, ℕ, take}
use Rattle.lister.specs.declared.Listing.{Listing}
use Rattle.lister.specs.Lent.{SameTables, SameHeld}

-- the areas that it was lent
pub record IsSame (old new : Listing) : Type 0 where
  pub line : new.line.bytes.ghost_name ≡ old.line.bytes.ghost_name
  pub tables : SameTables old.tables new.tables
  pub held : SameHeld old.held new.held

-- every word of them
pub record IsUnwritten (old new : Listing) : Type 0 where
  pub line : new.line.bytes.now ≡ old.line.bytes.now
  pub rows : new.tables.rows.now ≡ old.tables.rows.now
  pub edges : new.tables.edges.now ≡ old.tables.edges.now
  pub places : new.tables.places.now ≡ old.tables.places.now
  pub held : new.held.rows.now ≡ old.held.rows.now
  pub links : new.held.edges.now ≡ old.held.edges.now

-- of a write that fails: the line, the update's rows and placements, and the first n edge words; behind them may be those of the line at hand. Held
-- rows and edges are what the update left that was judged before the write
pub record IsKept (n : ℕ) (old new : Listing) : Type 0 where
  pub line : new.line.bytes.now ≡ old.line.bytes.now
  pub rows : new.tables.rows.now ≡ old.tables.rows.now
  pub places : new.tables.places.now ≡ old.tables.places.now
  pub edges : take n new.tables.edges.now ≡ take n old.tables.edges.now

-- where it stands, too
pub record IsLeft (old new : Listing) : Type 0 where
  pub at : new.at ≡ old.at
  pub kept : IsKept old.at.edges old new
