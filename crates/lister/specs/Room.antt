-- How much the programs' areas hold. Assumes nothing.
use Rattle.std.specs.Prelude.{◌≡◌, length, replicate}
use Rattle.lister.specs.declared.Listing.{Listing}
use Rattle.lister.specs.declared.lent.Buffers.{Buffers}

-- 4,096 bytes of a line; 32 rows of 11 words, 64 edge words and 32 placements of 4 words; 32 held rows of 15 words and 64 held edge words
pub record HasRoom (l : Listing) : Type 0 where
  pub line : length l.line.bytes.now ≡ 4096
  pub rows : length l.tables.rows.now ≡ 352
  pub edges : length l.tables.edges.now ≡ 64
  pub places : length l.tables.places.now ≡ 128
  pub held : length l.held.rows.now ≡ 480
  pub links : length l.held.edges.now ≡ 64

-- the words are 0
pub record IsZero (b : Buffers) : Type 0 where
  pub line : b.line ≡ replicate 4096 0
  pub rows : b.rows ≡ replicate 352 0
  pub edges : b.edges ≡ replicate 64 0
  pub places : b.places ≡ replicate 128 0
  pub held : b.held ≡ replicate 480 0
  pub links : b.links ≡ replicate 64 0
