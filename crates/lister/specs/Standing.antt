-- Where a listing stands. Assumes nothing.
use Rattle.std.specs.Prelude.{◌≡◌, Some, false}
use Rattle.drafts.specs.Places.{at_first}
use Rattle.drafts.specs.Draft.{opened_update}
use Rattle.rules.specs.Session.{new_session}
use Rattle.lister.specs.declared.Standing.{Standing}

-- before the first byte: no line, nothing of one, and an update with no word
pub record IsFirst (at : Standing) : Type 0 where
  pub kept : at.kept ≡ Some 0
  pub begun : at.begun ≡ false
  pub lines : at.lines ≡ 0
  pub stopped : at.stopped ≡ false
  pub place : at.place ≡ at_first
  pub session : at.session ≡ new_session 0
  pub update : at.update ≡ opened_update 0
  pub rows : at.rows ≡ 0
  pub edges : at.edges ≡ 0
  pub places : at.places ≡ 0
