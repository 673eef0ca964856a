-- The abstract model: what the word tables of document 01 stand for. Every rule but those of the tables themselves (1 and 2) speaks of this alone.
-- Assumes nothing.
use Rattle.std.specs.Prelude.{ℕ, Bool, cond, List, [], ◌∷◌, map, eqb, leb}
use Rattle.std.proofs.Math.Option.{Option, none, some}
use Rattle.lists.specs.Sort.{sorted}

-- what a segment row says of itself
pub record Head : Type 0 where
  pub id : ℕ
  pub start : ℕ
  pub end : ℕ
  pub state : ℕ
  pub created : ℕ
  pub sealed : Option ℕ
  pub legacy : Option ℕ

-- a segment: its row's head, and its two stretches of the edge table
pub record Segment : Type 0 where
  pub head : Head
  pub parents : List ℕ
  pub children : List ℕ

-- where a segment is served: a URL and perhaps a TLS URL
pub record Site : Type 0 where
  pub url : ℕ
  pub tls : Option ℕ

pub record Placement : Type 0 where
  pub id : ℕ
  pub site : Site

-- a held segment, and where it is served, if that is known
pub record Held : Type 0 where
  pub segment : Segment
  pub site : Option Site

abbrev pub id_of : Segment → ℕ
id_of s = s.head.id

abbrev pub ids_of : List Segment → List ℕ
ids_of ss = map id_of ss

-- the segment with that id
abbrev pub lookup : ℕ → List Segment → Option Segment
lookup id [] = none
lookup id (s ∷ ss) = cond (eqb s.head.id id) (some s) (lookup id ss)

abbrev pub head_of : ℕ → List Head → Option Head
head_of id [] = none
head_of id (h ∷ hs) = cond (eqb h.id id) (some h) (head_of id hs)

-- "segments ascending"
abbrev pub id_le : Segment → Segment → Bool
id_le s t = leb s.head.id t.head.id

abbrev pub by_id : List Segment → List Segment
by_id ss = sorted id_le ss

-- the site of the placement with that id
abbrev pub site_of : ℕ → List Placement → Option Site
site_of id [] = none
site_of id (p ∷ ps) = cond (eqb p.id id) (some p.site) (site_of id ps)

-- what an accepted layout of these segments and placements holds: ascending by id, each segment with its site
abbrev pub held_of : List Placement → Segment → Held
held_of ps s = record { segment = s; site = site_of s.head.id ps }

abbrev pub layout : List Segment → List Placement → List Held
layout ss ps = map (held_of ps) (by_id ss)
