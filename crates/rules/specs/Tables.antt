-- Document 01, "Tables": from words to the model, and from the model to held words. A held row begins as a segment row does, so one
-- definition reads both: `width` is the number of words of a row of the table at hand. The widths, and how held edges are kept, stand
-- here and nowhere else.
-- Assumes nothing.
use Rattle.std.specs.Prelude.{ℕ, zero, suc, ◌+◌, ◌-◌, ◌*◌, cond, List, [], ◌∷◌, ◌++◌, length, get_or, take, drop, eqb}
use Rattle.std.proofs.Math.Option.{Option, none, some}
use Rattle.types.specs.declared.limits.DagLimits.{DagLimits}
use Rattle.rules.specs.Model.{Head, Segment, Site, Placement, Held, layout}

-- "Segment row, 11 words", "A held row is the segment row followed by URL flag, URL, TLS flag, TLS", "Placement row, 4 words"
abbrev pub row_width : ℕ
row_width = 11

abbrev pub held_width : ℕ
held_width = 15

abbrev pub place_width : ℕ
place_width = 4

-- how many words segment rows and held rows begin with alike
abbrev pub head_width : ℕ
head_width = 11

-- "Default limits: 4,096 segments, 16,384 edges, depth 256, size 1,048,576"
abbrev pub default_limits : DagLimits
default_limits = record { segments = 4096; edges = 16384; depth = 256; size = 1048576 }

-- ---- from words

-- "An optional field is a flag (0 absent, 1 present) and a word, which is unread when absent"
abbrev pub optional : ℕ → ℕ → Option ℕ
optional flag value = cond (eqb flag 0) none (some value)

-- the words of the edge table from place `from` up to, not including, place `to`: Rattle's `&edges[from..to]`
abbrev pub stretch : List ℕ → ℕ → ℕ → List ℕ
stretch edges from to = take (to - from) (drop from edges)

-- the row that begins at word w: "id, hash start, hash end, state, created epoch, seal flag, seal epoch, legacy flag, legacy text,
-- parent count, child count"
abbrev pub head_at : List ℕ → ℕ → Head
head_at rows w =
    record {
      id = get_or rows w 0;
      start = get_or rows (w + 1) 0;
      end = get_or rows (w + 2) 0;
      state = get_or rows (w + 3) 0;
      created = get_or rows (w + 4) 0;
      sealed = optional (get_or rows (w + 5) 0) (get_or rows (w + 6) 0);
      legacy = optional (get_or rows (w + 7) 0) (get_or rows (w + 8) 0);
    }

abbrev pub parents_at : List ℕ → ℕ → ℕ
parents_at rows w = get_or rows (w + 9) 0

abbrev pub children_at : List ℕ → ℕ → ℕ
children_at rows w = get_or rows (w + 10) 0

-- the row that begins at word w and whose edges begin at `at`: "the parents and then the children"
abbrev pub segment_at : List ℕ → List ℕ → ℕ → ℕ → Segment
segment_at rows edges w at =
    record {
      head = head_at rows w;
      parents = stretch edges at (at + parents_at rows w);
      children = stretch edges (at + parents_at rows w) (at + parents_at rows w + children_at rows w);
    }

-- n rows of that width from row i on, whose edges begin at `at`
abbrev pub segments_from : ℕ → List ℕ → List ℕ → ℕ → ℕ → ℕ → List Segment
segments_from width rows edges zero i at = []
segments_from width rows edges (suc n) i at =
    segment_at rows edges (i * width) at ∷ segments_from width rows edges n (i + 1) (at + parents_at rows (i * width) + children_at rows (i * width))

-- what n rows from row i on say of themselves, their edges unread
abbrev pub heads : ℕ → List ℕ → ℕ → ℕ → List Head
heads width rows zero i = []
heads width rows (suc n) i = head_at rows (i * width) ∷ heads width rows n (i + 1)

-- how many edge words n rows from row i on say they have, added as whole numbers
abbrev pub edges_from : ℕ → List ℕ → ℕ → ℕ → ℕ
edges_from width rows zero i = 0
edges_from width rows (suc n) i = parents_at rows (i * width) + children_at rows (i * width) + edges_from width rows n (i + 1)

-- where the edges of row i begin: after those of the rows before
abbrev pub start_of : ℕ → List ℕ → ℕ → ℕ
start_of width rows zero = 0
start_of width rows (suc i) = start_of width rows i + parents_at rows (i * width) + children_at rows (i * width)

-- "id, URL text, TLS flag, TLS text"
abbrev pub placement_at : List ℕ → ℕ → Placement
placement_at places w =
    record {
      id = get_or places w 0;
      site = record { url = get_or places (w + 1) 0; tls = optional (get_or places (w + 2) 0) (get_or places (w + 3) 0) };
    }

abbrev pub placements_from : List ℕ → ℕ → ℕ → List Placement
placements_from places zero i = []
placements_from places (suc n) i = placement_at places (i * place_width) ∷ placements_from places n (i + 1)

-- the input tables of n segment rows and of m placement rows, in input order; and the segments of held tables of n rows
abbrev pub segments : List ℕ → List ℕ → ℕ → List Segment
segments rows edges n = segments_from row_width rows edges n 0 0

abbrev pub placements : List ℕ → ℕ → List Placement
placements places m = placements_from places m 0

abbrev pub held_segments : List ℕ → List ℕ → ℕ → List Segment
held_segments rows edges n = segments_from held_width rows edges n 0 0

-- the site in the four words from w on
abbrev pub site_at : List ℕ → ℕ → Option Site
site_at rows w = cond (eqb (get_or rows w 0) 0) none (some (record { url = get_or rows (w + 1) 0; tls = optional (get_or rows (w + 2) 0) (get_or rows (w + 3) 0) }))

abbrev pub held_at : List ℕ → List ℕ → ℕ → ℕ → Held
held_at rows edges w at = record { segment = segment_at rows edges w at; site = site_at rows (w + head_width) }

abbrev pub layout_from : List ℕ → List ℕ → ℕ → ℕ → ℕ → List Held
layout_from rows edges zero i at = []
layout_from rows edges (suc n) i at =
    held_at rows edges (i * held_width) at ∷ layout_from rows edges n (i + 1) (at + parents_at rows (i * held_width) + children_at rows (i * held_width))

-- held tables of n rows
abbrev pub layout_of : List ℕ → List ℕ → ℕ → List Held
layout_of rows edges n = layout_from rows edges n 0 0

-- ---- to words

-- "held as 0" when absent
abbrev pub option_words : Option ℕ → List ℕ
option_words none = 0 ∷ 0 ∷ []
option_words (some value) = 1 ∷ value ∷ []

-- a segment row of that head, with that many parents and children
abbrev pub head_words : Head → ℕ → ℕ → List ℕ
head_words h parents children =
    h.id ∷ h.start ∷ h.end ∷ h.state ∷ h.created ∷ (option_words h.sealed ++ (option_words h.legacy ++ (parents ∷ children ∷ [])))

abbrev pub site_words : Option Site → List ℕ
site_words none = 0 ∷ 0 ∷ 0 ∷ 0 ∷ []
site_words (some s) = 1 ∷ s.url ∷ option_words s.tls

abbrev pub held_words : Head → ℕ → ℕ → Option Site → List ℕ
held_words h parents children site = head_words h parents children ++ site_words site

abbrev pub rows_of : List Held → List ℕ
rows_of [] = []
rows_of (x ∷ l) = held_words x.segment.head (length x.segment.parents) (length x.segment.children) x.site ++ rows_of l

abbrev pub edges_of : List Held → List ℕ
edges_of [] = []
edges_of (x ∷ l) = (x.segment.parents ++ x.segment.children) ++ edges_of l

-- the two tables that an accepted layout leaves
unfoldable pub held_rows : List Segment → List Placement → List ℕ
held_rows ss ps = rows_of (layout ss ps)

unfoldable pub held_edges : List Segment → List Placement → List ℕ
held_edges ss ps = edges_of (layout ss ps)
