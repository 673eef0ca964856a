-- Held tables say again what they were made of: `layout_of (rows_of l ++ u) (edges_of l ++ v) (length l) ≡ l`, for every l, and for every words u and v past the contents.
-- Assumes nothing.
use Prim.Native.Nat.{ℕ, ◌+◌, ◌-◌, ◌*◌}
use native.Mathlib.Nat.{add-zero}
use native.Mathlib.Omega.{arith}
use mathlib.Core.Path.{◌≡◌, refl, sym, ap, ◌∙◌}
use mathlib.Core.Option.{Option, none, some}
use mathlib.Core.List.{List, [], ◌∷◌, ◌++◌, append_assoc}
use lib.ListN.{length, get_or, drop, length-append, length-map}
use lib.Seq.{get_or-append-add, take_at, drop_at}
use Rattle.rules.specs.Model.{Head, Segment, Site, Placement, Held, layout, by_id, held_of}
use Rattle.rules.specs.Tables.{head_width, held_width, stretch, head_at, parents_at, children_at, option_words, head_words, site_words, held_words, rows_of, edges_of, site_at, held_at, layout_from, layout_of, held_rows, held_edges}
use Rattle.words.specs.Part.{put}
use Rattle.rules.proofs.Ascended.{length-by_id}

-- ---- words after others

first-after : (pre ys : List ℕ) → get_or (pre ++ ys) (length pre) 0 ≡ get_or ys 0 0
first-after pre ys = rw add-zero at (get_or-append-add pre ys 0 0)

head-after : (pre ys : List ℕ) → head_at (pre ++ ys) (length pre) ≡ head_at ys 0
head-after pre ys =
    rw (
      first-after pre ys,
      get_or-append-add pre ys 1 0,
      get_or-append-add pre ys 2 0,
      get_or-append-add pre ys 3 0,
      get_or-append-add pre ys 4 0,
      get_or-append-add pre ys 5 0,
      get_or-append-add pre ys 6 0,
      get_or-append-add pre ys 7 0,
      get_or-append-add pre ys 8 0,
    ) refl

site-after : (pre ys : List ℕ) → site_at (pre ++ ys) (length pre) ≡ site_at ys 0
site-after pre ys = rw (first-after pre ys, get_or-append-add pre ys 1 0, get_or-append-add pre ys 2 0, get_or-append-add pre ys 3 0) refl

-- ---- a row read back

pub head-length : (h : Head) (p c : ℕ) → length (head_words h p c) ≡ head_width
head-length h p c = by h.sealed h.legacy
  where
    by : (s l : Option ℕ) → length (h.id ∷ h.start ∷ h.end ∷ h.state ∷ h.created ∷ (option_words s ++ (option_words l ++ (p ∷ c ∷ [])))) ≡ head_width
    by none none = refl
    by none (some y) = refl
    by (some x) none = refl
    by (some x) (some y) = refl

-- the head, and the two counts
abbrev Back : Head → ℕ → ℕ → List ℕ → Type 0
Back h p c w = (head_at w 0 ≡ h) × (parents_at w 0 ≡ p) × (children_at w 0 ≡ c)

head-back : (h : Head) (p c : ℕ) (ys : List ℕ) → Back h p c (head_words h p c ++ ys)
head-back h p c ys = by h.sealed h.legacy
  where
    by : (s l : Option ℕ) → Back (record { id = h.id; start = h.start; end = h.end; state = h.state; created = h.created; sealed = s; legacy = l }) p c
        ((h.id ∷ h.start ∷ h.end ∷ h.state ∷ h.created ∷ (option_words s ++ (option_words l ++ (p ∷ c ∷ [])))) ++ ys)
    by none none = (refl, refl, refl)
    by none (some y) = (refl, refl, refl)
    by (some x) none = (refl, refl, refl)
    by (some x) (some y) = (refl, refl, refl)

site-length : (s : Option Site) → length (site_words s) ≡ held_width - head_width
site-length none = refl
site-length (some s) = by s.tls
  where
    by : (o : Option ℕ) → length (1 ∷ s.url ∷ option_words o) ≡ 4
    by none = refl
    by (some x) = refl

site-back : (s : Option Site) (ys : List ℕ) → site_at (site_words s ++ ys) 0 ≡ s
site-back none ys = refl
site-back (some s) ys = by s.tls
  where
    by : (o : Option ℕ) → site_at ((1 ∷ s.url ∷ option_words o) ++ ys) 0 ≡ some (record { url = s.url; tls = o })
    by none = refl
    by (some x) = refl

pub held-length : (h : Head) (p c : ℕ) (s : Option Site) → length (held_words h p c s) ≡ held_width
held-length h p c s = length-append (head_words h p c) (site_words s) ∙ omega (arith, head-length h p c, site-length s)

-- ---- a row of the tables

module _ (h : Head) (p c : ℕ) (s : Option Site) (pre ys : List ℕ) (w : ℕ) (l : length pre ≡ w) where
  abbrev rows : List ℕ
  rows = pre ++ (held_words h p c s ++ ys)

  abbrev tail : List ℕ
  tail = head_words h p c ++ (site_words s ++ ys)

  same : rows ≡ pre ++ tail
  same = ap (λ (t : List ℕ). pre ++ t) (append_assoc (head_words h p c) (site_words s) ys)

  back : Back h p c tail
  back = head-back h p c (site_words s ++ ys)

  row-head : head_at rows w ≡ h
  row-head = rw (← l) (ap (λ (t : List ℕ). head_at t (length pre)) same ∙ head-after pre tail ∙ back.0)

  pub row-parents : parents_at rows w ≡ p
  row-parents = rw (← l) (ap (λ (t : List ℕ). parents_at t (length pre)) same ∙ get_or-append-add pre tail 9 0 ∙ back.1)

  pub row-children : children_at rows w ≡ c
  row-children = rw (← l) (ap (λ (t : List ℕ). children_at t (length pre)) same ∙ get_or-append-add pre tail 10 0 ∙ back.2)

  row-site : site_at rows (w + head_width) ≡ s
  row-site =
      let q : w + head_width ≡ length (pre ++ head_words h p c) = omega (arith, length-append pre (head_words h p c), head-length h p c) in
      let r : rows ≡ (pre ++ head_words h p c) ++ (site_words s ++ ys) = simp append_assoc in
      rw (q, r) (site-after (pre ++ head_words h p c) (site_words s ++ ys) ∙ site-back s ys)

-- ---- a stretch of the edges

stretch-after : (pre xs ys : List ℕ) (a e : ℕ) → length pre ≡ a → a + length xs ≡ e → stretch (pre ++ (xs ++ ys)) a e ≡ xs
stretch-after pre xs ys a e l q =
    let d : e - a ≡ length xs = omega arith in
    rw (d, drop_at pre (xs ++ ys) a l) (take_at xs ys (length xs) refl)

-- ---- all rows

from_back : (l : List Held) (R E u v pre epre : List ℕ) (i place : ℕ) → R ≡ pre ++ (rows_of l ++ u) → E ≡ epre ++ (edges_of l ++ v)
    → length pre ≡ i * held_width → length epre ≡ place → layout_from R E (length l) i place ≡ l
from_back [] R E u v pre epre i place f g a b = refl
from_back (x ∷ l) R E u v pre epre i place f g a b =
    let h : Head = x.segment.head in
    let ps : List ℕ = x.segment.parents in
    let cs : List ℕ = x.segment.children in
    let w : ℕ = i * held_width in
    let W : List ℕ = held_words h (length ps) (length cs) x.site in
    let r : R ≡ pre ++ (W ++ (rows_of l ++ u)) = f ∙ ap (λ (t : List ℕ). pre ++ t) (append_assoc W (rows_of l) u) in
    let r' : R ≡ (pre ++ W) ++ (rows_of l ++ u) = r ∙ sym (append_assoc pre W (rows_of l ++ u)) in
    let e1 : E ≡ epre ++ (ps ++ (cs ++ (edges_of l ++ v))) = g ∙ simp append_assoc in
    let e2 : E ≡ (epre ++ ps) ++ (cs ++ (edges_of l ++ v)) = g ∙ simp append_assoc in
    let e3 : E ≡ (epre ++ (ps ++ cs)) ++ (edges_of l ++ v) = g ∙ simp append_assoc in
    let hh : head_at R w ≡ h = ap (λ (t : List ℕ). head_at t w) r ∙ row-head h (length ps) (length cs) x.site pre (rows_of l ++ u) w a in
    let hp : parents_at R w ≡ length ps = ap (λ (t : List ℕ). parents_at t w) r ∙ row-parents h (length ps) (length cs) x.site pre (rows_of l ++ u) w a in
    let hc : children_at R w ≡ length cs = ap (λ (t : List ℕ). children_at t w) r ∙ row-children h (length ps) (length cs) x.site pre (rows_of l ++ u) w a in
    let hs : site_at R (w + head_width) ≡ x.site = ap (λ (t : List ℕ). site_at t (w + head_width)) r ∙ row-site h (length ps) (length cs) x.site pre (rows_of l ++ u) w a in
    let sp : stretch E place (place + parents_at R w) ≡ ps =
    ap (λ (n : ℕ). stretch E place (place + n)) hp ∙ ap (λ (t : List ℕ). stretch t place (place + length ps)) e1
    ∙ stretch-after epre ps (cs ++ (edges_of l ++ v)) place (place + length ps) b refl in
    let sc : stretch E (place + parents_at R w) (place + parents_at R w + children_at R w) ≡ cs =
    ap (λ (n : ℕ). stretch E (place + n) (place + n + children_at R w)) hp ∙ ap (λ (n : ℕ). stretch E (place + length ps) (place + length ps + n)) hc
    ∙ ap (λ (t : List ℕ). stretch t (place + length ps) (place + length ps + length cs)) e2
    ∙ stretch-after (epre ++ ps) cs (edges_of l ++ v) (place + length ps) (place + length ps + length cs) (length-append epre ps ∙ ap (λ (n : ℕ). n + length ps) b) refl in
    let one : held_at R E w place ≡ x = λ k. record { segment = record { head = hh k; parents = sp k; children = sc k }; site = hs k } in
    let width : length (pre ++ W) ≡ (i + 1) * held_width = omega (arith, length-append pre W, held-length h (length ps) (length cs) x.site) in
    let size : length (epre ++ (ps ++ cs)) ≡ place + parents_at R w + children_at R w = omega (arith, length-append epre (ps ++ cs), length-append ps cs) in
    let rest : layout_from R E (length l) (i + 1) (place + parents_at R w + children_at R w) ≡ l = from_back l R E u v (pre ++ W) (epre ++ (ps ++ cs)) (i + 1) _ r' e3 width size in
    λ k. one k ∷ rest k

-- the law: read back, a held layout is what it was
pub decode-encode : (l : List Held) (u v : List ℕ) → layout_of (rows_of l ++ u) (edges_of l ++ v) (length l) ≡ l
decode-encode l u v = from_back l (rows_of l ++ u) (edges_of l ++ v) u v [] [] 0 0 refl refl refl refl

-- so the words of the held tables determine the layout
pub encode_inj : (k l : List Held) → length k ≡ length l → rows_of k ≡ rows_of l → edges_of k ≡ edges_of l → k ≡ l
encode_inj k l n a b = sym (decode-encode k [] []) ∙ rw (a, b, n) (decode-encode l [] [])

-- held areas with the words of a layout at their front stand for the layout: n is the count of rows, and the words past the contents are unread
pub held-decodes : (ss : List Segment) (ps : List Placement) (rows₀ edges₀ : List ℕ) (k e n : ℕ) → length ss ≡ n
    → layout_of (put rows₀ 0 k (held_rows ss ps)) (put edges₀ 0 e (held_edges ss ps)) n ≡ layout ss ps
unfolding held_rows held_edges
held-decodes ss ps rows₀ edges₀ k e n l =
    let c : n ≡ length (layout ss ps) = sym (length-map (by_id ss) (held_of ps) ∙ length-by_id ss ∙ l) in
    rw c (decode-encode (layout ss ps) (drop k rows₀) (drop e edges₀))
