-- The ids read are the ancestors, and there are as many as document 01 counts. `Reached`: of the rows met, the first q were expanded, by which
-- m references were read (`read_by`); each row met is the row itself or an ancestor's, and the row of a parent of an expanded row was met. A
-- mark is 1 where the row's id was read, and the ids read that have no row are listed.
--     reached-start, reached-next     the walk's loop
--     reads_fit                       there is room for what is read
--     listed-are, bare_apart, read_count     what it has found at its end
-- Assumes nothing.
use Prim.Native.Nat.{ℕ, ◌+◌, ◌*◌, ◌<◌, ◌≤◌, zero-le}
use native.Mathlib.Omega.{arith}
use native.Mathlib.Numerals.{add-one}
use native.Mathlib.Decide.{ℕ_discrete, dec_lt}
use mathlib.Core.Path.{◌≡◌, refl, sym, ap, ◌∙◌}
use mathlib.Core.Bool.{Bool, true, false, not, ◌&&◌, ◌||◌}
use mathlib.Core.Logic.{◌⊎◌, inl, inr, ⊎_elim, ◌↔◌}
use mathlib.Core.List.{List, [], ◌∷◌, ◌++◌, map}
use lib.Dec.{eqb}
use lib.ListN.{length, get_or, set, take, replicate, length-append, length-set, length-replicate, get_or-replicate, get_or-eq_default}
use lib.Seq.{take-suc, take_all, take-append-le, get_or-set_same, get_or-set_other}
use Rattle.lists.specs.Lists.{has, ◌∈◌, ◌∉◌}
use Rattle.lists.specs.Sets.{add_all, keep, total}
use Rattle.lists.proofs.SortLaws.{true-or-false}
use Rattle.lists.proofs.SetLaws.{never, and_both, and-of, has-place, here, in-cons, in_left, in_right, has-append, in-add, add-here, in_all, all_left, asc-all, asc-keep, in-keep, keep-in, same-ids, total-same, in_take}
use Rattle.words.specs.Table.{ids, where_is, Found, At, Nothing}
use Rattle.words.proofs.TableLaws.{length_ids, at-is, nothing_is, hit}
use Rattle.rules.specs.Model.{Segment}
use Rattle.rules.specs.Tables.{held_width, held_segments}
use Rattle.rules.specs.Ancestors.{Ancestor, parent, further, parents_of, ancestors, family, references_read}
use Rattle.rules.proofs.Ancestry.{ancestor-trans, ancestors-sound, ancestors-complete, family-ascending, in-family}
use Rattle.rules.proofs.Counting.{total-fits}
use Rattle.tabled.specs.Image.{Tabled, segment_in}
use Rattle.walk.specs.Met.{Met, met, meet_all, Single, MetOnce, reached}
use Rattle.walk.proofs.ByParents.{parents-none, parents-row, row_at, row_is, words_are}
use Rattle.walk.proofs.Singles.{both, out, in-snoc, in_map, map-in, single-front, single-map, total-all, total_kept, total-map}
use Rattle.walk.proofs.Joined.{joined, joined_snoc, length-joined, in-joined, joined_in}
use Rattle.walk.proofs.Meeting.{rowless, and-or, MetAll, met_all}
use Rattle.walk.proofs.Scanning.{in-reached, reached-in}

-- ---- the walk from row a

abbrev pub parents_of_row : List ℕ → List ℕ → ℕ → List ℕ
parents_of_row rows edges r = (segment_in rows edges r).parents

abbrev pub id_of_row : List ℕ → ℕ → ℕ
id_of_row rows r = get_or rows (r * held_width) 0

-- the references that the first q rows of a list have
abbrev pub read_by : List ℕ → List ℕ → ℕ → List ℕ → List ℕ
read_by rows edges q l = joined (parents_of_row rows edges) (take q l)

pub record Reached (rows edges : List ℕ) (n a q m : ℕ) (s : Met) : Type 0 where
  pub held : MetOnce n s
  pub le : q ≤ length s.list
  pub itself : a ∈ s.list
  pub from : (x : ℕ) → x ∈ s.list → (x ≡ a) ⊎ Ancestor (held_segments rows edges n) (id_of_row rows x) (id_of_row rows a)
  pub closed : (x p r : ℕ) → x ∈ take q s.list → p ∈ parents_of_row rows edges x → where_is (ids rows held_width n) p ≡ At r → r ∈ s.list
  pub marks : (x : ℕ) → x < n → eqb (get_or s.mark x 0) 1 ≡ has (get_or (ids rows held_width n) x 0) (read_by rows edges q s.list)
  pub bares : (z : ℕ) → has z s.bare ≡ (has z (read_by rows edges q s.list) && rowless (ids rows held_width n) z)
  pub count : m ≡ length (read_by rows edges q s.list)
  pub room_for : length s.bare ≤ m

module _ (rows edges : List ℕ) (n : ℕ) (t : Tabled rows edges n) where
  abbrev S : List Segment
  S = held_segments rows edges n

  abbrev table : List ℕ
  table = ids rows held_width n

  abbrev parents_in : ℕ → List ℕ
  parents_in = parents_of_row rows edges

  abbrev id_at : ℕ → ℕ
  id_at = id_of_row rows

  -- how many parents an id has
  abbrev weight : ℕ → ℕ
  weight x = length (parents_of S x)

  -- ---- sums over rows

  id-once : (l : List ℕ) → ((x : ℕ) → x ∈ l → x < n) → Single l → Single (map id_at l)
  id-once l b s = single-map id_at l inj s
    where
      inj : (x y : ℕ) → x ∈ l → y ∈ l → id_at x ≡ id_at y → x ≡ y
      inj x y i j e =
          let p : where_is table (id_at x) ≡ At x = row_at rows edges n t.up x (b x i) in
          let q : where_is table (id_at y) ≡ At y = row_at rows edges n t.up y (b y j) in
          let z : where_is table (id_at x) ≡ At y = rw e q in
          cc

  -- what rows that stand once have together is a sum over their ids
  sum_rows : (l : List ℕ) → ((x : ℕ) → x ∈ l → x < n) → Single l → length (joined parents_in l) ≡ total weight (add_all (map id_at l) [])
  sum_rows l b s =
      length-joined parents_in l
      ∙ total-same (λ x. length (parents_in x)) (λ x. weight (id_at x)) l (λ x i. ap length (sym (parents-row rows edges n t.up x (b x i))))
      ∙ sym (total-map weight id_at l)
      ∙ sym (total-all weight (map id_at l) (id-once l b s))

  sum_fits : (l : List ℕ) → ((x : ℕ) → x ∈ l → x < n) → Single l → length (joined parents_in l) ≤ length edges
  sum_fits l b s = omega (arith, sum_rows l b s, total-fits S (add_all (map id_at l) []) (asc-all (map id_at l) [] tt), words_are rows edges n t.counts)

  module _ (a : ℕ) (la : a < n) where
    -- ---- the start

    pub reached-start : (mark : List ℕ) → mark ≡ replicate n 0 → Reached rows edges n a 0 0 (met (set mark a 2) (a ∷ []) [])
    unfolding joined
    reached-start mark e =
        record {
          held = record {
            size = length-set mark a 2 ∙ ap length e ∙ length-replicate n 0;
            single = (refl, tt);
            below = λ x i. rw (only x i) la;
            marked = λ x i. rw (only x i, own) (omega arith);
            unmarked = λ x o. get_or-set_other mark a x 2 0 (λ z. both x (a ∷ []) (rw z (here a [])) o) ∙ none x (dec_lt x n);
          };
          le = zero-le;
          itself = here a [];
          from = λ x i. inl (only x i);
          closed = λ x p r i. never i;
          marks = λ x l. not-one x (ℕ_discrete x a);
          bares = λ z. refl;
          count = refl;
          room_for = zero-le;
        }
      where
        only : (x : ℕ) → x ∈ (a ∷ []) → x ≡ a
        only x i = ⊎_elim (λ (z : x ≡ a). z) (λ (z : x ∈ []). never z) (in-cons x a [] i)

        size : length mark ≡ n
        size = ap length e ∙ length-replicate n 0

        none : (x : ℕ) → Dec (x < n) → get_or mark x 0 ≡ 0
        none x (yes h) = rw e (get_or-replicate n x 0 0 h)
        none x (no h) = get_or-eq_default mark 0 (omega (arith, size))

        own : get_or (set mark a 2) a 0 ≡ 2
        own = get_or-set_same mark a 2 0 (omega (arith, size))

        not-one : (x : ℕ) → Dec (x ≡ a) → eqb (get_or (set mark a 2) x 0) 1 ≡ false
        not-one x (yes z) = rw (z, own) refl
        not-one x (no q) = rw (get_or-set_other mark a x 2 0 q, none x (dec_lt x n)) refl

    module _ (q m : ℕ) (s : Met) (r : Reached rows edges n a q m s) where
      abbrev read : List ℕ
      read = read_by rows edges q s.list

      -- ---- a turn

      module _ (k : q < length s.list) where
        abbrev row : ℕ
        row = get_or s.list q 0

        more : take (q + 1) s.list ≡ take q s.list ++ (row ∷ [])
        more = rw add-one (take-suc s.list q 0 k)

        row_in : row ∈ s.list
        row_in = in_take row (q + 1) s.list (rw more (in_right row (take q s.list) (row ∷ []) (here row [])))

        pub row_below : row < n
        row_below = r.held.below row row_in

        read_more : read_by rows edges (q + 1) s.list ≡ read ++ parents_in row
        read_more = rw more (joined_snoc parents_in (take q s.list) row)

        -- there is room for what is read
        pub reads_fit : m + length (parents_in row) ≤ length edges
        reads_fit =
            omega (
              arith,
              sum_fits (take (q + 1) s.list) (λ x i. r.held.below x (in_take x (q + 1) s.list i)) (single-front (q + 1) s.list r.held.single),
              ap length read_more,
              length-append read (parents_in row),
              r.count,
            )

        pub reached-next : (s' : Met) → s' ≡ meet_all table (parents_in row) s → Reached rows edges n a (q + 1) (m + length (parents_in row)) s'
        reached-next s' e = rw e (go (met_all n table (length_ids rows held_width n) t.up (parents_in row) s r.held))
          where
            -- a parent of the row that is expanded is an ancestor
            up : (p : ℕ) → p ∈ parents_in row → Ancestor S p (id_at a)
            up p i = by (r.from row row_in) (parent (rw (parents-row rows edges n t.up row row_below) i))
              where
                by : (row ≡ a) ⊎ Ancestor S (id_at row) (id_at a) → Ancestor S p (id_at row) → Ancestor S p (id_at a)
                by (inl z) b = rw z at b
                by (inr c) b = ancestor-trans S b c

            go : (us : List ℕ) × MetAll n table (length_ids rows held_width n) t.up (parents_in row) us s (meet_all table (parents_in row) s)
                → Reached rows edges n a (q + 1) (m + length (parents_in row)) (meet_all table (parents_in row) s)
            go (us, v) =
                record {
                  held = v.held;
                  le = omega (arith, ap length v.longer, length-append s.list us);
                  itself = stay a r.itself;
                  from = λ x i. origin x (split x (rw v.longer at i));
                  closed = λ x p y i j f. shut x p y (in-snoc x row (take q s.list) (rw (front ∙ more) at i)) j f;
                  marks = λ x l. v.marks x l ∙ ap (λ (b : Bool). b || has (get_or table x 0) (parents_in row)) (r.marks x l) ∙ sym (read_has (get_or table x 0));
                  bares = λ z. v.bares z ∙ ap (λ (b : Bool). b || (has z (parents_in row) && rowless table z)) (r.bares z) ∙ and-or (has z read) (has z (parents_in row)) (rowless table z) ∙ ap (λ (b : Bool). b && rowless table z) (sym (read_has z));
                  count = omega (arith, ap length all_more, length-append read (parents_in row), r.count);
                  room_for = omega (arith, v.room_for, r.room_for);
                }
              where
                stay : (x : ℕ) → x ∈ s.list → x ∈ (meet_all table (parents_in row) s).list
                stay x i = rw v.longer (in_left x s.list us i)

                front : take (q + 1) (meet_all table (parents_in row) s).list ≡ take (q + 1) s.list
                front = rw v.longer (take-append-le (q + 1) s.list us (omega arith))

                all_more : read_by rows edges (q + 1) (meet_all table (parents_in row) s).list ≡ read ++ parents_in row
                all_more = ap (joined parents_in) front ∙ read_more

                read_has : (z : ℕ) → has z (read_by rows edges (q + 1) (meet_all table (parents_in row) s).list) ≡ (has z read || has z (parents_in row))
                read_has z = ap (has z) all_more ∙ has-append z read (parents_in row)

                split : (x : ℕ) → x ∈ (s.list ++ us) → (x ∈ s.list) ⊎ (x ∈ us)
                split x i = ⊎_elim (λ (z : x ∈ s.list). inl z) (λ (z : x ∉ s.list). inr (sym (has-append x s.list us ∙ rw z refl) ∙ i)) (true-or-false (has x s.list))

                origin : (x : ℕ) → (x ∈ s.list) ⊎ (x ∈ us) → (x ≡ a) ⊎ Ancestor S (id_at x) (id_at a)
                origin x (inl i) = r.from x i
                origin x (inr i) =
                    let f = v.fresh x i in
                    inr (rw (row_is rows edges n f.0 x f.2).1 (up f.0 f.1))

                shut : (x p y : ℕ) → (x ∈ take q s.list) ⊎ (x ≡ row) → p ∈ parents_in x → where_is table p ≡ At y → y ∈ (meet_all table (parents_in row) s).list
                shut x p y (inl i) j f = stay y (r.closed x p y i j f)
                shut x p y (inr z) j f = v.here-all p y (rw z at j) f

      -- ---- the end

      module _ (k : length s.list ≤ q) where
        whole : take q s.list ≡ s.list
        whole = take_all q s.list k

        all_read : read ≡ joined parents_in s.list
        all_read = ap (joined parents_in) whole

        row-parents : (x : ℕ) → x ∈ s.list → parents_of S (id_at x) ≡ parents_in x
        row-parents x i = parents-row rows edges n t.up x (r.held.below x i)

        sound : (p : ℕ) → p ∈ read → Ancestor S p (id_at a)
        sound p i = go (in-joined parents_in p s.list (rw all_read at i))
          where
            by : (x : ℕ) → (x ≡ a) ⊎ Ancestor S (id_at x) (id_at a) → Ancestor S p (id_at x) → Ancestor S p (id_at a)
            by x (inl z) b = rw z at b
            by x (inr c) b = ancestor-trans S b c

            go : (x : ℕ) × (x ∈ s.list) × (p ∈ parents_in x) → Ancestor S p (id_at a)
            go (x, j, m) = by x (r.from x j) (parent (rw (row-parents x j) m))

        -- an id without a row has no ancestors
        none_above : {p y : ℕ} → Ancestor S p y → where_is table y ≡ Nothing → ⊥
        none_above {p} {y} (parent i) e = never (sym (ap (has p) (parents-none rows edges n y e)) ∙ i)
        none_above {p} {y} (further {q = z} b i) e = never (sym (ap (has z) (parents-none rows edges n y e)) ∙ i)

        -- an ancestor of a row met was read
        above : {p y : ℕ} → Ancestor S p y → (x : ℕ) → x ∈ s.list → y ≡ id_at x → p ∈ read
        above {p} {y} (parent i) x j e = rw all_read (joined_in parents_in p x s.list j (rw (row-parents x j) at (rw e at i)))
        above {p} {y} (further {q = z} b i) x j e = go (above b) (where_is table z) refl
          where
            zi : z ∈ parents_in x
            zi = rw (row-parents x j) at (rw e at i)

            go : ((m : ℕ) → m ∈ s.list → z ≡ id_at m → p ∈ read) → (f : Found) → where_is table z ≡ f → p ∈ read
            go ih Nothing g = absurd (none_above b g)
            go ih (At m) g = ih m (r.closed x z m (rw whole j) zi g) (sym (row_is rows edges n z m g).1)

        read-are : (p : ℕ) → p ∈ read ↔ Ancestor S p (id_at a)
        read-are p = (sound p, λ b. above b a r.itself refl)

        -- what was read is listed by the marks, or has no row
        pub listed-are : (p : ℕ) → (p ∈ reached table s.mark n) ⊎ (p ∈ s.bare) ↔ Ancestor S p (id_at a)
        listed-are p = ((λ o. (read-are p).0 (was_read o)), λ b. place (where_is table p) refl ((read-are p).1 b))
          where
            was_read : (p ∈ reached table s.mark n) ⊎ (p ∈ s.bare) → p ∈ read
            was_read (inl i) = let x = in-reached table s.mark n p i in ap (λ (z : ℕ). has z read) (sym x.3) ∙ sym (r.marks x.0 x.1) ∙ x.2
            was_read (inr i) = (and_both (has p read) (rowless table p) (sym (r.bares p) ∙ i)).0

            place : (f : Found) → where_is table p ≡ f → p ∈ read → (p ∈ reached table s.mark n) ⊎ (p ∈ s.bare)
            place Nothing e i = inr (r.bares p ∙ and-of (has p read) (rowless table p) i (ap (λ (f : Found). not (hit f)) e))
            place (At x) e i =
                let z = at-is table p x e in
                let l : x < n = omega (arith, z.0, length_ids rows held_width n) in
                inl (rw (← z.1) (reached-in table s.mark n x l (r.marks x l ∙ ap (λ (y : ℕ). has y read) z.1 ∙ i)))

        pub bare_apart : (p : ℕ) → p ∈ s.bare → p ∉ table
        bare_apart p i = go (where_is table p) refl (and_both (has p read) (rowless table p) (sym (r.bares p) ∙ i)).1
          where
            go : (f : Found) → where_is table p ≡ f → not (hit f) ≡ true → p ∉ table
            go Nothing e h = out p table (λ k. let x = has-place p table k in nothing_is table p e x.0 x.1 x.3)
            go (At x) e h = never h

        -- ---- the count

        -- the ids of the rows met are those of the family that have a row
        met-family : add_all (map id_at s.list) [] ≡ keep (λ x. hit (where_is table x)) (family S (id_at a))
        unfolding family
        met-family =
            same-ids _ _ (asc-all (map id_at s.list) [] tt) (asc-keep _ (family S (id_at a)) (family-ascending S (id_at a)))
            (λ x i. into x (in_all x (map id_at s.list) [] i))
            (λ x i. let z = in-keep (λ y. hit (where_is table y)) x (family S (id_at a)) i in
            all_left x (map id_at s.list) [] (back x (in-add x (id_at a) (ancestors S (id_at a)) z.0) (where_is table x) refl z.1))
          where
            into-row : (x m : ℕ) → m ∈ s.list → x ≡ id_at m → x ∈ keep (λ y. hit (where_is table y)) (family S (id_at a))
            into-row x m j e =
                rw e
                (keep-in (λ y. hit (where_is table y)) (id_at m) (family S (id_at a)) (member (r.from m j)) (ap hit (row_at rows edges n t.up m (r.held.below m j))))
              where
                member : (m ≡ a) ⊎ Ancestor S (id_at m) (id_at a) → id_at m ∈ family S (id_at a)
                member (inl z) = rw z (add-here (id_at a) (ancestors S (id_at a)))
                member (inr b) = in-family S (id_at m) (id_at a) (ancestors-complete S (id_at m) (id_at a) b)

            into : (x : ℕ) → (x ∈ map id_at s.list) ⊎ (x ∈ []) → x ∈ keep (λ y. hit (where_is table y)) (family S (id_at a))
            into x (inl i) = let z = in_map id_at x s.list i in into-row x z.0 z.1 z.2
            into x (inr i) = never i

            back : (x : ℕ) → (x ≡ id_at a) ⊎ (x ∈ ancestors S (id_at a)) → (f : Found) → where_is table x ≡ f → hit f ≡ true → x ∈ map id_at s.list
            back x o Nothing e z = never z
            back x (inl e) (At m) f z = rw e (map-in id_at a s.list r.itself)
            back x (inr i) (At m) f z = let j = found (in-joined parents_in x s.list (rw all_read at (above (ancestors-sound S x (id_at a) i) a r.itself refl))) in
                rw (← (row_is rows edges n x m f).1) (map-in id_at m s.list j)
              where
                found : (y : ℕ) × (y ∈ s.list) × (x ∈ parents_in y) → m ∈ s.list
                found (y, j, w) = r.closed y x m (rw whole j) w f

        pub read_count : m ≡ references_read S (id_at a)
        unfolding references_read
        read_count =
            r.count
            ∙ ap length all_read
            ∙ sum_rows s.list r.held.below r.held.single
            ∙ ap (total weight) met-family
            ∙ total_kept weight (λ x. hit (where_is table x)) (λ x e. nothing x (where_is table x) refl e) (family S (id_at a))
          where
            nothing : (x : ℕ) (f : Found) → where_is table x ≡ f → hit f ≡ false → weight x ≡ 0
            nothing x Nothing e z = ap length (parents-none rows edges n x e)
            nothing x (At m) e z = never (sym z)
