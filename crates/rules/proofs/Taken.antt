-- The order rule, where both ends of each edge tell of it: every segment is taken once, and after all its parents. While it runs, a node waits for
-- exactly those of its parents that were not taken yet (`Fine`); so a node that is ready has all of them behind it. Assumes nothing.
use Prim.Native.Nat.{ℕ, zero, suc, ◌+◌, ◌-◌, ◌<◌, ◌≤◌, zero-le, suc-le-suc, max}
use native.Mathlib.Nat.{le_of_suc-le-suc, not-suc-le-zero, sub-zero}
use native.Mathlib.Omega.{arith}
use mathlib.Core.Path.{◌≡◌, refl, sym, ap, ◌∙◌}
use mathlib.Core.Bool.{Bool, true, false, cond, ◌||◌}
use mathlib.Core.Logic.{◌⊎◌, inl, inr, ⊎_elim}
use mathlib.Core.Option.{Option, none, some}
use mathlib.Core.List.{List, [], ◌∷◌, ◌++◌, map}
use borrow.Author.Tests.{eq-eqb, ne_eqb, eqb-true}
use lib.Dec.{eqb, ltb}
use lib.ListN.{length, get_or, take, length-append}
use lib.Seq.{take-append-le, take-length}
use Rattle.lists.specs.Lists.{has, tick, ◌∈◌, ◌∉◌}
use Rattle.lists.specs.Sets.{Ascending, add, add_all}
use Rattle.lists.proofs.Cases.{lt-or-le, eq-or-ne}
use Rattle.lists.proofs.SortLaws.{true-or-false}
use Rattle.lists.proofs.SetLaws.{never, here_eq, there, in-cons, has-append, in_take, in-add, asc-add, length-add, in_all, asc-all, fits}
use Rattle.rules.specs.Model.{Segment, ids_of, lookup}
use Rattle.rules.specs.Order.{Node, node_of, first_ready, taken, depth_of, touched_node, touched, Visited, on, deep, visit, in_order, after_pick, after_visit, order_from}

-- ---- how often

-- how often x stands in the list, and how many of the list stand in xs
abbrev pub times : ℕ → List ℕ → ℕ
times x [] = 0
times x (y ∷ l) = tick (eqb y x) + times x l

abbrev pub hits : List ℕ → List ℕ → ℕ
hits [] xs = 0
hits (q ∷ l) xs = tick (has q xs) + hits l xs

tick-le : (b : Bool) → tick b ≤ 1
tick-le true = omega arith
tick-le false = omega arith

pub times-in : (x : ℕ) (l : List ℕ) → 1 ≤ times x l → x ∈ l
times-in x [] h = absurd (not-suc-le-zero h)
times-in x (y ∷ l) h = go (times-in x l) (eqb y x) h
  where
    go : (1 ≤ times x l → x ∈ l) → (t : Bool) → 1 ≤ tick t + times x l → (t || has x l) ≡ true
    go ih true k = refl
    go ih false k = ih (omega arith)

pub in-times : (x : ℕ) (l : List ℕ) → x ∈ l → 1 ≤ times x l
in-times x [] h = never h
in-times x (y ∷ l) h = go (in-times x l) (eqb y x) h
  where
    go : (x ∈ l → 1 ≤ times x l) → (t : Bool) → (t || has x l) ≡ true → 1 ≤ tick t + times x l
    go ih true k = omega arith
    go ih false k = omega (arith, ih k)

hits-le : (l xs : List ℕ) → hits l xs ≤ length l
hits-le [] xs = zero-le
hits-le (q ∷ l) xs = omega (arith, tick-le (has q xs), hits-le l xs)

hits-all : (l xs : List ℕ) → hits l xs ≡ length l → (p : ℕ) → p ∈ l → p ∈ xs
hits-all [] xs e p h = never h
hits-all (q ∷ l) xs e p h = go (λ f. hits-all l xs f p) (has q xs) refl (in-cons p q l h)
  where
    go : (hits l xs ≡ length l → p ∈ l → p ∈ xs) → (t : Bool) → has q xs ≡ t → (p ≡ q) ⊎ (p ∈ l) → p ∈ xs
    go ih true s (inl k) = rw k s
    go ih true s (inr k) = ih (omega (arith, ap tick s)) k
    go ih false s k = absurd (omega (arith, ap tick s, hits-le l xs))

hits-none : (l : List ℕ) → hits l [] ≡ 0
hits-none [] = refl
hits-none (q ∷ l) = omega (arith, hits-none l)

-- one more is taken
hits-snoc : (l xs : List ℕ) (x : ℕ) → x ∉ xs → hits l (xs ++ (x ∷ [])) ≡ hits l xs + times x l
hits-snoc [] xs x h = refl
hits-snoc (q ∷ l) xs x h = omega (arith, hits-snoc l xs x h, one)
  where
    by : (a b : Bool) → (a ≡ true → b ≡ true → ⊥) → tick (a || (b || false)) ≡ tick a + tick b
    by true true n = absurd (n refl refl)
    by true false n = refl
    by false true n = refl
    by false false n = refl

    flip : eqb x q ≡ eqb q x
    flip = ⊎_elim (λ (e : x ≡ q). eq-eqb x q e ∙ sym (eq-eqb q x (sym e))) (λ (n : x ≡ q → ⊥). ne_eqb x q n ∙ sym (ne_eqb q x (λ e. n (sym e)))) (eq-or-ne x q)

    one : tick (has q (xs ++ (x ∷ []))) ≡ tick (has q xs) + tick (eqb q x)
    one =
        ap tick (has-append q xs (x ∷ []))
        ∙ by (has q xs) (eqb x q) (λ a b. let e : x ≡ q = eqb-true x q b in never (sym h ∙ (rw e a)))
        ∙ ap (λ (t : Bool). tick (has q xs) + tick t) flip

-- ---- a node by its id

abbrev pub find : ℕ → List Node → Option Node
find z [] = none
find z (x ∷ N) = cond (eqb x.id z) (some x) (find z N)

abbrev pub mapped : {A B : Type 0} → (A → B) → Option A → Option B
mapped f none = none
mapped f (some x) = some (f x)

-- the first node of that id becomes f of it: `taken` and `touched` are this
abbrev modify : ℕ → (Node → Node) → List Node → List Node
modify id f [] = []
modify id f (x ∷ N) = cond (eqb x.id id) (f x ∷ N) (x ∷ modify id f N)

abbrev unready : Node → Node
unready x = record { id = x.id; waits = x.waits; depth = x.depth; ready = false; children = x.children }

taken_is : (c : ℕ) (N : List Node) → taken c N ≡ modify c unready N
unfolding taken
taken_is c [] = refl
taken_is c (x ∷ N) = ap (λ (t : List Node). cond (eqb x.id c) (unready x ∷ N) (x ∷ t)) (taken_is c N)

touched-is : (c e : ℕ) (N : List Node) → touched c e N ≡ modify c (touched_node e) N
unfolding touched
touched-is c e [] = refl
touched-is c e (x ∷ N) = ap (λ (t : List Node). cond (eqb x.id c) (touched_node e x ∷ N) (x ∷ t)) (touched-is c e N)

module _ (f : Node → Node) (keeps : (x : Node) → (f x).id ≡ x.id) (c : ℕ) where
  find-same : (N : List Node) → find c (modify c f N) ≡ mapped f (find c N)
  find-same [] = refl
  find-same (x ∷ N) =
      ⊎_elim (λ (e : x.id ≡ c). simp (eq-eqb x.id c e, eq-eqb (f x).id c (keeps x ∙ e)))
      (λ (n : x.id ≡ c → ⊥). simp (ne_eqb x.id c n) (find-same N)) (eq-or-ne x.id c)

  find-other : (z : ℕ) → (c ≡ z → ⊥) → (N : List Node) → find z (modify c f N) ≡ find z N
  find-other z o [] = refl
  find-other z o (x ∷ N) =
      ⊎_elim
      (λ (e : x.id ≡ c). simp (eq-eqb x.id c e, ne_eqb (f x).id z (λ q. o (sym e ∙ (sym (keeps x) ∙ q))), ne_eqb x.id z (λ q. o (sym e ∙ q))))
      (λ (n : x.id ≡ c → ⊥). simp (ne_eqb x.id c n) (ap (λ (t : Option Node). cond (eqb x.id z) (some x) t) (find-other z o N)))
      (eq-or-ne x.id c)

  ids-modify : (N : List Node) → map (λ (x : Node). x.id) (modify c f N) ≡ map (λ (x : Node). x.id) N
  ids-modify [] = refl
  ids-modify (x ∷ N) = go (ids-modify N) (eqb x.id c)
    where
      go : map (λ (y : Node). y.id) (modify c f N) ≡ map (λ (y : Node). y.id) N
          → (t : Bool) → map (λ (y : Node). y.id) (cond t (f x ∷ N) (x ∷ modify c f N)) ≡ x.id ∷ map (λ (y : Node). y.id) N
      go ih true = ap (λ (k : ℕ). k ∷ map (λ (y : Node). y.id) N) (keeps x)
      go ih false = ap (λ (l : List ℕ). x.id ∷ l) ih

abbrev pub node_ids : List Node → List ℕ
node_ids N = map (λ (x : Node). x.id) N

find-in : (z : ℕ) (N : List Node) (x : Node) → find z N ≡ some x → x.id ≡ z
find-in z [] x e = let q : ◌≡◌ {A = ℕ} 0 1 = cc in absurd (omega arith)
find-in z (y ∷ N) x e = go (find-in z N x) (eqb y.id z) refl e
  where
    go : (find z N ≡ some x → x.id ≡ z) → (t : Bool) → eqb y.id z ≡ t → cond t (some y) (find z N) ≡ some x → x.id ≡ z
    go ih true s k = let same : y ≡ x = cc in ap (λ (n : Node). n.id) (sym same) ∙ eqb-true y.id z s
    go ih false s k = ih k

-- ---- the first that is ready

ready-in : (N : List Node) (x : Node) → first_ready N ≡ some x → x.id ∈ node_ids N
unfolding first_ready
ready-in [] x e = let q : ◌≡◌ {A = ℕ} 0 1 = cc in absurd (omega arith)
ready-in (y ∷ N) x e = go (ready-in N x) y.ready e
  where
    go : (first_ready N ≡ some x → x.id ∈ node_ids N) → (t : Bool) → cond t (some y) (first_ready N) ≡ some x → x.id ∈ (y.id ∷ node_ids N)
    go ih true k = let same : y ≡ x = cc in here_eq x.id y.id (node_ids N) (ap (λ (n : Node). n.id) (sym same))
    go ih false k = there x.id y.id (node_ids N) (ih k)

-- where ids ascend it is the node of its id
first_found : (N : List Node) (x : Node) → Ascending (node_ids N) → first_ready N ≡ some x → (find x.id N ≡ some x) × (x.ready ≡ true)
unfolding first_ready
first_found [] x up e = let q : ◌≡◌ {A = ℕ} 0 1 = cc in absurd (omega arith)
first_found (y ∷ N) x up e = go (first_found N x up.1) (ready-in N x) y.ready refl e
  where
    go : (first_ready N ≡ some x → (find x.id N ≡ some x) × (x.ready ≡ true)) → (first_ready N ≡ some x → x.id ∈ node_ids N)
        → (t : Bool) → y.ready ≡ t → cond t (some y) (first_ready N) ≡ some x → (cond (eqb y.id x.id) (some y) (find x.id N) ≡ some x) × (x.ready ≡ true)
    go ih there' true s k = let same : y ≡ x = cc in rw (← same) (rw (eq-eqb y.id y.id refl) refl, s)
    go ih there' false s k =
        let below : y.id < x.id = up.0 x.id (there' k) in
        (rw (ne_eqb y.id x.id (λ e. omega arith)) (ih k).0, (ih k).1)

-- ---- visiting the children of a node

-- x became x' by being touched k times
pub record Touched (k : ℕ) (x x' : Node) : Type 0 where
  pub kids : x'.children ≡ x.children
  pub waits : x'.waits ≡ x.waits - k
  pub ready : x'.ready ≡ true → (x.ready ≡ true) ⊎ ((1 ≤ k) × (x'.waits ≡ 0))

untouched : (x : Node) → Touched 0 x x
untouched x = record { kids = refl; waits = sym (sub-zero x.waits); ready = λ r. inl r }

touch-once : (e : ℕ) (x : Node) → Touched 1 x (touched_node e x)
touch-once e x = record { kids = refl; waits = refl; ready = go (eqb (x.waits - 1) 0) refl }
  where
    go : (t : Bool) → eqb (x.waits - 1) 0 ≡ t → cond t true x.ready ≡ true → (x.ready ≡ true) ⊎ ((1 ≤ 1) × (x.waits - 1 ≡ 0))
    go true s r = inr (omega arith, eqb-true (x.waits - 1) 0 s)
    go false s r = inl r

touch-as : (e k : ℕ) (x x' : Node) → touched_node e x ≡ x' → k ≡ 1 → Touched k x x'
touch-as e k x x' same one = rw (← same, one) (touch-once e x)

touch-more : (j k : ℕ) (x y z : Node) → Touched j x y → Touched k y z → Touched (j + k) x z
touch-more j k x y z a b =
    record {
      kids = b.kids ∙ a.kids;
      waits = omega (arith, a.waits, b.waits);
      ready = λ r. go (b.ready r);
    }
  where
    back : (y.waits ≡ 0) → z.waits ≡ 0
    back w = omega (arith, b.waits)

    go : (y.ready ≡ true) ⊎ ((1 ≤ k) × (z.waits ≡ 0)) → (x.ready ≡ true) ⊎ ((1 ≤ j + k) × (z.waits ≡ 0))
    go (inr h) = inr (omega (arith, h.0), h.1)
    go (inl h) = ⊎_elim (λ q. inl q) (λ (q : (1 ≤ j) × (y.waits ≡ 0)). inr (omega (arith, q.0), back q.1)) (a.ready h)

-- of each node that is there afterwards, what it was before
abbrev Was : (ℕ → ℕ) → List Node → List Node → Type 0
Was k N N' = (z : ℕ) (x' : Node) → find z N' ≡ some x' → (x : Node) × (find z N ≡ some x) × Touched (k z) x x'

mapped-some : {A B : Type 0} (f : A → B) (o : Option A) (y : B) → mapped f o ≡ some y → (x : A) × (o ≡ some x) × (f x ≡ y)
mapped-some f none y e = let q : ◌≡◌ {A = ℕ} 0 1 = cc in absurd (omega arith)
mapped-some f (some x) y e = (x, refl, cc)

was-touched : (c e : ℕ) (N : List Node) → Was (λ z. tick (eqb c z)) N (touched c e N)
was-touched c e N z x' f = go (eq-or-ne c z)
  where
    go : (c ≡ z) ⊎ (c ≡ z → ⊥) → (x : Node) × (find z N ≡ some x) × Touched (tick (eqb c z)) x x'
    go (inl s) =
        let g : find c (modify c (touched_node e) N) ≡ some x' = ap (find c) (sym (touched-is c e N)) ∙ (ap (λ (k : ℕ). find k (touched c e N)) s ∙ f) in
        let h : mapped (touched_node e) (find c N) ≡ some x' = sym (find-same (touched_node e) (λ x. refl) c N) ∙ g in
        let m = mapped-some (touched_node e) (find c N) x' h in
        (m.0, ap (λ (k : ℕ). find k N) (sym s) ∙ m.1, touch-as e (tick (eqb c z)) m.0 x' m.2 (ap tick (eq-eqb c z s)))
    go (inr n) =
        let g : find z N ≡ some x' = sym (find-other (touched_node e) (λ x. refl) c z n N) ∙ (ap (find z) (sym (touched-is c e N)) ∙ f) in
        (x', g, rw (ne_eqb c z n) (untouched x'))

visit-on : (limit d : ℕ) (cs : List ℕ) (N N' : List Node) → visit limit d cs N ≡ on N' → (node_ids N' ≡ node_ids N) × Was (λ z. times z cs) N N'
unfolding visit
visit-on limit d [] N N' e =
    let same : N ≡ N' = cc in
    (ap node_ids (sym same), λ z x' f. (x', rw same f, untouched x'))
visit-on limit d (c ∷ cs) N N' e =
    go (max (depth_of c N) (d + 1)) (λ m. visit-on limit d cs (touched c m N) N') (ltb limit (max (depth_of c N) (d + 1))) e
  where
    join : (m : ℕ) → (node_ids N' ≡ node_ids (touched c m N)) × Was (λ z. times z cs) (touched c m N) N' → (node_ids N' ≡ node_ids N) × Was (λ z. times z (c ∷ cs)) N N'
    join m r = (
      r.0 ∙ (ap node_ids (touched-is c m N) ∙ ids-modify (touched_node m) (λ x. refl) c N),
      λ z x' f.
          let b = r.1 z x' f in
          let a = was-touched c m N z b.0 b.1 in
          (a.0, a.1, touch-more (tick (eqb c z)) (times z cs) a.0 b.0 x' a.2 b.2),
    )

    go : (m : ℕ) → ((k : ℕ) → visit limit d cs (touched c k N) ≡ on N' → (node_ids N' ≡ node_ids (touched c k N)) × Was (λ z. times z cs) (touched c k N) N')
        → (t : Bool) → cond t (deep m) (visit limit d cs (touched c m N)) ≡ on N' → (node_ids N' ≡ node_ids N) × Was (λ z. times z (c ∷ cs)) N N'
    go m ih true k = let q : ◌≡◌ {A = ℕ} 0 1 = cc in absurd (omega arith)
    go m ih false k = join m (ih m k)

-- ---- both ends tell of each edge

-- what is asked of the segments: ids ascend, and x is a parent of z as often as z is a child of x
pub record Reciprocal (S : List Segment) : Type 0 where
  pub up : Ascending (ids_of S)
  pub agree : (x z : ℕ) (s t : Segment) → lookup x S ≡ some s → lookup z S ≡ some t → times x t.parents ≡ times z s.children

-- xs were taken, in this order, and N are the nodes
pub record Fine (S : List Segment) (xs : List ℕ) (N : List Node) : Type 0 where
  pub ids : node_ids N ≡ ids_of S
  pub node : (z : ℕ) (x : Node) → find z N ≡ some x → (s : Segment) × (lookup z S ≡ some s) × (x.children ≡ s.children) × (x.waits + hits s.parents xs ≡ length s.parents)
  pub ready : (z : ℕ) (x : Node) → find z N ≡ some x → x.ready ≡ true → (x.waits ≡ 0) × (z ∉ xs)
  pub rows : (z : ℕ) → z ∈ xs → z ∈ ids_of S
  pub once : (z : ℕ) → times z xs ≤ 1
  pub before : (j : ℕ) → j < length xs → (s : Segment) → lookup (get_or xs j 0) S ≡ some s → (p : ℕ) → p ∈ s.parents → p ∈ take j xs

-- ---- the beginning

find-start : (z : ℕ) (S : List Segment) → find z (map node_of S) ≡ mapped node_of (lookup z S)
find-start z [] = refl
find-start z (s ∷ S) = go (find-start z S) (eqb s.head.id z)
  where
    go : find z (map node_of S) ≡ mapped node_of (lookup z S) → (t : Bool) → cond t (some (node_of s)) (find z (map node_of S)) ≡ mapped node_of (cond t (some s) (lookup z S))
    go ih true = refl
    go ih false = ih

ids-start : (S : List Segment) → node_ids (map node_of S) ≡ ids_of S
ids-start [] = refl
ids-start (s ∷ S) = ap (λ (l : List ℕ). s.head.id ∷ l) (ids-start S)

begins : (S : List Segment) → Fine S [] (map node_of S)
begins S =
    record {
      ids = ids-start S;
      node = λ z x f. was z x f;
      ready = λ z x f r. free z x f r;
      rows = λ z h. never h;
      once = λ z. zero-le;
      before = λ j h. absurd (not-suc-le-zero h);
    }
  where
    was : (z : ℕ) (x : Node) → find z (map node_of S) ≡ some x → (s : Segment) × (lookup z S ≡ some s) × (x.children ≡ s.children) × (x.waits + hits s.parents [] ≡ length s.parents)
    was z x f =
        let m = mapped-some node_of (lookup z S) x (sym (find-start z S) ∙ f) in
        (m.0, m.1, ap (λ (n : Node). n.children) (sym m.2), omega (arith, ap (λ (n : Node). n.waits) m.2, hits-none m.0.parents))

    free : (z : ℕ) (x : Node) → find z (map node_of S) ≡ some x → x.ready ≡ true → (x.waits ≡ 0) × (z ∉ [])
    free z x f r =
        let m = mapped-some node_of (lookup z S) x (sym (find-start z S) ∙ f) in
        let e : eqb (length m.0.parents) 0 ≡ true = ap (λ (n : Node). n.ready) m.2 ∙ r in
        (sym (ap (λ (n : Node). n.waits) m.2) ∙ eqb-true (length m.0.parents) 0 e, refl)

-- ---- one node more

pub at_left : (xs : List ℕ) (i j : ℕ) → j < length xs → get_or (xs ++ (i ∷ [])) j 0 ≡ get_or xs j 0
at_left [] i j h = absurd (not-suc-le-zero h)
at_left (x ∷ xs) i zero h = refl
at_left (x ∷ xs) i (suc j) h = at_left xs i j (le_of_suc-le-suc h)

pub at_last : (xs : List ℕ) (i : ℕ) → get_or (xs ++ (i ∷ [])) (length xs) 0 ≡ i
at_last [] i = refl
at_last (x ∷ xs) i = at_last xs i

place_of : (p : ℕ) (xs : List ℕ) → p ∈ xs → (j : ℕ) × (j < length xs) × (get_or xs j 0 ≡ p)
place_of p [] h = never h
place_of p (x ∷ xs) h = go (place_of p xs) (in-cons p x xs h)
  where
    go : (p ∈ xs → (j : ℕ) × (j < length xs) × (get_or xs j 0 ≡ p)) → (p ≡ x) ⊎ (p ∈ xs) → (j : ℕ) × (j < suc (length xs)) × (get_or (x ∷ xs) j 0 ≡ p)
    go ih (inl e) = (0, suc-le-suc zero-le, sym e)
    go ih (inr k) = let r = ih k in (suc r.0, suc-le-suc r.1, r.2)

times_snoc : (z i : ℕ) (xs : List ℕ) → times z (xs ++ (i ∷ [])) ≡ times z xs + tick (eqb i z)
times_snoc z i [] = omega arith
times_snoc z i (x ∷ xs) = omega (arith, times_snoc z i xs)

not_in : (z : ℕ) (xs : List ℕ) → (z ∈ xs → ⊥) → z ∉ xs
not_in z xs n = ⊎_elim (λ (h : z ∈ xs). absurd (n h)) (λ h. h) (true-or-false (has z xs))

module _ (S : List Segment) (fit : Reciprocal S) (xs : List ℕ) (N : List Node) (fine : Fine S xs N) (x : Node) (first : first_ready N ≡ some x) (limit d : ℕ) (N' : List Node) (seen : visit limit d x.children (taken x.id N) ≡ on N') where
  abbrev i : ℕ
  i = x.id

  up-nodes : Ascending (node_ids N)
  up-nodes = rw fine.ids fit.up

  found : (find i N ≡ some x) × (x.ready ≡ true)
  found = first_found N x up-nodes first

  own : (s : Segment) × (lookup i S ≡ some s) × (x.children ≡ s.children) × (x.waits + hits s.parents xs ≡ length s.parents)
  own = fine.node i x found.0

  free : (x.waits ≡ 0) × (i ∉ xs)
  free = fine.ready i x found.0 found.1

  parents-taken : (p : ℕ) → p ∈ own.0.parents → p ∈ xs
  parents-taken p h = hits-all own.0.parents xs (omega (arith, own.3, free.0)) p h

  after : (node_ids N' ≡ node_ids (taken i N)) × Was (λ z. times z x.children) (taken i N) N'
  after = visit-on limit d x.children (taken i N) N' seen

  -- what a node was before node i was taken
  was : (z : ℕ) (y' : Node) → find z N' ≡ some y' → (y : Node) × (find z N ≡ some y) × (y'.children ≡ y.children) × (y'.waits ≡ y.waits - times z own.0.children) × (y'.ready ≡ true → ((y.ready ≡ true) × (z ≡ i → ⊥)) ⊎ ((1 ≤ times z own.0.children) × (y'.waits ≡ 0)))
  was z y' f = go (eq-or-ne i z)
    where
      b : (y : Node) × (find z (taken i N) ≡ some y) × Touched (times z x.children) y y'
      b = after.1 z y' f

      kids : times z x.children ≡ times z own.0.children
      kids = ap (times z) own.2

      to : (y : Node) → (y.waits ≡ b.0.waits) → (b.0.ready ≡ true → (y.ready ≡ true) × (z ≡ i → ⊥))
          → y'.ready ≡ true → ((y.ready ≡ true) × (z ≡ i → ⊥)) ⊎ ((1 ≤ times z own.0.children) × (y'.waits ≡ 0))
      to y w r t = ⊎_elim (λ (q : b.0.ready ≡ true). inl (r q)) (λ (q : (1 ≤ times z x.children) × (y'.waits ≡ 0)). inr (omega (arith, kids, q.0), q.1)) (b.2.ready t)

      go : (i ≡ z) ⊎ (i ≡ z → ⊥) → (y : Node) × (find z N ≡ some y) × (y'.children ≡ y.children) × (y'.waits ≡ y.waits - times z own.0.children) × (y'.ready ≡ true → ((y.ready ≡ true) × (z ≡ i → ⊥)) ⊎ ((1 ≤ times z own.0.children) × (y'.waits ≡ 0)))
      go (inl s) =
          let g : find i (modify i unready N) ≡ some b.0 = ap (find i) (sym (taken_is i N)) ∙ (ap (λ (k : ℕ). find k (taken i N)) s ∙ b.1) in
          let m = mapped-some unready (find i N) b.0 (sym (find-same unready (λ n. refl) i N) ∙ g) in (
            m.0,
            ap (λ (k : ℕ). find k N) (sym s) ∙ m.1,
            b.2.kids ∙ ap (λ (n : Node). n.children) (sym m.2),
            omega (arith, b.2.waits, ap (λ (n : Node). n.waits) m.2, kids),
            to m.0 (ap (λ (n : Node). n.waits) m.2) (λ t. never (ap (λ (n : Node). n.ready) m.2 ∙ t)),
          )
      go (inr n) =
          let g : find z N ≡ some b.0 = sym (find-other unready (λ n. refl) i z n N) ∙ (ap (find z) (sym (taken_is i N)) ∙ b.1) in
          (b.0, g, b.2.kids, omega (arith, b.2.waits, kids), to b.0 refl (λ t. (t, λ e. n (sym e))))

  -- where i is a parent of z, z was not taken, and is not i
  not_yet : (z : ℕ) (s : Segment) → lookup z S ≡ some s → i ∈ s.parents → (z ∈ (xs ++ (i ∷ []))) → ⊥
  not_yet z s l h k = go (in-cons z i []) (true-or-false (has z xs))
    where
      other : (z ∈ xs) → ⊥
      other q =
          let r = place_of z xs q in
          let t : i ∈ take r.0 xs = fine.before r.0 r.1 s (ap (λ (m : ℕ). lookup m S) r.2 ∙ l) i h in
          never (sym free.1 ∙ in_take i r.0 xs t)

      self : (z ≡ i) → ⊥
      self e =
          let same : some s ≡ some own.0 = sym l ∙ (ap (λ (m : ℕ). lookup m S) e ∙ own.1) in
          let seg : s ≡ own.0 = cc in
          let q : i ∈ own.0.parents = rw seg at h in
          never (sym free.1 ∙ parents-taken i q)

      go : (z ∈ (i ∷ []) → (z ≡ i) ⊎ (z ∈ [])) → (z ∈ xs) ⊎ (z ∉ xs) → ⊥
      go c (inl q) = other q
      go c (inr q) =
          let tail : z ∈ (i ∷ []) = sym (has-append z xs (i ∷ []) ∙ ap (λ (t : Bool). t || has z (i ∷ [])) q) ∙ k in
          ⊎_elim (λ (e : z ≡ i). self e) (λ (e : z ∈ []). never e) (c tail)

  fresh : (z : ℕ) → z ∉ xs → (z ≡ i → ⊥) → z ∉ (xs ++ (i ∷ []))
  fresh z h n = has-append z xs (i ∷ []) ∙ (ap (λ (t : Bool). t || has z (i ∷ [])) h ∙ ap (λ (t : Bool). t || false) (ne_eqb i z (λ e. n (sym e))))

  taken_fine : Fine S (xs ++ (i ∷ [])) N'
  taken_fine =
      record {
        ids = after.0 ∙ (ap node_ids (taken_is i N) ∙ (ids-modify unready (λ n. refl) i N ∙ fine.ids));
        node = λ z y' f. waits z y' f;
        ready = λ z y' f r. free-next z y' f r;
        rows = λ z h. row z h;
        once = λ z. single z;
        before = λ j h s l p k. behind j h s l p k;
      }
    where
      more : (l : List ℕ) → hits l (xs ++ (i ∷ [])) ≡ hits l xs + times i l
      more l = hits-snoc l xs i free.1

      waits : (z : ℕ) (y' : Node) → find z N' ≡ some y'
          → (s : Segment) × (lookup z S ≡ some s) × (y'.children ≡ s.children) × (y'.waits + hits s.parents (xs ++ (i ∷ [])) ≡ length s.parents)
      waits z y' f =
          let w = was z y' f in
          let o = fine.node z w.0 w.1 in (
            o.0,
            o.1,
            w.2 ∙ o.2,
            omega (arith, w.3, o.3, more o.0.parents, hits-le o.0.parents (xs ++ (i ∷ [])), fit.agree i z own.0 o.0 own.1 o.1),
          )

      free-next : (z : ℕ) (y' : Node) → find z N' ≡ some y' → y'.ready ≡ true → (y'.waits ≡ 0) × (z ∉ (xs ++ (i ∷ [])))
      free-next z y' f r = go (w.4 r)
        where
          w : (y : Node) × (find z N ≡ some y) × (y'.children ≡ y.children) × (y'.waits ≡ y.waits - times z own.0.children) × (y'.ready ≡ true → ((y.ready ≡ true) × (z ≡ i → ⊥)) ⊎ ((1 ≤ times z own.0.children) × (y'.waits ≡ 0)))
          w = was z y' f

          go : ((w.0.ready ≡ true) × (z ≡ i → ⊥)) ⊎ ((1 ≤ times z own.0.children) × (y'.waits ≡ 0)) → (y'.waits ≡ 0) × (z ∉ (xs ++ (i ∷ [])))
          go (inl q) = let g = fine.ready z w.0 w.1 q.0 in (omega (arith, w.3, g.0), fresh z g.1 q.1)
          go (inr q) =
              let o = fine.node z w.0 w.1 in
              let a : times i o.0.parents ≡ times z own.0.children = fit.agree i z own.0 o.0 own.1 o.1 in
              (q.1, not_in z (xs ++ (i ∷ [])) (not_yet z o.0 o.1 (times-in i o.0.parents (omega (arith, q.0)))))

      row : (z : ℕ) → z ∈ (xs ++ (i ∷ [])) → z ∈ ids_of S
      row z h = go (true-or-false (has z xs))
        where
          go : (z ∈ xs) ⊎ (z ∉ xs) → z ∈ ids_of S
          go (inl q) = fine.rows z q
          go (inr q) =
              let tail : z ∈ (i ∷ []) = sym (has-append z xs (i ∷ []) ∙ ap (λ (t : Bool). t || has z (i ∷ [])) q) ∙ h in
              let own_row : i ∈ ids_of S = rw (← fine.ids) (ready-in N x first) in
              ⊎_elim (λ (e : z ≡ i). rw e own_row) (λ (e : z ∈ []). never e) (in-cons z i [] tail)

      single : (z : ℕ) → times z (xs ++ (i ∷ [])) ≤ 1
      single z = ⊎_elim
          (λ (e : i ≡ z).
          let n : times z xs ≡ 0 = ⊎_elim (λ (q : 1 ≤ times z xs). never (sym free.1 ∙ (ap (λ (k : ℕ). has k xs) e ∙ times-in z xs q))) (λ (q : times z xs < 1). omega arith) (flip (lt-or-le (times z xs) 1)) in
          omega (arith, times_snoc z i xs, n, tick-le (eqb i z)))
          (λ (n : i ≡ z → ⊥). omega (arith, times_snoc z i xs, fine.once z, ap tick (ne_eqb i z n)))
          (eq-or-ne i z)
        where
          flip : (times z xs < 1) ⊎ (1 ≤ times z xs) → (1 ≤ times z xs) ⊎ (times z xs < 1)
          flip (inl q) = inr q
          flip (inr q) = inl q

      behind : (j : ℕ) → j < length (xs ++ (i ∷ [])) → (s : Segment) → lookup (get_or (xs ++ (i ∷ [])) j 0) S ≡ some s → (p : ℕ) → p ∈ s.parents → p ∈ take j (xs ++ (i ∷ []))
      behind j h s l p k = go (lt-or-le j (length xs))
        where
          go : (j < length xs) ⊎ (length xs ≤ j) → p ∈ take j (xs ++ (i ∷ []))
          go (inl q) =
              let t : p ∈ take j xs = fine.before j q s (ap (λ (m : ℕ). lookup m S) (sym (at_left xs i j q)) ∙ l) p k in
              rw (take-append-le j xs (i ∷ []) (omega arith)) t
          go (inr q) =
              let e : j ≡ length xs = omega (arith, simp length-append at h) in
              let same : some s ≡ some own.0 = sym l ∙ (ap (λ (m : ℕ). lookup (get_or (xs ++ (i ∷ [])) m 0) S) e ∙ (ap (λ (m : ℕ). lookup m S) (at_last xs i) ∙ own.1)) in
              let seg : s ≡ own.0 = cc in
              let t : p ∈ xs = parents-taken p (rw seg at k) in
              rw (e, take-append-le (length xs) xs (i ∷ []) (omega arith), take-length xs) t

-- ---- all of them

-- what is known once f nodes more were taken
pub record Taken (S : List Segment) (ys : List ℕ) : Type 0 where
  pub rows : (z : ℕ) → z ∈ ys → z ∈ ids_of S
  pub once : (z : ℕ) → times z ys ≤ 1
  pub before : (j : ℕ) → j < length ys → (s : Segment) → lookup (get_or ys j 0) S ≡ some s → (p : ℕ) → p ∈ s.parents → p ∈ take j ys

runs : (S : List Segment) → Reciprocal S → (limit f : ℕ) (xs : List ℕ) (N : List Node) → Fine S xs N → (ys : List ℕ) → order_from limit f xs N ≡ in_order ys → Taken S ys × (length ys ≡ length xs + f)
unfolding order_from
runs S fit limit zero xs N fine ys e =
    let same : xs ≡ ys = cc in
    (record { rows = rw (← same) fine.rows; once = rw (← same) fine.once; before = rw (← same) fine.before }, omega (arith, ap length same))
runs S fit limit (suc f) xs N fine ys e = pick (λ k ns fn. runs S fit limit f (xs ++ (k ∷ [])) ns fn ys) (first_ready N) refl e
  where
    step : ((k : ℕ) (ns : List Node) → Fine S (xs ++ (k ∷ [])) ns → order_from limit f (xs ++ (k ∷ [])) ns ≡ in_order ys → Taken S ys × (length ys ≡ length (xs ++ (k ∷ [])) + f))
        → (x : Node) → first_ready N ≡ some x → (v : Visited) → visit limit x.depth x.children (taken x.id N) ≡ v
        → after_visit v (λ rest. order_from limit f (xs ++ (x.id ∷ [])) rest) ≡ in_order ys → Taken S ys × (length ys ≡ length xs + suc f)
    step ih x first (deep d) seen k = let q : ◌≡◌ {A = ℕ} 0 1 = cc in absurd (omega arith)
    step ih x first (on ns) seen k =
        let r = ih x.id ns (taken_fine S fit xs N fine x first limit x.depth ns seen) k in
        (r.0, omega (arith, r.1, length-append xs (x.id ∷ [])))

    pick : ((k : ℕ) (ns : List Node) → Fine S (xs ++ (k ∷ [])) ns → order_from limit f (xs ++ (k ∷ [])) ns ≡ in_order ys → Taken S ys × (length ys ≡ length (xs ++ (k ∷ [])) + f))
        → (o : Option Node) → first_ready N ≡ o
        → after_pick o (λ x. after_visit (visit limit x.depth x.children (taken x.id N)) (λ rest. order_from limit f (xs ++ (x.id ∷ [])) rest)) ≡ in_order ys
        → Taken S ys × (length ys ≡ length xs + suc f)
    pick ih none first k = let q : ◌≡◌ {A = ℕ} 0 1 = cc in absurd (omega arith)
    pick ih (some x) first k = step ih x first (visit limit x.depth x.children (taken x.id N)) refl k

-- each id once: as many as there are segments are all of them
distinct-length : (ys : List ℕ) → ((z : ℕ) → times z ys ≤ 1) → length (add_all ys []) ≡ length ys
unfolding add_all
distinct-length [] h = refl
distinct-length (y ∷ ys) h =
    let apart : y ∉ ys = not_in y ys (λ k. absurd (omega (arith, h y, in-times y ys k, ap tick (eq-eqb y y refl)))) in
    let out : y ∉ add_all ys [] = not_in y (add_all ys []) (λ k. ⊎_elim (λ (q : y ∈ ys). never (sym apart ∙ q)) (λ (q : y ∈ []). never q) (in_all y ys [] k)) in
    length-add y (add_all ys []) out ∙ ap suc (distinct-length ys (λ z. omega (arith, h z)))

all_of : (ys ids : List ℕ) → ((z : ℕ) → times z ys ≤ 1) → ((z : ℕ) → z ∈ ys → z ∈ ids) → length ys ≡ length ids → (z : ℕ) → z ∈ ids → z ∈ ys
all_of ys ids once sub same z h = ⊎_elim (λ q. q) (λ (q : z ∉ ys). absurd (bad q)) (true-or-false (has z ys))
  where
    bad : z ∉ ys → ⊥
    bad q =
        let out : z ∉ add_all ys [] = not_in z (add_all ys []) (λ k. ⊎_elim (λ (w : z ∈ ys). never (sym q ∙ w)) (λ (w : z ∈ []). never w) (in_all z ys [] k)) in
        let up : Ascending (add z (add_all ys [])) = asc-add z (add_all ys []) (asc-all ys [] tt) in
        let inside : (x : ℕ) → x ∈ add z (add_all ys []) → x ∈ ids =
        λ x k. ⊎_elim (λ (e : x ≡ z). rw e h) (λ (w : x ∈ add_all ys []). ⊎_elim (λ (v : x ∈ ys). sub x v) (λ (v : x ∈ []). never v) (in_all x ys [] w)) (in-add x z (add_all ys []) k) in
        omega (arith, fits (add z (add_all ys [])) ids up inside, length-add z (add_all ys []) out, distinct-length ys once)

length_ids : (S : List Segment) → length (ids_of S) ≡ length S
length_ids [] = refl
length_ids (s ∷ S) = ap suc (length_ids S)

-- The order of segments whose edges both ends tell of: all of them, each once, each after its parents.
pub order-taken : (S : List Segment) → Reciprocal S → (limit : ℕ) (ys : List ℕ) → order_from limit (length S) [] (map node_of S) ≡ in_order ys
    → Taken S ys × ((z : ℕ) → z ∈ ids_of S → z ∈ ys)
order-taken S fit limit ys e =
    let r = runs S fit limit (length S) [] (map node_of S) (begins S) ys e in
    (r.0, all_of ys (ids_of S) r.0.once r.0.rows (omega (arith, r.1, length_ids S)))
