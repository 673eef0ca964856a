-- How long a line gets: with at most 32 rows held, 32 added, 32 removed and 64 pairs of each kind an update's line has at most 7,448 bytes,
-- and with at most 65 ids a list a query's has at most 2,736. An area of 8,192 bytes cuts neither.
-- Assumes nothing.
use Prim.Native.Nat.{ℕ, ◌+◌, ◌*◌, ◌≤◌}
use mathlib.Core.Path.{ap, ◌∙◌}
use mathlib.Core.Bool.{Bool, true, false, cond}
use mathlib.Core.List.{List, [], ◌∷◌, ◌++◌}
use native.Mathlib.Omega.{arith}
use native.Mathlib.Nat.{suc-mul}
use lib.Dec.{eqb}
use lib.ListN.{length, take, length-append, length-take}
use Rattle.answers.specs.declared.RefusalWords.{RefusalWords}
use Rattle.answers.specs.declared.DagDelta.{DagDelta}
use Rattle.answers.specs.Verdict.{Verdict}
use Rattle.answers.specs.Verdict as E
use Rattle.answers.specs.Updates.{UpdateAnswer}
use Rattle.answers.specs.Updates as U
use Rattle.answers.specs.Answer.{words_of}
use Rattle.answers.specs.Kinds.{kind_of}
use Rattle.texts.specs.Decimal.{decimal, signed}
use Rattle.texts.specs.CommaList.{listed, pairs_listed}
use Rattle.texts.proofs.Lengths.{decimal-length, signed-length, listed-length, pairs-listed-length, Within, within-take}
use Rattle.printing.specs.Shown.{splits_listed, merges_listed, letter_of, spaced, line, first_text, value_texts, refused, shown_refusal, shown_accepted, shown_updated, shown_unprovable, shown_blocked, shown_managed, shown_ordering, shown_unreadable}
use Rattle.printing.proofs.LineLaws.{spaced-append}

wider : (t : List ℕ) (ts : List (List ℕ)) {m k : ℕ} → length t ≤ m → length (spaced ts) ≤ k → length (spaced (t ∷ ts)) ≤ m + 1 + k
wider t ts h hs = omega (arith, length-append t (spaced ts))

lined : (letter : ℕ) (ts : List (List ℕ)) {k : ℕ} → length (spaced ts) ≤ k → length (line letter ts) ≤ k + 2
lined letter ts h = omega (arith, length-append (spaced ts) (10 ∷ []))

ids : {n most : ℕ} (l : List ℕ) → n ≤ most → length (listed n l) ≤ most * 21 + 1
ids {n} l h = omega (arith, listed-length n l)

pairs : (mark : ℕ) {n most : ℕ} (l : List ℕ) → n ≤ most → length (pairs_listed mark n l) ≤ most * 42 + 1
pairs mark {n} l h = omega (arith, pairs-listed-length mark n l)

-- ---- refusals: a number and at most four values

either : (b : Bool) (s t : List ℕ) → length s ≤ 21 → length t ≤ 21 → length (cond b s t) ≤ 21
either true s t h g = h
either false s t h g = g

value : (n : ℕ) → length (decimal n) ≤ 21
value n = omega (arith, decimal-length n)

first : (r : RefusalWords) → length (first_text r) ≤ 21
unfolding first_text
first r = either (eqb r.number 41) (signed r.a) (decimal r.a) (signed-length r.a) (value r.a)

spaced-length : (m : ℕ) (ts : List (List ℕ)) → Within m ts → length (spaced ts) ≤ length ts * (m + 1)
spaced-length m [] w = omega arith
spaced-length m (t ∷ ts) w = omega (arith, w.0, length-append t (spaced ts), spaced-length m ts w.1, suc-mul (length ts) (m + 1))

values_length : (r : RefusalWords) → length (spaced (value_texts r)) ≤ 88
unfolding value_texts
values_length r =
    let k = (kind_of r.number).values in
    let ts = first_text r ∷ decimal r.b ∷ decimal r.c ∷ decimal r.d ∷ [] in
    let w : Within 21 ts = (first r, (value r.b, (value r.c, (value r.d, tt)))) in
    let h : length (take k ts) ≤ 4 = rw (length-take k ts) (omega arith) in
    omega (arith, spaced-length 21 (take k ts) (within-take 21 k ts w), h)

refused-length : (r : RefusalWords) (more : List (List ℕ)) {k : ℕ} → length (spaced more) ≤ k → length (refused r more) ≤ 21 + (88 + k) + 2
refused-length r more {k} h =
    let e = ap length (spaced-append (value_texts r) more) ∙ length-append (spaced (value_texts r)) (spaced more) in
    let v : length (spaced (value_texts r ++ more)) ≤ 88 + k = omega (arith, e, values_length r) in
    lined 82 (decimal r.number ∷ (value_texts r ++ more)) (wider (decimal r.number) (value_texts r ++ more) (decimal-length r.number) v)

pub refusal-fits : (r : RefusalWords) → length (shown_refusal r) ≤ 111
unfolding shown_refusal
refusal-fits r = refused-length r [] {k = 0} (omega arith)

-- ---- updates

-- what the listing program holds at most
abbrev pub Few : UpdateAnswer → ℕ → Type 0
Few (U.Refused r) rows = Unit
Few U.Stale rows = Unit
Few (U.Accepted d) rows = (rows ≤ 32) × (d.added ≤ 32) × (d.removed ≤ 32) × (d.splits ≤ 64) × (d.merges ≤ 64)

accepted-fits : (d : DagDelta) (rows : ℕ) (order added removed splits merges : List ℕ) → Few (U.Accepted d) rows
    → length (shown_accepted d rows order added removed splits merges) ≤ 7448
unfolding shown_accepted
accepted-fits d rows order added removed splits merges few =
    let h = decimal d.handover ∷ [] in
    let l = (letter_of d.reason ∷ []) ∷ h in
    let m = merges_listed d.merges merges ∷ l in
    let s = splits_listed d.splits splits ∷ m in
    let r = listed d.removed removed ∷ s in
    let a = listed d.added added ∷ r in
    let o = listed rows order ∷ a in
    lined 65 (decimal d.epoch ∷ o) {k = 7446}
    (wider (decimal d.epoch) o {k = 7425} (decimal-length d.epoch)
    (wider (listed rows order) a {k = 6751} (ids order few.0)
    (wider (listed d.added added) r {k = 6077} (ids added few.1)
    (wider (listed d.removed removed) s {k = 5403} (ids removed few.2)
    (wider (splits_listed d.splits splits) m {k = 2713} (pairs 62 splits few.3)
    (wider (merges_listed d.merges merges) l {k = 23} (pairs 60 merges few.4)
    (wider (letter_of d.reason ∷ []) h {m = 1} {k = 21} (omega arith)
    (wider (decimal d.handover) [] {k = 0} (decimal-length d.handover) (omega arith)))))))))

pub updated-fits : (u : UpdateAnswer) (rows : ℕ) (order added removed splits merges : List ℕ) → Few u rows
    → length (shown_updated u rows order added removed splits merges) ≤ 7448
updated-fits (U.Refused r) rows order added removed splits merges few = omega (arith, refusal-fits (words_of r))
updated-fits U.Stale rows order added removed splits merges few = omega arith
updated-fits (U.Accepted d) rows order added removed splits merges few = accepted-fits d rows order added removed splits merges few

-- ---- queries

abbrev pub Short : Verdict → Type 0
Short (E.Refused r) = Unit
Short (E.Unprovable id n) = n ≤ 65
Short (E.Blocked n m) = (n ≤ 65) × (m ≤ 65)
Short E.Eligible = Unit
Short (E.BrokerManaged m) = m ≤ 65

pub ordering-fits : (e : Verdict) (first second : List ℕ) → Short e → length (shown_ordering e first second) ≤ 2736
unfolding shown_unprovable shown_blocked shown_managed
ordering-fits (E.Refused r) one two few = omega (arith, refusal-fits (words_of r))
ordering-fits (E.Unprovable id n) one two few =
    let h : length (spaced (listed n one ∷ [])) ≤ 1367 = wider (listed n one) [] {k = 0} (ids one few) (omega arith) in
    omega (arith, refused-length (record { number = 51; a = id; b = 0; c = 0; d = 0 }) (listed n one ∷ []) h)
ordering-fits (E.Blocked n m) one two few =
    let l = listed m two ∷ [] in
    lined 66 (listed n one ∷ l) {k = 2734} (wider (listed n one) l {k = 1367} (ids one few.0) (wider (listed m two) [] {k = 0} (ids two few.1) (omega arith)))
ordering-fits E.Eligible one two few = omega arith
ordering-fits (E.BrokerManaged m) one two few =
    let h : length (line 77 (listed m two ∷ [])) ≤ 1369 = lined 77 (listed m two ∷ []) {k = 1367} (wider (listed m two) [] {k = 0} (ids two few) (omega arith)) in
    omega (arith, h)

pub unreadable-fits : (n : ℕ) → length (shown_unreadable n) ≤ 23
unfolding shown_unreadable
unreadable-fits n = lined 88 (decimal n ∷ []) {k = 21} (wider (decimal n) [] {k = 0} (decimal-length n) (omega arith))
