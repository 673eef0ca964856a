-- The work area once rows and placements have passed: both indexes stand there for the image (ready), and they are what 23 asks for.
-- By the laws of parts: w is the area at first, w₁ with the index of the placements, w₂ with that of the rows as well. Assumes nothing.
use Prim.Native.Nat.{ℕ, ◌-◌, ◌*◌, ◌≤◌}
use native.Mathlib.Omega.{arith}
use mathlib.Core.Path.{◌≡◌, refl, sym, ap, ◌∙◌}
use mathlib.Core.List.{List}
use lib.ListN.{length}
use Rattle.words.specs.Part.{part}
use Rattle.words.specs.Table.{ids, Ascends}
use Rattle.words.proofs.PartLaws.{part-as, part_length}
use Rattle.sorts.specs.Rows.{rows}
use Rattle.rules.specs.Tables.{segments, placements}
use Rattle.rules.specs.Rows.{placements_rule, rows_rule, dangling_from, dangling_rule}
use Rattle.indexes.specs.Index.{segment_index, placement_index}
use Rattle.indexes.proofs.Once.{rows-ascend, places-ascend}
use Rattle.judging.proofs.Distinct.{rows-distinct, places-distinct}
use Rattle.lookups.proofs.Dangling.{dangling-is}
use Rattle.image.specs.Written.{Ready}
use Rattle.incoming.specs.Incoming.{first_at, second_at, flags_at, Given}
use Rattle.answers.specs.Answer.{Judged, Accepted}

module _ (n : ℕ) (edges : List ℕ) (m : ℕ) where
  abbrev a : ℕ
  a = first_at n (length edges)

  abbrev b : ℕ
  b = second_at n (length edges)

  abbrev f : ℕ
  f = flags_at n (length edges) m

  module _ (w table places : List ℕ) (given : Given w table n edges places m) (w₁ w₂ : List ℕ) (same₁ : length w₁ ≡ length w) (same₂ : length w₂ ≡ length w₁)
      (first : rows (part w₂ a (3 * n)) ≡ segment_index table n) (stays : part w₂ b (f - b) ≡ part w₁ b (f - b)) (second : rows (part w₁ b (3 * m)) ≡ placement_index places m) where
    size₁ : length (part w₂ a (3 * n)) ≡ 3 * n
    size₁ = part_length w₂ a (3 * n) (omega arith)

    size₂ : length (part w₂ b (3 * m)) ≡ 3 * m
    size₂ = part_length w₂ b (3 * m) (omega arith)

    second₂ : rows (part w₂ b (3 * m)) ≡ placement_index places m
    second₂ = ap rows (sym (part-as w₂ b f (3 * m) refl) ∙ stays ∙ part-as w₁ b f (3 * m) refl) ∙ second

    -- ---- what 23 asks for

    pub index-long : n * 3 ≤ length (part w₂ a (b - a))
    index-long = rw (part-as w₂ a b (3 * n) refl) (omega (arith, size₁))

    pub places-long : m * 3 ≤ length (part w₂ b (f - b))
    places-long = rw (part-as w₂ b f (3 * m) refl) (omega (arith, size₂))

    pub index-up : (epoch limit : ℕ) (z : Judged) → z ≡ rows_rule epoch limit (segments table edges n) → z ≡ Accepted → Ascends (ids (part w₂ a (b - a)) 3 n)
    index-up epoch limit z listed e =
        rw (part-as w₂ a b (3 * n) refl) (rows-ascend (part w₂ a (3 * n)) table n (rows-distinct epoch limit table edges n (sym listed ∙ e)) size₁ first)

    pub dangling-here : (v : Judged) → v ≡ dangling_from (ids (part w₂ a (b - a)) 3 n) (ids (part w₂ b (f - b)) 3 m) → v ≡ dangling_rule (segments table edges n) (placements places m)
    dangling-here v e =
        e ∙ rw (part-as w₂ a b (3 * n) refl, part-as w₂ b f (3 * m) refl)
        (dangling-is (part w₂ a (3 * n)) table edges (part w₂ b (3 * m)) places n m size₁ first size₂ second₂)

    -- ---- what the image asks for

    pub ready : (y : Judged) → y ≡ placements_rule (placements places m) → y ≡ Accepted → Ready w₂ table n places m a b
    ready y placed e = record {
      apart = omega arith;
      room = omega arith;
      segments = given.segments;
      placements = given.placements;
      first = record { size = size₁; is = first };
      second = record {
        size = size₂;
        is = second₂;
        once = places-ascend (part w₂ b (3 * m)) places m (places-distinct places m (sym placed ∙ e)) size₂ second₂;
      };
    }

-- that both indexes are as long as 23 asks
pub ruleset long = (index-long, places-long)
