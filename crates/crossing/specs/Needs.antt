-- How many words each area must have, as a number that C can take: "Refusal 2 is given exactly when an area is short of its need", and a need
-- that no 64-bit number says is told as the greatest, which no area has.
-- Assumes nothing.
use Rattle.std.specs.Prelude.{ℕ, ◌+◌, ◌*◌, cond, leb}
use Rattle.rules.specs.Tables.{held_width}
use Rattle.rules.specs.Room.{work_need}
use Rattle.crossing.specs.declared.needs.UpdateNeeds.{UpdateNeeds}
use Rattle.crossing.specs.declared.needs.OrderingNeeds.{OrderingNeeds}

-- 2^64 - 1
abbrev pub greatest : ℕ
greatest = 18446744073709551615

-- the smaller of n and 2^64 - 1
abbrev pub capped : ℕ → ℕ
capped n = cond (leb n greatest) n greatest

-- n segment rows, p placement rows and k edge words come, beside h held rows: the needs of `no_room_to_update`, area by area
abbrev pub update_needs : ℕ → ℕ → ℕ → ℕ → UpdateNeeds
update_needs n p k h =
    record {
      work = capped (work_need (n + p + k + h));
      held = capped (n * held_width);
      links = k;
      order = n;
      added = n;
      removed = h;
      splits = capped (2 * k);
      merges = capped (2 * k);
    }

-- h held rows with g edge words: the needs of `no_room_to_order`
abbrev pub ordering_needs : ℕ → ℕ → OrderingNeeds
ordering_needs h g =
    record {
      work = capped (work_need (g + h));
      first = capped (g + 1);
      second = capped (g + 1);
    }
