-- Document 01, "Tables": "Refusal 2 is given exactly when an area is short of its need". Needs are whole numbers.
-- Assumes nothing.
use Rattle.std.specs.Prelude.{ℕ, ◌+◌, ◌*◌, Bool, ◌||◌, ltb}
use Rattle.rules.specs.Tables.{held_width}

-- "work, 32 words for each segment row, placement row, edge word (an update's incoming, a query's held) and held row together"
abbrev pub work_need : ℕ → ℕ
work_need things = 32 * things

abbrev pub short : ℕ → ℕ → Bool
short area need = ltb area need

-- "held rows, held edges and order list, what the layout fills": n rows, k edge words
abbrev pub short_held : ℕ → ℕ → ℕ → ℕ → ℕ → Bool
short_held held links order n k =
    short held (n * held_width)
    || (short links k
    || short order n)

-- the layout judge: n segment rows, p placement rows, k edge words
unfoldable pub no_room_to_judge : ℕ → ℕ → ℕ → ℕ → ℕ → ℕ → ℕ → Bool
no_room_to_judge work held links order n p k =
    short work (work_need (n + p + k))
    || short_held held links order n k

-- the update, beside h held rows: "added list, a word a row; removed list, a word a held row; split and merge lists, two words per
-- incoming edge word"
unfoldable pub no_room_to_update : ℕ → ℕ → ℕ → ℕ → ℕ → ℕ → ℕ → ℕ → ℕ → ℕ → ℕ → ℕ → Bool
no_room_to_update work held links order added removed splits merges n p k h =
    short work (work_need (n + p + k + h))
    || (short_held held links order n k
    || (short added n
    || (short removed h
    || (short splits (2 * k)
    || short merges (2 * k)))))

-- the ordering query over h held rows with g edge words: "each ordering list, edge words plus one"
unfoldable pub no_room_to_order : ℕ → ℕ → ℕ → ℕ → ℕ → Bool
no_room_to_order work first second h g =
    short work (work_need (g + h))
    || (short first (g + 1)
    || short second (g + 1))
