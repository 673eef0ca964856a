-- `reading::lines::read_line` meets its contract, by its letter.
use Rattle.reading.proofs.Told.{told-segment, told-query, told-plain}
use Rattle.reading.proofs.lines.read_line.Goals as goal

pub returns-in-115 : goal.returns-in-115
returns-in-115 c = told-segment _ _ _ _ _ c.letter_at.ensures c.in-115.is _ _ c.read_segment.ensures.says c.read_segment.ensures.lists

pub returns-in-79 : goal.returns-in-79
returns-in-79 c =
    told-query _ _ _ _ _ c.letter_at.ensures c.in-79.is _ _ _ c.read_query.ensures.says c.read_query.ensures.history c.read_query.ensures.completed

pub returns-in_default : goal.returns-in_default
returns-in_default c = search told-plain
