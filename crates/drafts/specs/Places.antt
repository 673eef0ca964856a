-- Document 01, "The listing program": "a line .. out of its place (S first, once; D before s and p; others once an update) .. is unreadable".
-- e, n, c and t stand anywhere in an update; O and U stand outside one; an unreadable line, None, stands nowhere.
-- Assumes nothing.
use Rattle.std.specs.Prelude.{Bool, true, false, not, ◌&&◌, Option, Some, None}
use Rattle.reading.specs.declared.lines.Line.{Line}
use Rattle.reading.specs.declared.lines.Line.TheVariants as L
use Rattle.drafts.specs.declared.places.Place.{Place}

abbrev pub at_first : Place
at_first =
    record {
      begun = false;
      inside = false;
      dated = false;
      told = false;
      resolved = false;
      controller = false;
      secure = false;
    }

-- S was read, and no update is open
abbrev pub between_updates : Place
between_updates = record at_first { begun = true }

abbrev pub in_place : Place → Option Line → Bool
in_place p None = false
in_place p (Some (L.Session id)) = not p.begun
in_place p (Some (L.Update id)) = p.begun && not p.inside
in_place p (Some (L.Layout epoch size)) = p.inside && not p.dated
in_place p (Some (L.Segment s)) = p.inside && p.dated
in_place p (Some (L.Placement b)) = p.inside && p.dated
in_place p (Some (L.Error code message)) = p.inside && not p.told
in_place p (Some (L.Resolved n)) = p.inside && not p.resolved
in_place p (Some (L.Controller n)) = p.inside && not p.controller
in_place p (Some (L.Secure n)) = p.inside && not p.secure
in_place p (Some L.End) = p.inside
in_place p (Some (L.Query id mode history completed)) = p.begun && not p.inside

-- the place after a line that stood in its own
abbrev pub after_line : Place → Option Line → Place
after_line p None = p
after_line p (Some (L.Session id)) = between_updates
after_line p (Some (L.Update id)) = record between_updates { inside = true }
after_line p (Some (L.Layout epoch size)) = record p { dated = true }
after_line p (Some (L.Segment s)) = p
after_line p (Some (L.Placement b)) = p
after_line p (Some (L.Error code message)) = record p { told = true }
after_line p (Some (L.Resolved n)) = record p { resolved = true }
after_line p (Some (L.Controller n)) = record p { controller = true }
after_line p (Some (L.Secure n)) = record p { secure = true }
after_line p (Some L.End) = between_updates
after_line p (Some (L.Query id mode history completed)) = p
