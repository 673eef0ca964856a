-- Document 01, "The listing program": "U opens an update, D epoch and size; .. e code, message; n, c, t the three names". What the lines of
-- an update say, but for its tables; a line that was not there is an absent field.
-- Assumes nothing.
use Rattle.std.specs.Prelude.{ℕ, true, false, Option, Some, None}
use Rattle.types.specs.declared.records.Name.{Name}
use Rattle.types.specs.declared.records.Update.{Update}
use Rattle.reading.specs.declared.lines.Line.{Line}
use Rattle.reading.specs.declared.lines.Line.TheVariants as L

abbrev pub absent : Name
absent = record { present = false; text = 0 }

abbrev pub opened_update : ℕ → Update
opened_update id =
    record {
      session = id;
      layout = false;
      epoch = 0;
      size = 0;
      error = false;
      code = 0;
      message = absent;
      resolved = absent;
      controller = absent;
      secure = absent;
    }

abbrev pub with_layout : Update → ℕ → ℕ → Update
with_layout u epoch size = record u { layout = true; epoch = epoch; size = size }

abbrev pub with_error : Update → ℕ → Name → Update
with_error u code message = record u { error = true; code = code; message = message }

abbrev pub with_names : Update → Name → Name → Name → Update
with_names u resolved controller secure = record u { resolved = resolved; controller = controller; secure = secure }

-- the update after one line more; an unreadable one says nothing
abbrev pub said_more : Update → Option Line → Update
said_more u None = u
said_more u (Some (L.Session id)) = u
said_more u (Some (L.Update id)) = opened_update id
said_more u (Some (L.Layout epoch size)) = with_layout u epoch size
said_more u (Some (L.Segment s)) = u
said_more u (Some (L.Placement b)) = u
said_more u (Some (L.Error code message)) = with_error u code message
said_more u (Some (L.Resolved n)) = with_names u n u.controller u.secure
said_more u (Some (L.Controller n)) = with_names u u.resolved n u.secure
said_more u (Some (L.Secure n)) = with_names u u.resolved u.controller n
said_more u (Some L.End) = u
said_more u (Some (L.Query id mode history completed)) = u
