-- Parts of the rule of an update that have a function of their own.
-- Assumes nothing.
use Rattle.std.specs.Prelude.{ℕ, true, cond}
use Rattle.answers.specs.Updates.{UpdateAnswer}
use Rattle.answers.specs.Updates.{Refused, Stale, Accepted}
use Rattle.types.specs.declared.records.Name.{Name}
use Rattle.types.specs.declared.records.Session.{Session}
use Rattle.types.specs.declared.records.Update.{Update}
use Rattle.rules.specs.Update.{kept_name, cleared_name}

-- "message text or 0"
abbrev pub text_or_none : Name → ℕ
text_or_none name = cond name.present name.text 0

-- the session that holds the update's layout, n rows with e edge words
unfoldable pub session_holding : Session → Update → ℕ → ℕ → Session
session_holding s u n e =
    record {
      id = s.id;
      held = true;
      epoch = u.epoch;
      rows = n;
      edges = e;
      resolved = kept_name s.resolved u.resolved;
      controller = cleared_name u.controller;
      secure = cleared_name u.secure;
    }

-- only an accepted update changes the session
abbrev pub session_if : UpdateAnswer → Session → Session → Session
session_if (Refused r) new old = old
session_if Stale new old = old
session_if (Accepted d) new old = new
