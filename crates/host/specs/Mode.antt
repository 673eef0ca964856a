-- The mode of an ordering query, which C gives as a flag, and what is lent to it.
-- Assumes nothing.
use Rattle.std.specs.Prelude.{ℕ, Bool, true, false, List}
use Rattle.types.specs.declared.records.OrderingMode.{OrderingMode}
use Rattle.types.specs.declared.records.OrderingMode.TheVariants.{Strict, BrokerManaged}
use Rattle.rules.specs.Ordering.{Lent}

abbrev pub mode_of : Bool → OrderingMode
mode_of true = BrokerManaged
mode_of false = Strict

-- a work area of that length, and the two lists
abbrev pub lent : ℕ → List ℕ → List ℕ → Lent
lent work first second = record { work = work; first = first; second = second }
