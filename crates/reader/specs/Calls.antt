-- The checks of a reading, and the list after it. Assumes nothing.
use Rattle.std.specs.Prelude.{ℕ, ◌*◌, Bool, cond, List, length, is_some, None, Option, ◌==◌, nat_le}
use Rattle.faults.specs.Faults.{fault, check}
use Rattle.faults.specs.declared.fault.Fault.{Fault}
use Rattle.faults.specs.declared.refusal.Refusal.TheVariants.{Line, Room}
use Rattle.fields.specs.Lawful.{Tables}
use Rattle.words.specs.Calls.{order_check}
use Rattle.words.specs.declared.plan.Plan.{Plan}
use Rattle.reader.specs.Verdicts.{listed}

-- a line that has not n × q slots
abbrev pub line_check : Plan → List Bool → Option Fault → Option Fault
line_check p row rest = check (length row == p.n * p.q) (fault Line (length row)) rest

-- a list shorter than d
abbrev pub room_check : Plan → List ℕ → Option Fault → Option Fault
room_check p list rest = check (nat_le p.d (length list)) (fault Room (length list)) rest

-- the checks of a reading
abbrev pub reading_refusal : Tables → Plan → List Bool → List ℕ → Option Fault
reading_refusal f p row list = order_check f p (line_check p row (room_check p list None))

-- the list after a reading; where it is refused, all is as it was
abbrev pub list_after : Tables → Plan → List Bool → List ℕ → List ℕ
list_after f p row list = cond (is_some (reading_refusal f p row list)) list (listed f p.n p.k p.d p.e row list)
