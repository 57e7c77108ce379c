-- The eight calls: what each is handed, what it refuses, and what an accepted one leaves. Assumes nothing.
use Rattle.std.specs.Prelude.{ℕ, ◌^◌, Bool, true, false, cond, not, ◌&&◌, List, length, replicate, is_some, Some, None, Ok, Err, Option, Result, ◌==◌, nat_le, nat_lt, slice_index_or, slice_set}
use Rattle.faults.specs.Faults.{fault, check}
use Rattle.faults.specs.declared.fault.Fault.{Fault}
use Rattle.faults.specs.declared.refusal.Refusal.TheVariants.{Slot, Card, Taken, Enrolled, Unknown, Open, Mark, Room}
use Rattle.fields.specs.Lawful.{Tables}
use Rattle.words.specs.Calls.{order_check, number_check}
use Rattle.words.specs.declared.plan.Plan.{Plan}
use Rattle.reader.specs.Calls.{line_check, room_check, reading_refusal}
use Rattle.reader.specs.Verdicts.{listed}
use Rattle.register.specs.Racks.{Rack, enrolled, number_of, driven}
use Rattle.register.specs.declared.frame.Frame.{Frame}
use Rattle.register.specs.declared.frame.Refused.{Refused}

-- a call and what it is handed besides field, plan, register and line: a frame by its mark, which may be any number
pub data Call (N : Type 0) : Type 0 where
  to_enrol : N → ℕ → Call N
  to_strike : N → Call N
  to_open : Call N
  to_tick : ℕ → N → Call N
  to_knock : ℕ → ℕ → Call N
  to_read : ℕ → List ℕ → Call N
  to_close : ℕ → Call N
  to_judge : List ℕ → Call N

-- a frame is open
abbrev pub open_check : {N : Type 0} → Rack N → Option Fault → Option Fault
open_check s rest = check (not s.opened) (fault Open s.mark) rest

-- the frame's mark is not the register's, or none is open
abbrev pub mark_check : {N : Type 0} → Rack N → ℕ → Option Fault → Option Fault
mark_check s mark rest = check (s.opened && mark == s.mark) (fault Mark mark) rest

-- a number has no word or no entry
abbrev pub card_check : {N : Type 0} → Plan → List (Option N) → ℕ → Option Fault → Option Fault
card_check p entries number rest = check (nat_lt number (p.q ^ p.k) && nat_lt number (length entries)) (fault Card number) rest

-- a name is enrolled already, at this number
abbrev pub name_free : Option ℕ → Option Fault
name_free None = None
name_free (Some number) = Some (fault Enrolled number)

-- a name is not enrolled; one that is goes on with its number
abbrev pub name_known : Option ℕ → (ℕ → Option Fault) → Option Fault
name_known None rest = Some (fault Unknown 0)
name_known (Some number) rest = rest number

-- what strike, knock and close refuse, which use no plan and no field
abbrev pub strike_refusal : {N : Type 0} → (N → N → Bool) → Rack N → N → Option Fault
strike_refusal same s name = open_check s (name_known (number_of same name s.entries) (λ number. None))

abbrev pub knock_refusal : {N : Type 0} → Rack N → ℕ → ℕ → Option Fault
knock_refusal s mark slot = mark_check s mark (check (nat_lt slot (length s.row)) (fault Slot slot) None)

abbrev pub close_refusal : {N : Type 0} → Rack N → ℕ → Option Fault
close_refusal s mark = mark_check s mark None

-- what a tick refuses once its field is of the plan's order
abbrev pub tick_refusal : {N : Type 0} → (N → N → Bool) → Plan → Rack N → ℕ → N → Option Fault
tick_refusal same p s mark name =
    mark_check s mark (line_check p s.row (name_known (number_of same name s.entries) (λ number. number_check p number None)))

-- what a call refuses, its checks in order
abbrev pub refusal : {N : Type 0} → (N → N → Bool) → Tables → Plan → Rack N → Call N → Option Fault
refusal same f p s (to_enrol name number) =
    order_check f p (open_check s (card_check p s.entries number (check (not (enrolled s.entries number)) (fault Taken number) (name_free (number_of same name s.entries)))))
refusal same f p s (to_strike name) = strike_refusal same s name
refusal same f p s to_open = order_check f p (open_check s (line_check p s.row None))
refusal same f p s (to_tick mark name) = order_check f p (tick_refusal same p s mark name)
refusal same f p s (to_knock mark slot) = knock_refusal s mark slot
refusal same f p s (to_read mark list) = order_check f p (mark_check s mark (line_check p s.row (room_check p list None)))
refusal same f p s (to_close mark) = close_refusal s mark
refusal same f p s (to_judge list) = reading_refusal f p s.row list

-- an entry is put where a name's number says; where the name is not enrolled, nothing is
abbrev pub put_at : {N : Type 0} → Option ℕ → Option N → List (Option N) → List (Option N)
put_at None entry entries = entries
put_at (Some number) entry entries = slice_set entries number entry

-- the row after a tick of the card at a number
abbrev pub ticked_row : Tables → ℕ → Option ℕ → List Bool → List Bool
ticked_row f k None row = row
ticked_row f k (Some number) row = driven f k number row

-- what an accepted strike, knock and close leave
abbrev pub struck : {N : Type 0} → (N → N → Bool) → Rack N → N → Rack N
struck same s name = record { entries = put_at (number_of same name s.entries) None s.entries; mark = s.mark; opened = s.opened; row = s.row }

abbrev pub knocked : {N : Type 0} → Rack N → ℕ → Rack N
knocked s slot = record { entries = s.entries; mark = s.mark; opened = s.opened; row = slice_set s.row slot (not (slice_index_or s.row slot false)) }

abbrev pub closed : {N : Type 0} → Rack N → Rack N
closed s = record { entries = s.entries; mark = s.mark; opened = false; row = s.row }

-- what an accepted call leaves
abbrev pub after : {N : Type 0} → (N → N → Bool) → Tables → Plan → Rack N → Call N → Rack N
after same f p s (to_enrol name number) = record { entries = slice_set s.entries number (Some name); mark = s.mark; opened = s.opened; row = s.row }
after same f p s (to_strike name) = struck same s name
after same f p s to_open = record { entries = s.entries; mark = s.mark; opened = true; row = replicate (length s.row) false }
after same f p s (to_tick mark name) = record { entries = s.entries; mark = s.mark; opened = s.opened; row = ticked_row f p.k (number_of same name s.entries) s.row }
after same f p s (to_knock mark slot) = knocked s slot
after same f p s (to_read mark list) = s
after same f p s (to_close mark) = closed s
after same f p s (to_judge list) = s

-- whether a call is accepted
abbrev pub accepts : {N : Type 0} → (N → N → Bool) → Tables → Plan → Rack N → Call N → Bool
accepts same f p s call = not (is_some (refusal same f p s call))

-- the new where nothing refuses, and otherwise the old
abbrev pub unless : {A : Type 0} → Option Fault → A → A → A
unless refused new old = cond (not (is_some refused)) new old

-- what a call leaves: a refused one leaves all as it was
abbrev pub left_by : {N : Type 0} → (N → N → Bool) → Tables → Plan → Rack N → Call N → Rack N
left_by same f p s call = unless (refusal same f p s call) (after same f p s call) s

-- the answer of close: a refused one hands the same frame back
abbrev pub close_answer : Option Fault → Frame → Result (Unit {0}) Refused
close_answer None frame = Ok tt
close_answer (Some f) frame = Err (record { fault = f; frame = frame })

-- the list after a judged or read line: where nothing refuses it is as the verdict leaves it
abbrev pub list_left : Tables → Plan → Option Fault → List Bool → List ℕ → List ℕ
list_left f p refused row list = unless refused (listed f p.n p.k p.d p.e row list) list

-- a text under 256 bytes
abbrev pub text_check : List ℕ → Option Fault → Option Fault
text_check text rest = check (nat_le 256 (length text)) (fault Room (length text)) rest

-- the checks of a verdict's line of text
abbrev pub text_refusal : Tables → Plan → List Bool → List ℕ → List ℕ → Option Fault
text_refusal f p row list text = order_check f p (line_check p row (room_check p list (text_check text None)))
