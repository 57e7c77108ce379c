-- The checks of the calls that work by a plan. Assumes nothing.
use Rattle.std.specs.Prelude.{ℕ, ◌*◌, ◌^◌, cond, List, length, is_some, None, Option, ◌==◌, nat_lt}
use Rattle.faults.specs.Faults.{fault, check}
use Rattle.faults.specs.declared.fault.Fault.{Fault}
use Rattle.faults.specs.declared.refusal.Refusal.TheVariants.{Field, Length, Slot, Card}
use Rattle.fields.specs.Lawful.{Tables}
use Rattle.frames.specs.Frames.{bytes_for, framed}
use Rattle.words.specs.Words.{in_word}
use Rattle.words.specs.declared.plan.Plan.{Plan}

-- a field of another order than the plan's is refused before all else; then the other checks decide
abbrev pub order_check : Tables → Plan → Option Fault → Option Fault
order_check f p rest = check (f.order == p.q) (fault Field f.order) rest

-- a number without a word
abbrev pub number_check : Plan → ℕ → Option Fault → Option Fault
number_check p number rest = check (nat_lt number (p.q ^ p.k)) (fault Card number) rest

-- the checks of a number and a place: a place that the plan has not gives the first slot that it would have
abbrev pub place_refusal : Plan → ℕ → ℕ → Option Fault
place_refusal p number place = number_check p number (check (nat_lt place p.n) (fault Slot (place * p.q)) None)

-- the checks of the symbol at a place
abbrev pub symbol_refusal : Tables → Plan → ℕ → ℕ → Option Fault
symbol_refusal f p number place = order_check f p (place_refusal p number place)

-- the checks of a slot's place and symbol
abbrev pub slot_refusal : Tables → Plan → ℕ → Option Fault
slot_refusal f p slot = order_check f p (check (nat_lt slot (p.n * p.q)) (fault Slot slot) None)

-- the checks of a word's frame
abbrev pub word_refusal : Tables → Plan → ℕ → List ℕ → Option Fault
word_refusal f p number frame =
    order_check f p (check (length frame == bytes_for (p.n * p.q)) (fault Length (length frame)) (number_check p number None))

-- the frame after a word is written into it: its slots are the word's, and its spare bits are as they were;
-- where writing is refused, all is as it was
abbrev pub word_frame : Tables → Plan → ℕ → List ℕ → List ℕ
word_frame f p number frame =
    cond (is_some (word_refusal f p number frame)) frame (framed (in_word f p.k number) (p.n * p.q) frame)
