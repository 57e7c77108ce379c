-- The number of each refusal, and what it means in words. Assumes nothing.
use Rattle.std.specs.Prelude.{ℕ, List, codes}
use Rattle.faults.specs.declared.refusal.Refusal.{Refusal}
use Rattle.faults.specs.declared.refusal.Refusal.TheVariants.{Field, Range, Words, Distance, Length, Element, Slot, Line, Card, Taken, Enrolled, Unknown, Open, Mark, Room, Spare}

-- the number by which a refusal is known
abbrev pub number : Refusal → ℕ
number Field = 1
number Range = 2
number Words = 3
number Distance = 4
number Length = 5
number Element = 6
number Slot = 7
number Line = 8
number Card = 9
number Taken = 10
number Enrolled = 11
number Unknown = 12
number Open = 13
number Mark = 14
number Room = 15
number Spare = 16

-- what a refusal means, as text
abbrev pub meaning : Refusal → List ℕ
meaning Field = codes "no such field, or not of the plan's order"
meaning Range = codes "n, k or d outside its range"
meaning Words = codes "more than 65536 words"
meaning Distance = codes "d(k-1)+2e is not below n"
meaning Length = codes "bytes of the wrong length"
meaning Element = codes "no element of the field, or the inverse of 0"
meaning Slot = codes "no such slot"
meaning Line = codes "the line has not n x q slots"
meaning Card = codes "the number has no word or no entry"
meaning Taken = codes "the number is taken"
meaning Enrolled = codes "the name is enrolled already"
meaning Unknown = codes "the name is not enrolled"
meaning Open = codes "a frame is open"
meaning Mark = codes "the frame's mark is not the register's, or no frame is open"
meaning Room = codes "the list or the text is too short"
meaning Spare = codes "a zero bit is set"
