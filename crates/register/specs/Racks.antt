-- What the calls of a register work on. Assumes nothing.
use Rattle.std.specs.Prelude.{◌≡◌, ℕ, ◌*◌, Bool, false, cond, ◌&&◌, ◌||◌, List, map, length, replicate, is_some, Some, None, Option, nat_lt, slice_index_or}
use Rattle.std.specs.List.{range_with_len, position}
use Rattle.fields.specs.Lawful.{Tables}
use Rattle.frames.specs.Frames.{stands}
use Rattle.words.specs.Words.{in_word}
use Rattle.names.specs.declared.extension.Extension.{Extension}
use Rattle.names.specs.declared.name.Name.{Ghosts}
use Rattle.register.specs.declared.register.Register.{Register}

-- a register and its line, as a call finds them: the entries, of which number N belongs to card N, the mark, whether a
-- frame is open, and the line's row
pub record Rack (N : Type 0) : Type 0 where
  pub entries : List (Option N)
  pub mark : ℕ
  pub opened : Bool
  pub row : List Bool

-- a new rack holds no name and has no frame open, whatever its line holds
pub record New {N : Type 0} (rack : Rack N) : Type 0 where
  pub nameless : rack.entries ≡ replicate (length rack.entries) None
  pub closed : rack.opened ≡ false

-- whether a name is enrolled at a number
abbrev pub enrolled : {N : Type 0} → List (Option N) → ℕ → Bool
enrolled entries number = is_some (slice_index_or entries number None)

-- whether an entry holds the same name
abbrev pub holds : {N : Type 0} → (N → N → Bool) → N → Option N → Bool
holds same name None = false
holds same name (Some held) = same held name

-- the number at which the same name is enrolled: the first whose entry holds it
abbrev pub number_of : {N : Type 0} → (N → N → Bool) → N → List (Option N) → Option ℕ
number_of same name entries = position (holds same name) entries

-- a number that was found, or 0
abbrev pub number_or_0 : Option ℕ → ℕ
number_or_0 None = 0
number_or_0 (Some number) = number

-- the row after the slots of a card's word are driven: a slot stands where it stood, and where it is one of the word's
abbrev pub driven : Tables → ℕ → ℕ → List Bool → List Bool
driven f k number row = map (λ slot. slice_index_or row slot false || in_word f k number slot) (range_with_len 0 (length row))

-- a register with a line of this row
abbrev pub rack_of : {N : Type 0} {kind : Ghosts N} → Register N kind → List Bool → Rack N
rack_of register row = record { entries = register.entries.now; mark = register.mark; opened = register.opened; row = row }

-- the entry of a number in a register of own numbers: the extension that bears it, where its slot stands in a packed frame
abbrev pub numbered : List ℕ → ℕ → Option Extension
numbered frame number = cond (nat_lt number (8 * length frame) && stands frame number) (Some (record { number = number })) None
