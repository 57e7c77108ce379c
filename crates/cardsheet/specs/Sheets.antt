-- What a card's sheet says. Assumes nothing.
use Rattle.std.specs.Prelude.{◌≡◌, ℕ, ◌*◌, List, map, replicate, vec_items}
use Rattle.std.specs.List.{range_with_len}
use Rattle.fields.specs.Lawful.{Tables}
use Rattle.frames.specs.Frames.{bytes_for, framed}
use Rattle.words.specs.Words.{symbol, slot_at, in_word}
use Rattle.words.specs.declared.plan.Plan.{Plan}
use Rattle.cardsheet.specs.declared.sheet.Place.{Place}
use Rattle.cardsheet.specs.declared.sheet.Sheet.{Sheet}

-- a place of the word of a number: its symbol and its slot
abbrev pub place_of : Tables → ℕ → ℕ → ℕ → Place
place_of f k number place = record { symbol = symbol f k number place; slot = slot_at f k number place }

-- the word of a number as a frame with clear spare bits
abbrev pub word_alone : Tables → Plan → ℕ → List ℕ
word_alone f p number = framed (in_word f p.k number) (p.n * p.q) (replicate (bytes_for (p.n * p.q)) 0)

-- a sheet has the card's number, the symbol and the slot of place after place, and its word as a frame with clear spare bits
pub record RightSheet (f : Tables) (p : Plan) (number : ℕ) (s : Sheet) : Type 0 where
  pub number_is : s.number ≡ number
  pub places_are : vec_items s.places ≡ map (place_of f p.k number) (range_with_len 0 p.n)
  pub frame_is : vec_items s.frame ≡ word_alone f p number
