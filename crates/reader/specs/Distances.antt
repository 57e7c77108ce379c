-- What a line shows of words: joined words, distances and covered words. A row is the list of a line's slots, true where
-- a slot stands. Assumes nothing.
use Rattle.std.specs.Prelude.{ℕ, ◌*◌, ◌^◌, Bool, false, not, ◌||◌, List, [], ◌∷◌, filter, nat_le, slice_index_or}
use Rattle.std.specs.List.{range_with_len}
use Rattle.fields.specs.Lawful.{Tables}
use Rattle.frames.specs.Counting.{count}
use Rattle.frames.specs.Frames.{differ}
use Rattle.words.specs.Words.{slot_at, in_word}

-- whether a slot is in the joined words of a set: in the word of at least one of its numbers
unfoldable pub joined : Tables → ℕ → List ℕ → ℕ → Bool
joined f k [] slot = false
joined f k (x ∷ xs) slot = in_word f k x slot || joined f k xs slot

-- the distance of a set from a line of n × q slots: in how many slots the row differs from the set's joined words
abbrev pub distance : Tables → ℕ → ℕ → List Bool → List ℕ → ℕ
distance f n k row xs = count (λ slot. differ (slice_index_or row slot false) (joined f k xs slot)) (n * f.order)

-- the distance between two sets: in how many slots their joined words differ
abbrev pub distance_between : Tables → ℕ → ℕ → List ℕ → List ℕ → ℕ
distance_between f n k xs ys = count (λ slot. differ (joined f k xs slot) (joined f k ys slot)) (n * f.order)

-- how many of a word's n slots are clear on a line
abbrev pub clear_slots : Tables → ℕ → ℕ → List Bool → ℕ → ℕ
clear_slots f n k row x = count (λ place. not (slice_index_or row (slot_at f k x place) false)) n

-- whether a word is covered: at most e of its slots are clear
abbrev pub covered : Tables → ℕ → ℕ → ℕ → List Bool → ℕ → Bool
covered f n k e row x = nat_le (clear_slots f n k row x) e

-- the set of all covered numbers below q^k, enrolled or not
abbrev pub cover : Tables → ℕ → ℕ → ℕ → List Bool → List ℕ
cover f n k e row = filter (covered f n k e row) (range_with_len 0 (f.order ^ k))
