-- The word of a number: one slot for each place. Assumes nothing.
use Rattle.std.specs.Prelude.{ℕ, zero, suc, ◌+◌, ◌*◌, ◌/◌, ◌%◌, ◌^◌, ◌<◌, ◌≤◌, Bool, ◌&&◌, ◌==◌, ◌≢◌}
use Rattle.fields.specs.Lawful.{Tables, Lawful}
use Rattle.frames.specs.Counting.{count}

-- the digit of a number that counts the j-th powers of q
abbrev pub digit : ℕ → ℕ → ℕ → ℕ
digit q number j = number / q ^ j % q

-- x^j in the field
unfoldable pub power : Tables → ℕ → ℕ → ℕ
power f x zero = 1
power f x (suc j) = f.times (power f x j) x

-- the field's value of c 0 + c 1·x + ... + c (k-1)·x^(k-1)
unfoldable pub value : Tables → (ℕ → ℕ) → ℕ → ℕ → ℕ
value f c zero x = 0
value f c (suc k) x = f.plus (value f c k x) (f.times (c k) (power f x k))

-- the symbol at a place: the polynomial whose k coefficients are the number's digits in base q, the lowest first,
-- at the element whose index is the place
abbrev pub symbol : Tables → ℕ → ℕ → ℕ → ℕ
symbol f k number place = value f (digit f.order number) k place

-- the slot at a place
abbrev pub slot_at : Tables → ℕ → ℕ → ℕ → ℕ
slot_at f k number place = place * f.order + symbol f k number place

-- whether a slot belongs to the word: its symbol is the one at its place
abbrev pub in_word : Tables → ℕ → ℕ → ℕ → Bool
in_word f k number slot = symbol f k number (slot / f.order) == slot % f.order

-- how many slots the words of two numbers share, of n places
abbrev pub shared : Tables → ℕ → ℕ → ℕ → ℕ → ℕ
shared f n k a b = count (λ slot. in_word f k a slot && in_word f k b slot) (n * f.order)

-- Over every lawful field, the words of two different numbers share at most k - 1 slots.
abbrev pub WordsShareFewerThanKSlots : Type 0
WordsShareFewerThanKSlots =
    (f : Tables) → Lawful f → (n k a b : ℕ) → n ≤ f.order → a < f.order ^ k → b < f.order ^ k → (a ≢ b) → shared f n k a b < k
