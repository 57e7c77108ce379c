-- What a field is: an order, a table of sums and a table of products over the indices below the order,
-- and the laws that make it lawful. Assumes nothing.
use Rattle.std.specs.Prelude.{◌≡◌, ℕ, ◌<◌}

-- the meaning of a field: its order, and its tables of sums and products
pub record Tables : Type 0 where
  pub order : ℕ
  pub plus : ℕ → ℕ → ℕ
  pub times : ℕ → ℕ → ℕ

-- the laws of a field, each over the indices below the order
pub record Lawful (f : Tables) : Type 0 where
  pub sums_stay_below : (a b : ℕ) → a < f.order → b < f.order → f.plus a b < f.order
  pub products_stay_below : (a b : ℕ) → a < f.order → b < f.order → f.times a b < f.order
  pub sums_commute : (a b : ℕ) → a < f.order → b < f.order → f.plus a b ≡ f.plus b a
  pub products_commute : (a b : ℕ) → a < f.order → b < f.order → f.times a b ≡ f.times b a
  pub sums_associate : (a b c : ℕ) → a < f.order → b < f.order → c < f.order → f.plus (f.plus a b) c ≡ f.plus a (f.plus b c)
  pub products_associate : (a b c : ℕ) → a < f.order → b < f.order → c < f.order → f.times (f.times a b) c ≡ f.times a (f.times b c)
  pub products_distribute : (a b c : ℕ) → a < f.order → b < f.order → c < f.order → f.times a (f.plus b c) ≡ f.plus (f.times a b) (f.times a c)
  pub zero_is_neutral : (a : ℕ) → a < f.order → f.plus 0 a ≡ a
  pub one_is_neutral : (a : ℕ) → a < f.order → f.times 1 a ≡ a
  -- 0 and 1 are elements, and differ
  pub one_is_an_element : 1 < f.order
  pub negatives : (a : ℕ) → a < f.order → (b : ℕ) × (b < f.order) × (f.plus a b ≡ 0)
  pub inverses : (a : ℕ) → 0 < a → a < f.order → (b : ℕ) × (b < f.order) × (f.times a b ≡ 1)
