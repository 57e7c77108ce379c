-- What the laws of a field give, each over the indices below the order.
use Rattle.std.proofs.Common.{◌≡◌, ℕ, ◌<◌, sym, ◌∙◌, arith}
use Rattle.fields.specs.Lawful.{Tables, Lawful}

module _ (f : Tables) (l : Lawful f) where
  -- 0 is an element
  pub zero_is_an_element : 0 < f.order
  zero_is_an_element = omega (arith, l.one_is_an_element)

  -- 0 is neutral on the right
  pub zero_is_neutral_right : (a : ℕ) → a < f.order → f.plus a 0 ≡ a
  zero_is_neutral_right a ha = l.sums_commute a 0 ha zero_is_an_element ∙ l.zero_is_neutral a ha

  -- 1 is neutral on the right
  pub one_is_neutral_right : (a : ℕ) → a < f.order → f.times a 1 ≡ a
  one_is_neutral_right a ha = l.products_commute a 1 ha l.one_is_an_element ∙ l.one_is_neutral a ha

  -- a summand on the left cancels
  pub sums_cancel : (a b c : ℕ) → a < f.order → b < f.order → c < f.order → f.plus a b ≡ f.plus a c → b ≡ c
  sums_cancel a b c ha hb hc e =
      let n = l.negatives a ha in
      let z : f.plus n.0 a ≡ 0 = l.sums_commute n.0 a n.1 ha ∙ n.2 in
      let e₁ = l.sums_associate n.0 a b n.1 ha hb in
      let e₂ = l.sums_associate n.0 a c n.1 ha hc in
      let e₃ = l.zero_is_neutral b hb in
      let e₄ = l.zero_is_neutral c hc in
      cc

  -- a product by 0 is 0
  pub zero_absorbs : (a : ℕ) → a < f.order → f.times a 0 ≡ 0
  zero_absorbs a ha =
      let h0 = zero_is_an_element in
      let hp = l.products_stay_below a 0 ha h0 in
      let e₁ = l.products_distribute a 0 0 ha h0 h0 in
      let e₂ = l.zero_is_neutral 0 h0 in
      let e₃ = zero_is_neutral_right (f.times a 0) hp in
      sums_cancel (f.times a 0) (f.times a 0) 0 hp hp h0 (cc)

  -- a product of 0 is 0
  pub zero_absorbs_left : (a : ℕ) → a < f.order → f.times 0 a ≡ 0
  zero_absorbs_left a ha = l.products_commute 0 a zero_is_an_element ha ∙ zero_absorbs a ha

  -- a factor that is not 0 cancels on the left
  pub products_cancel : (a b c : ℕ) → 0 < a → a < f.order → b < f.order → c < f.order → f.times a b ≡ f.times a c → b ≡ c
  products_cancel a b c pos ha hb hc e =
      let n = l.inverses a pos ha in
      let z : f.times n.0 a ≡ 1 = l.products_commute n.0 a n.1 ha ∙ n.2 in
      let e₁ = l.products_associate n.0 a b n.1 ha hb in
      let e₂ = l.products_associate n.0 a c n.1 ha hc in
      let e₃ = l.one_is_neutral b hb in
      let e₄ = l.one_is_neutral c hc in
      cc

  -- an element has one negative
  pub one_negative : (a b c : ℕ) → a < f.order → b < f.order → c < f.order → f.plus a b ≡ 0 → f.plus a c ≡ 0 → b ≡ c
  one_negative a b c ha hb hc p q = sums_cancel a b c ha hb hc (p ∙ sym q)

  -- an element has at most one inverse
  pub one_inverse : (a b c : ℕ) → a < f.order → b < f.order → c < f.order → f.times a b ≡ 1 → f.times a c ≡ 1 → b ≡ c
  one_inverse a b c ha hb hc p q =
      let e₁ = l.products_associate c a b hc ha hb in
      let e₂ = l.products_commute c a hc ha in
      let e₃ = l.one_is_neutral b hb in
      let e₄ = one_is_neutral_right c hc in
      cc
