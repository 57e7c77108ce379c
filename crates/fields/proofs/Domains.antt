-- The elements of a lawful field as a type of their own, on which the laws hold without bounds.
use Rattle.std.proofs.Common.{◌≡◌, ℕ, suc, ◌<◌, sym, ap, ◌∙◌, subst, inl, inr, arith}
use native.Mathlib.Bridge.{le_prop}
use mathlib.Core.HLevel.{Σ_prop_path}
use Rattle.std.proofs.lemmas.Bool.{cases_eq}
use Rattle.fields.specs.Lawful.{Tables, Lawful}
use Rattle.fields.proofs.Algebra.{zero_is_an_element, zero_is_neutral_right, one_is_neutral_right, zero_absorbs, sums_cancel, products_cancel}

-- a type with sums and products and their laws, in which a factor that is not nil cancels
pub record Domain (A : Type 0) : Type 0 where
  pub plus : A → A → A
  pub times : A → A → A
  pub negative : A → A
  pub nil : A
  pub one : A
  pub plus_comm : (a b : A) → plus a b ≡ plus b a
  pub plus_assoc : (a b c : A) → plus (plus a b) c ≡ plus a (plus b c)
  pub plus_nil : (a : A) → plus a nil ≡ a
  pub plus_negative : (a : A) → plus a (negative a) ≡ nil
  pub times_comm : (a b : A) → times a b ≡ times b a
  pub times_assoc : (a b c : A) → times (times a b) c ≡ times a (times b c)
  pub times_one : (a : A) → times a one ≡ a
  pub times_nil : (a : A) → times a nil ≡ nil
  pub times_plus : (a b c : A) → times a (plus b c) ≡ plus (times a b) (times a c)
  pub plus_cancel : (a b c : A) → plus a b ≡ plus a c → b ≡ c
  pub times_cancel : (a b c : A) → (a ≡ nil → ⊥) → times a b ≡ times a c → b ≡ c

module _ {A : Type 0} (d : Domain A) where
  -- two summands change places
  pub plus_swap : (a b c : A) → d.plus a (d.plus b c) ≡ d.plus b (d.plus a c)
  plus_swap a b c = sym (d.plus_assoc a b c) ∙ (ap (λ x. d.plus x c) (d.plus_comm a b) ∙ d.plus_assoc b a c)

  -- two factors change places
  pub times_swap : (a b c : A) → d.times a (d.times b c) ≡ d.times b (d.times a c)
  times_swap a b c = sym (d.times_assoc a b c) ∙ (ap (λ x. d.times x c) (d.times_comm a b) ∙ d.times_assoc b a c)

  -- products distribute on the right
  pub plus_times : (a b c : A) → d.times (d.plus a b) c ≡ d.plus (d.times a c) (d.times b c)
  plus_times a b c = simp (d.times_plus, d.times_comm)

  -- from a y + (a + u) z = (a + u) y + a z, where u is not nil, y = z
  cross_cancel_by : (a u y z : A) → (u ≡ d.nil → ⊥)
      → d.plus (d.times a y) (d.times (d.plus a u) z) ≡ d.plus (d.times (d.plus a u) y) (d.times a z) → y ≡ z
  cross_cancel_by a u y z n e =
      let sorted = simp (plus_times, d.plus_assoc, d.plus_comm) at e in
      d.times_cancel u y z n (d.plus_cancel (d.plus (d.times a y) (d.times a z)) (d.times u y) (d.times u z) (simp d.plus_assoc (sym sorted)))

  -- from a y + x z = x y + a z, where x and a differ, y = z
  pub cross_cancel : (a x y z : A) → (x ≡ a → ⊥) → d.plus (d.times a y) (d.times x z) ≡ d.plus (d.times x y) (d.times a z) → y ≡ z
  cross_cancel a x y z differ e =
      let u = d.plus x (d.negative a) in
      let s : d.plus a u ≡ x = simp (plus_swap a x (d.negative a), d.plus_negative, d.plus_nil) in
      cross_cancel_by a u y z (λ n. differ (sym s ∙ (ap (d.plus a) n ∙ d.plus_nil a)))
      (subst (λ t. d.plus (d.times a y) (d.times t z) ≡ d.plus (d.times t y) (d.times a z)) (sym s) e)

-- an index below the order
abbrev pub Element : Tables → Type 0
Element f = (a : ℕ) × (a < f.order)

-- elements with one index are equal
pub same_element : (f : Tables) (a b : Element f) → a.0 ≡ b.0 → a ≡ b
same_element f a b p = Σ_prop_path (λ (k : ℕ). le_prop {n = suc k} {m = f.order}) {u = a} {v = b} p

-- the elements of a lawful field
unfoldable pub elements : (f : Tables) → Lawful f → Domain (Element f)
elements f l =
    record {
      plus = λ a b. (f.plus a.0 b.0, l.sums_stay_below a.0 b.0 a.1 b.1);
      times = λ a b. (f.times a.0 b.0, l.products_stay_below a.0 b.0 a.1 b.1);
      negative = λ a. ((l.negatives a.0 a.1).0, (l.negatives a.0 a.1).1);
      nil = (0, zero_is_an_element f l);
      one = (1, l.one_is_an_element);
      plus_comm = λ a b. same_element f _ _ (l.sums_commute a.0 b.0 a.1 b.1);
      plus_assoc = λ a b c. same_element f _ _ (l.sums_associate a.0 b.0 c.0 a.1 b.1 c.1);
      plus_nil = λ a. same_element f _ _ (zero_is_neutral_right f l a.0 a.1);
      plus_negative = λ a. same_element f _ _ (l.negatives a.0 a.1).2;
      times_comm = λ a b. same_element f _ _ (l.products_commute a.0 b.0 a.1 b.1);
      times_assoc = λ a b c. same_element f _ _ (l.products_associate a.0 b.0 c.0 a.1 b.1 c.1);
      times_one = λ a. same_element f _ _ (one_is_neutral_right f l a.0 a.1);
      times_nil = λ a. same_element f _ _ (zero_absorbs f l a.0 a.1);
      times_plus = λ a b c. same_element f _ _ (l.products_distribute a.0 b.0 c.0 a.1 b.1 c.1);
      plus_cancel = λ a b c e. same_element f _ _ (sums_cancel f l a.0 b.0 c.0 a.1 b.1 c.1 (ap (λ t. t.0) e));
      times_cancel = λ a b c n e. same_element f _ _ (products_cancel f l a.0 b.0 c.0 (not_nil a n) a.1 b.1 c.1 (ap (λ t. t.0) e));
    }
  where
    not_nil : (a : Element f) → (a ≡ (0, zero_is_an_element f l) → ⊥) → 0 < a.0
    not_nil a n = elim (cases_eq a.0 0) [ inl z ↦ absurd (n (same_element f _ _ z)) | inr p ↦ omega arith ]
