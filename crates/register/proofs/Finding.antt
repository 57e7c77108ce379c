-- Finding a name among the entries and on the roll: both give the same number. Assumes nothing.
use Rattle.std.proofs.Common.{◌≡◌, ℕ, zero, suc, ◌<◌, ◌≤◌, Bool, true, false, cond, ◌⊎◌, List, [], ◌∷◌, length, get_or, Some, None, Option, sym, refl, ap, ◌∙◌, inl, inr, arith}
use Rattle.std.specs.List.{Contains, position, position_or_len}
use Rattle.std.proofs.lemmas.List.{get_or_past}
use Rattle.std.proofs.lemmas.List.Quantifiers.{position-Some}
use Rattle.std.proofs.lemmas.List.Sums.{fails_before_first}
use Rattle.std.proofs.lemmas.Bool.{cases_lt, both_ways, false≢true}
use Rattle.std.proofs.lemmas.Bool.Decides.{nat_tests}
use Rattle.register.specs.Books.{Enrolment, roll_number}
use Rattle.names.specs.Names.{Alike}
use Rattle.register.specs.Entries.{NamesDiffer}
use Rattle.register.specs.Promises.{OnTheRoll}
use Rattle.register.specs.Racks.{holds, number_of}

-- nothing is not something
pub none_or_some : {A : Type 0} (o : Option A) (a : A) → o ≡ None → o ≡ Some a → ⊥
none_or_some o a p q = let z : ◌≡◌ {A = ℕ} 0 1 = cc in omega arith

-- where no element passes, none stands before the end
no_position : {X : Type 0} (test : X → Bool) (xs : List X) → position test xs ≡ None → length xs ≤ position_or_len test xs
no_position test xs e = grind (arith, nat_tests)

-- an entry holds the same name as one that is asked for
pub record Found {N : Type 0} (same : N → N → Bool) (name : N) (entries : List (Option N)) (number : ℕ) : Type 0 where
  pub held : N
  pub is : get_or entries number None ≡ Some held
  pub alike : same held name ≡ true
  pub within : number < length entries

module _ {N : Type 0} (same : N → N → Bool) (name : N) (entries : List (Option N)) where
  -- at the number of a name the same name is enrolled
  pub number_found : (i : ℕ) → number_of same name entries ≡ Some i → Found same name entries i
  number_found i e =
      let first = position-Some (holds same name) entries i None e in
      go (get_or entries i None) refl first.0 first.1
    where
      go : (entry : Option N) → get_or entries i None ≡ entry → i < length entries → holds same name entry ≡ true → Found same name entries i
      go None is l h = absurd (false≢true h)
      go (Some held) is l h = record { held = held; is = is; alike = h; within = l }

  -- where a name has no number, no enrolled name is the same
  pub number_none : number_of same name entries ≡ None → (i : ℕ) (held : N) → get_or entries i None ≡ Some held → same held name ≡ false
  number_none e i held is = elim (cases_lt i (length entries)) [
    | inl l ↦ ap (holds same name) (sym is) ∙ fails_before_first (holds same name) entries i None (omega (arith, no_position (holds same name) entries e))
    | inr past ↦ cc (get_or_past entries i None past)
  ]

-- a list has its first
pub has_here : {X : Type 0} (y : X) (ys : List X) (x : X) → y ≡ x → Contains (y ∷ ys) x
has_here y ys x is = (0, omega arith, is)

-- and what the rest of it has
pub has_later : {X : Type 0} (y : X) (ys : List X) (x : X) → Contains ys x → Contains (y ∷ ys) x
has_later y ys x h = (suc h.0, omega (arith, h.1), h.2)

-- what a list has is its first, or the rest has it
pub has_cases : {X : Type 0} (y : X) (ys : List X) (x : X) → Contains (y ∷ ys) x → (y ≡ x) ⊎ Contains ys x
has_cases y ys x h = go h.0 h.1 h.2
  where
    go : (i : ℕ) → i < suc (length ys) → get_or (y ∷ ys) i x ≡ x → (y ≡ x) ⊎ Contains ys x
    go zero l e = inl e
    go (suc i) l e = inr (i, omega arith, e)

-- the roll has the same name as one that is asked for, at a number
pub record Rolled {N : Type 0} (same : N → N → Bool) (name : N) (roll : List (Enrolment N)) (number : ℕ) : Type 0 where
  pub held : N
  pub has : Contains roll (record { name = held; number = number })
  pub alike : same held name ≡ true

module _ {N : Type 0} (same : N → N → Bool) (name : N) where
  -- at the roll's number for a name it has the same name
  pub roll_found : (roll : List (Enrolment N)) (i : ℕ) → roll_number same name roll ≡ Some i → Rolled same name roll i
  roll_found [] i e = absurd (cc)
  roll_found (entry ∷ roll) i e = go (same entry.name name) refl e (roll_found roll i)
    where
      go : (b : Bool) → same entry.name name ≡ b → cond b (Some entry.number) (roll_number same name roll) ≡ Some i
          → (roll_number same name roll ≡ Some i → Rolled same name roll i) → Rolled same name (entry ∷ roll) i
      go true t here later =
          let is : entry.number ≡ i = cc in
          let it : entry ≡ record { name = entry.name; number = i } = ap (λ number. record { name = entry.name; number = number }) is in
          record { held = entry.name; has = has_here entry roll (record { name = entry.name; number = i }) it; alike = t }
      go false t here later =
          let found = later here in
          record { held = found.held; has = has_later entry roll (record { name = found.held; number = i }) found.has; alike = found.alike }

  -- where the roll has no number for a name, it has no name that is the same
  pub roll_none : (roll : List (Enrolment N)) → roll_number same name roll ≡ None → (held : N) (i : ℕ) → Contains roll (record { name = held; number = i }) → same held name ≡ false
  roll_none [] e held i h = absurd (omega (arith, h.1))
  roll_none (entry ∷ roll) e held i h = go (same entry.name name) refl e (has_cases entry roll (record { name = held; number = i }) h) (λ none. roll_none roll none held i)
    where
      go : (b : Bool) → same entry.name name ≡ b → cond b (Some entry.number) (roll_number same name roll) ≡ None
          → (entry ≡ record { name = held; number = i }) ⊎ Contains roll (record { name = held; number = i })
          → (roll_number same name roll ≡ None → Contains roll (record { name = held; number = i }) → same held name ≡ false) → same held name ≡ false
      go true t none which later = cc
      go false t none (inl is) later = ap (λ (x : Enrolment N). same x.name name) (sym is) ∙ t
      go false t none (inr further) later = later none further

-- the entries and the roll give the same number for a name
pub same_number : {N : Type 0} (same : N → N → Bool) → Alike same → (name : N) (entries : List (Option N)) (roll : List (Enrolment N)) → OnTheRoll entries roll
    → NamesDiffer same entries → number_of same name entries ≡ roll_number same name roll
same_number {N} same alike name entries roll on apart = go (number_of same name entries) (roll_number same name roll) refl refl
  where
    go : (a b : Option ℕ) → number_of same name entries ≡ a → roll_number same name roll ≡ b → number_of same name entries ≡ roll_number same name roll
    go None None ea eb = ea ∙ sym eb
    go None (Some j) ea eb =
        let rolled = roll_found same name roll j eb in
        absurd (both_ways (same rolled.held name) (number_none same name entries ea j rolled.held (on.on_the_roll_is_enrolled rolled.held j rolled.has)) rolled.alike)
    go (Some i) None ea eb =
        let found = number_found same name entries i ea in
        absurd (both_ways (same found.held name) (roll_none same name roll eb found.held i (on.enrolled_is_on_the_roll found.held i found.is)) found.alike)
    go (Some i) (Some j) ea eb =
        let found = number_found same name entries i ea in
        let rolled = roll_found same name roll j eb in
        let both = alike.transitive found.held name rolled.held found.alike (alike.symmetric rolled.held name rolled.alike) in
        let is = apart i j found.held rolled.held found.is (on.on_the_roll_is_enrolled rolled.held j rolled.has) both in
        ea ∙ (ap Some is ∙ sym eb)
