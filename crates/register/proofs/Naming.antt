-- What enrolling and striking leave of the names: they stay apart, and the roll stays that of the entries. Assumes nothing.
use Rattle.std.proofs.Common.{◌≡◌, ℕ, ◌<◌, Bool, true, false, cond, not, ◌⊎◌, List, [], ◌∷◌, length, get_or, set, replicate, is_some, Some, None, filter, Option, sym, refl, ap, ◌∙◌, ap₂, inl, inr, arith}
use Rattle.std.specs.List.{Contains}
use Rattle.std.proofs.lemmas.List.Elements.{All-contains, All-contains_itself, All-filter, filter_passes}
use Rattle.std.proofs.lemmas.List.{get_or_past, get_or-replicate, get_or-set_other, get_or-set_same, length-set}
use Rattle.std.proofs.lemmas.Bool.{cases_Bool, cases_eq, cases_lt, both_ways, not_from_false, not-true}
use Rattle.register.specs.Books.{Enrolment}
use Rattle.names.specs.Names.{Alike}
use Rattle.register.specs.Entries.{NamesDiffer}
use Rattle.register.specs.Promises.{OnTheRoll}
use Rattle.register.specs.Racks.{enrolled, number_of}
use Rattle.register.proofs.Finding.{Found, number_none, has_here, has_later, has_cases}

-- what a list has that passes a test is kept by it
pub has_kept : {X : Type 0} (test : X → Bool) (xs : List X) (x : X) → Contains xs x → test x ≡ true → Contains (filter test xs) x
has_kept test [] x h t = h
has_kept test (y ∷ ys) x h t = go (test y) refl (has_cases y ys x h) (λ later. has_kept test ys x later t)
  where
    go : (b : Bool) → test y ≡ b → (y ≡ x) ⊎ Contains ys x → (Contains ys x → Contains (filter test ys) x) → Contains (cond b (y ∷ filter test ys) (filter test ys)) x
    go true e (inl is) later = has_here y (filter test ys) x is
    go true e (inr further) later = has_later y (filter test ys) x (later further)
    go false e (inl is) later = absurd (both_ways (test x) (ap test (sym is) ∙ e) t)
    go false e (inr further) later = later further

-- what a test keeps passes it, and the list has it
pub kept_has : {X : Type 0} (test : X → Bool) (xs : List X) (x : X) → Contains (filter test xs) x → Contains xs x × (test x ≡ true)
kept_has test xs x h = (
  All-contains (Contains xs) (filter test xs) x (All-filter test (Contains xs) xs (All-contains_itself xs)) h,
  All-contains (λ y. test y ≡ true) (filter test xs) x (filter_passes test xs) h,
)

-- a name at a number after a write is what was written there, or was enrolled at another number
abbrev pub WrittenOrKept : {N : Type 0} (entries : List (Option N)) (number : ℕ) (entry : Option N) (i : ℕ) (held : N) → Type 0
WrittenOrKept entries number entry i held = ((i ≡ number) × (entry ≡ Some held)) ⊎ ((i ≡ number → ⊥) × (get_or entries i None ≡ Some held))

-- so is every name that is enrolled after a write
pub set_cases : {N : Type 0} (entries : List (Option N)) (number : ℕ) (entry : Option N) (i : ℕ) (held : N)
    → get_or (set entries number entry) i None ≡ Some held → WrittenOrKept entries number entry i held
set_cases entries number entry i held is = elim (cases_eq i number) [
  | inl here ↦ elim (cases_lt number (length entries)) [
    | inl within ↦ inl (here, sym (get_or-set_same entries number entry None within) ∙ (ap (λ j. get_or (set entries number entry) j None) (sym here) ∙ is))
    | inr past ↦
        let none = get_or_past (set entries number entry) i None (omega (arith, length-set entries number entry)) in
        absurd (cc)
  ]
  | inr other ↦ inr (other, sym (get_or-set_other entries number i entry None other) ∙ is)
]

-- enrolling a name that is not enrolled keeps the names apart
pub enrolling_keeps_names_apart : {N : Type 0} (same : N → N → Bool) → Alike same → (entries : List (Option N)) (number : ℕ) (name : N) → number_of same name entries ≡ None
    → NamesDiffer same entries → NamesDiffer same (set entries number (Some name))
enrolling_keeps_names_apart same alike entries number name none apart i j a b ea eb ab =
    go (set_cases entries number (Some name) i a ea) (set_cases entries number (Some name) j b eb)
  where
    go : WrittenOrKept entries number (Some name) i a → WrittenOrKept entries number (Some name) j b → i ≡ j
    go (inl here) (inl there) = here.0 ∙ sym there.0
    go (inl here) (inr there) = cc (here.1, number_none same name entries none j b there.1, alike.symmetric a b ab)
    go (inr here) (inl there) = cc (there.1, number_none same name entries none i a here.1, ab)
    go (inr here) (inr there) = apart i j a b here.1 there.1 ab

-- striking a number keeps the names apart
pub striking_keeps_names_apart : {N : Type 0} (same : N → N → Bool) (entries : List (Option N)) (number : ℕ) → NamesDiffer same entries → NamesDiffer same (set entries number None)
striking_keeps_names_apart same entries number apart i j a b ea eb ab =
    go (set_cases entries number None i a ea) (set_cases entries number None j b eb)
  where
    go : WrittenOrKept entries number None i a → WrittenOrKept entries number None j b → i ≡ j
    go (inl here) there = cc here.1
    go (inr here) (inl there) = cc there.1
    go (inr here) (inr there) = apart i j a b here.1 there.1 ab

-- the roll after a name is enrolled at a free number
pub enrolling_keeps_the_roll : {N : Type 0} (entries : List (Option N)) (roll : List (Enrolment N)) (number : ℕ) (name : N) → number < length entries → enrolled entries number ≡ false
    → OnTheRoll entries roll → OnTheRoll (set entries number (Some name)) (record { name = name; number = number } ∷ roll)
enrolling_keeps_the_roll {N} entries roll number name within free on = record { enrolled_is_on_the_roll = there; on_the_roll_is_enrolled = back }
  where
    new : Enrolment N
    new = record { name = name; number = number }

    there : (held : N) (i : ℕ) → get_or (set entries number (Some name)) i None ≡ Some held → Contains (new ∷ roll) (record { name = held; number = i })
    there held i is = elim (set_cases entries number (Some name) i held is) [
      | inl here ↦
          let named : name ≡ held = cc here.1 in
          has_here new roll (record { name = held; number = i }) (ap₂ (λ a b. record { name = a; number = b }) named (sym here.0))
      | inr other ↦ has_later new roll (record { name = held; number = i }) (on.enrolled_is_on_the_roll held i other.1)
    ]

    back : (held : N) (i : ℕ) → Contains (new ∷ roll) (record { name = held; number = i }) → get_or (set entries number (Some name)) i None ≡ Some held
    back held i h = elim (has_cases new roll (record { name = held; number = i }) h) [
      | inl is ↦
          let at : number ≡ i = ap (λ (x : Enrolment N). x.number) is in
          let named : name ≡ held = ap (λ (x : Enrolment N). x.name) is in
          ap (λ j. get_or (set entries number (Some name)) j None) (sym at) ∙ (get_or-set_same entries number (Some name) None within ∙ ap Some named)
      | inr later ↦
          let was = on.on_the_roll_is_enrolled held i later in
          get_or-set_other entries number i (Some name) None (λ at. both_ways (enrolled entries number) free (ap is_some (ap (λ j. get_or entries j None) (sym at) ∙ was))) ∙ was
    ]

-- the roll after a name is struck
pub striking_keeps_the_roll : {N : Type 0} (same : N → N → Bool) → Alike same → (entries : List (Option N)) (roll : List (Enrolment N)) (number : ℕ) (name : N) → Found same name entries number
    → NamesDiffer same entries → OnTheRoll entries roll → OnTheRoll (set entries number None) (filter (λ entry. not (same entry.name name)) roll)
striking_keeps_the_roll {N} same alike entries roll number name found apart on = record { enrolled_is_on_the_roll = there; on_the_roll_is_enrolled = back }
  where
    other : Enrolment N → Bool
    other entry = not (same entry.name name)

    there : (held : N) (i : ℕ) → get_or (set entries number None) i None ≡ Some held → Contains (filter other roll) (record { name = held; number = i })
    there held i is = elim (set_cases entries number None i held is) [
      | inl here ↦ absurd (cc here.1)
      | inr stays ↦
          has_kept other roll (record { name = held; number = i }) (on.enrolled_is_on_the_roll held i stays.1) (elim (cases_Bool (same held name)) [
            | inl t ↦
                let both = alike.transitive held name found.held t (alike.symmetric found.held name found.alike) in
                absurd (stays.0 (apart i number held found.held stays.1 found.is both))
            | inr t ↦ not_from_false (same held name) t
          ])
    ]

    back : (held : N) (i : ℕ) → Contains (filter other roll) (record { name = held; number = i }) → get_or (set entries number None) i None ≡ Some held
    back held i h =
        let kept = kept_has other roll (record { name = held; number = i }) h in
        let was = on.on_the_roll_is_enrolled held i kept.0 in
        get_or-set_other entries number i None None (λ at. cc (found.is, found.alike, not-true (same held name) kept.1, ap (λ j. get_or entries j None) (sym at) ∙ was)) ∙ was

-- nothing stands in a list of nothing
none_in_none : {N : Type 0} (entries : List (Option N)) (i : ℕ) → entries ≡ replicate (length entries) None → get_or entries i None ≡ None
none_in_none entries i none = elim (cases_lt i (length entries)) [
  | inl within ↦ ap (λ xs. get_or xs i None) none ∙ get_or-replicate (length entries) i None None within
  | inr past ↦ get_or_past entries i None past
]

-- entries without a name have an empty roll
pub no_names_no_roll : {N : Type 0} (entries : List (Option N)) → entries ≡ replicate (length entries) None → OnTheRoll entries []
no_names_no_roll entries none =
    record {
      enrolled_is_on_the_roll = λ held i is. absurd (cc (none_in_none entries i none));
      on_the_roll_is_enrolled = λ held i h. absurd (omega (arith, h.1));
    }

-- and no two names that are the same
pub no_names_differ : {N : Type 0} (same : N → N → Bool) (entries : List (Option N)) → entries ≡ replicate (length entries) None → NamesDiffer same entries
no_names_differ same entries none i j a b ea eb ab = cc (none_in_none entries i none)
