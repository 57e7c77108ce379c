-- What a reading guarantees. Assumes nothing.
use Rattle.std.specs.Prelude.{◌≡◌, ℕ, ◌<◌, ◌≤◌, Bool, List, length, take, Some, None, Option, slice_index_or}
use Rattle.std.specs.List.{Contains}
use Rattle.fields.specs.Lawful.{Tables}
use Rattle.words.specs.declared.plan.Plan.{Plan}
use Rattle.reader.specs.Promises.{DecidedByDistance}
use Rattle.register.specs.Entries.{NamesDiffer}
use Rattle.register.specs.Racks.{Rack, New}
use Rattle.register.specs.Books.{Book, Enrolment}
use Rattle.register.specs.Calls.{Call, left_by}
use Rattle.register.specs.Runs.{Run}
use Rattle.register.specs.Verdicts.{by_names, smallest_foreign, rule}
use Rattle.register.specs.declared.verdict.Verdict.{Verdict}
use Rattle.register.specs.declared.verdict.Verdict.TheVariants.{Named}

-- the enrolled names and their numbers are the roll's
pub record OnTheRoll {N : Type 0} (entries : List (Option N)) (roll : List (Enrolment N)) : Type 0 where
  pub enrolled_is_on_the_roll : (name : N) (number : ℕ) → slice_index_or entries number None ≡ Some name → Contains roll (record { name = name; number = number })
  pub on_the_roll_is_enrolled : (name : N) (number : ℕ) → Contains roll (record { name = name; number = number }) → slice_index_or entries number None ≡ Some name

-- what holds of every run from a new rack that leads to this rack, for the verdict of an accepted read on it and the list
-- as it is then
pub record RunDecides {N : Type 0} (same : N → N → Bool) (p : Plan) (s : Rack N) (b : Book N) (v : Verdict) (list : List ℕ) : Type 0 where
  -- the enrolled names and their numbers are the roll's
  pub roll_is_kept : OnTheRoll s.entries b.roll
  -- no two enrolled names are the same
  pub names_differ : NamesDiffer same s.entries
  -- with at most e knocks and at most d ticked cards, exactly the ticked cards are named
  pub ticked_cards_are_named : b.knocks ≤ p.e → length b.ticked ≤ p.d → (v ≡ Named (length b.ticked)) × (take (length b.ticked) list ≡ b.ticked)
  -- with at most e knocks and more than d ticked cards, it is an overload
  pub more_ticked_cards_overload : b.knocks ≤ p.e → p.d < length b.ticked → rule v ≡ 1

-- over every run from a new rack that leads to this rack
abbrev pub RunsDecide : {N : Type 0} → (N → N → Bool) → Tables → Plan → Rack N → Verdict → List ℕ → Type 0
RunsDecide {N} same f p s v list = (start : Rack N) (b : Book N) → New start → Run same f p start s b → RunDecides same p s b v list

-- what distance guarantees of the verdict by names: a set near the line is named or foreign, with its count and, where it
-- is foreign, its smallest number that is not enrolled; where none is near, it is overload or noise
abbrev pub JudgedByDistance : {N : Type 0} → Tables → Plan → List (Option N) → List Bool → Verdict → List ℕ → Type 0
JudgedByDistance f p entries row v list =
    DecidedByDistance f p.n p.k p.d p.e row list (λ xs. v ≡ by_names (smallest_foreign entries xs) (length xs)) (rule v ≤ 2)

-- the whole guarantee of a reading: what distance decides on its line, and what every run that leads to it has decided
pub record ReadingIsGuaranteed {N : Type 0} (same : N → N → Bool) (f : Tables) (p : Plan) (s : Rack N) (v : Verdict) (list : List ℕ) : Type 0 where
  pub by_distance : JudgedByDistance f p s.entries s.row v list
  pub over_runs : RunsDecide same f p s v list

-- No call makes two enrolled names the same.
abbrev pub CallsKeepNamesApart : {N : Type 0} → (N → N → Bool) → Type 0
CallsKeepNamesApart {N} same = (f : Tables) (p : Plan) (s : Rack N) (call : Call N) → NamesDiffer same s.entries → NamesDiffer same (left_by same f p s call).entries
