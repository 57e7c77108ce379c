-- What every call keeps, accepted or refused, and so every run. Assumes nothing.
use Rattle.std.proofs.Common.{◌≡◌, ℕ, ◌+◌, ◌*◌, ◌^◌, ◌<◌, ◌≤◌, Bool, true, false, cond, not, ltb, List, [], length, get_or, set, replicate, is_some, Some, None, Option, sym, refl, ap, ◌∙◌, arith}
use Rattle.std.specs.List.{AllByRecursion}
use Rattle.std.proofs.lemmas.List.{length-replicate, length-set}
use Rattle.std.proofs.lemmas.Bool.{and_parts, both_ways, eqb-true, ltb-true, not-true}
use Rattle.faults.specs.declared.fault.Fault.{Fault}
use Rattle.fields.specs.Lawful.{Tables}
use Rattle.words.specs.Calls.{number_check}
use Rattle.words.specs.declared.plan.Plan.{Plan}
use Rattle.words.proofs.Limits.{passed, none_refuses}
use Rattle.reader.specs.Calls.{line_check}
use Rattle.reader.specs.Distances.{distance}
use Rattle.reader.specs.Sets.{NumberSet}
use Rattle.register.specs.Books.{Book, blank, ticked_with, roll_number, noted, fed}
use Rattle.register.specs.Calls.{Call, to_enrol, to_strike, to_open, to_tick, to_knock, to_read, to_close, to_judge, mark_check, name_known, ticked_row, refusal, after, accepts, left_by}
use Rattle.names.specs.Names.{Alike}
use Rattle.register.specs.Entries.{NamesDiffer}
use Rattle.register.specs.Promises.{OnTheRoll}
use Rattle.register.specs.Racks.{Rack, New, enrolled, number_of}
use Rattle.register.specs.Runs.{Run, begun, called}
use Rattle.register.proofs.Finding.{number_found, same_number}
use Rattle.register.proofs.Apart.{name_is_known, accepted_apart}
use Rattle.register.proofs.Naming.{enrolling_keeps_the_roll, no_names_differ, no_names_no_roll, striking_keeps_the_roll}
use Rattle.register.proofs.Ticking.{clear_near, knock_near, length_driven, tick_near, with_number_all, with_number_set}

-- while a frame is open: the ticked numbers are enrolled cards, and no farther from the line than there were knocks
pub record Speaking {N : Type 0} (f : Tables) (p : Plan) (entries : List (Option N)) (row : List Bool) (ticked : List ℕ) (knocks : ℕ) : Type 0 where
  pub order : f.order ≡ p.q
  pub long : length row ≡ p.n * p.q
  pub cards : NumberSet (f.order ^ p.k) ticked
  pub known : AllByRecursion (λ number. enrolled entries number ≡ true) ticked
  pub near : distance f p.n p.k row ticked ≤ knocks

-- what a rack and a book keep
pub record Kept {N : Type 0} (same : N → N → Bool) (f : Tables) (p : Plan) (s : Rack N) (b : Book N) : Type 0 where
  pub roll_is_kept : OnTheRoll s.entries b.roll
  pub names_differ : NamesDiffer same s.entries
  pub speaking : s.opened ≡ true → Speaking f p s.entries s.row b.ticked b.knocks

-- an opened frame: no ticked cards on a clear line
opened_speaking : {N : Type 0} (f : Tables) (p : Plan) (entries : List (Option N)) (row : List Bool) → f.order ≡ p.q → length row ≡ p.n * p.q
    → Speaking f p entries (replicate (length row) false) [] 0
opened_speaking f p entries row order long =
    record {
      order = order;
      long = length-replicate {A = Bool} (length row) false ∙ long;
      cards = record { ascending = λ i j h l. absurd (omega arith); below = λ i l. absurd (omega arith) };
      known = tt;
      near = omega (arith, clear_near f p.n p.k (length row));
    }

-- one ticked card more
ticked_speaking : {N : Type 0} (f : Tables) (p : Plan) (entries : List (Option N)) (row : List Bool) (ticked : List ℕ) (knocks number : ℕ)
    → number < p.q ^ p.k → enrolled entries number ≡ true
    → Speaking f p entries row ticked knocks → Speaking f p entries (ticked_row f p.k (Some number) row) (ticked_with (Some number) ticked) knocks
ticked_speaking f p entries row ticked knocks number below is s =
    record {
      order = s.order;
      long = length_driven f p.k number row ∙ s.long;
      cards = with_number_set (f.order ^ p.k) number ticked (rw s.order below) s.cards;
      known = with_number_all (λ x. enrolled entries x ≡ true) number ticked is s.known;
      near = omega (arith, tick_near f p.n p.k number row ticked (s.long ∙ ap (λ q. p.n * q) (sym s.order)), s.near);
    }

-- one knock more
knocked_speaking : {N : Type 0} (f : Tables) (p : Plan) (entries : List (Option N)) (row : List Bool) (ticked : List ℕ) (knocks slot : ℕ) (b : Bool)
    → Speaking f p entries row ticked knocks → Speaking f p entries (set row slot b) ticked (knocks + 1)
knocked_speaking f p entries row ticked knocks slot b s =
    record {
      order = s.order;
      long = length-set row slot b ∙ s.long;
      cards = s.cards;
      known = s.known;
      near = omega (arith, knock_near f p.n p.k slot b row ticked, s.near);
    }

module _ {N : Type 0} (same : N → N → Bool) (alike : Alike same) (f : Tables) (p : Plan) (s : Rack N) (b : Book N) (kept : Kept same f p s b) where
  -- after an accepted call the enrolled names and their numbers are the roll's
  roll_after : (call : Call N) → refusal same f p s call ≡ None → OnTheRoll (after same f p s call).entries (noted same b call).roll
  roll_after (to_enrol name number) none =
      let c1 = passed _ _ _ none in
      let c2 = passed _ _ _ c1.1 in
      let c3 = passed _ _ _ c2.1 in
      let c4 = passed _ _ _ c3.1 in
      let card = and_parts (ltb number (p.q ^ p.k)) (ltb number (length s.entries)) c3.0 in
      enrolling_keeps_the_roll s.entries b.roll number name (ltb-true number (length s.entries) card.1) (not-true (enrolled s.entries number) c4.0) kept.roll_is_kept
  roll_after (to_strike name) none =
      let c1 = passed _ _ _ none in
      let known = name_is_known (number_of same name s.entries) (λ number. None) c1.1 in
      rw known.1 (striking_keeps_the_roll same alike s.entries b.roll known.0 name (number_found same name s.entries known.0 known.1) kept.names_differ kept.roll_is_kept)
  roll_after to_open none = kept.roll_is_kept
  roll_after (to_tick mark name) none = kept.roll_is_kept
  roll_after (to_knock mark slot) none = kept.roll_is_kept
  roll_after (to_read mark list) none = kept.roll_is_kept
  roll_after (to_close mark) none = kept.roll_is_kept
  roll_after (to_judge list) none = kept.roll_is_kept

  -- an accepted tick drives the card of an enrolled name, which the book ticks
  ticked_after : (mark : ℕ) (name : N) → refusal same f p s (to_tick mark name) ≡ None → s.opened ≡ true
      → Speaking f p s.entries (ticked_row f p.k (number_of same name s.entries) s.row) (ticked_with (roll_number same name b.roll) b.ticked) b.knocks
  ticked_after mark name none opened =
      let number_rest : ℕ → Option Fault = λ number. number_check p number None in
      let name_rest = name_known (number_of same name s.entries) number_rest in
      let line_rest = line_check p s.row name_rest in
      let c1 = passed _ _ (mark_check s mark line_rest) none in
      let c2 = passed _ _ line_rest c1.1 in
      let c3 = passed _ _ name_rest c2.1 in
      let known = name_is_known (number_of same name s.entries) number_rest c3.1 in
      let c4 = passed _ _ _ known.2 in
      let found = number_found same name s.entries known.0 known.1 in
      let rolled : roll_number same name b.roll ≡ Some known.0 = sym (same_number same alike name s.entries b.roll kept.roll_is_kept kept.names_differ) ∙ known.1 in
      rw (known.1, rolled) (ticked_speaking f p s.entries s.row b.ticked b.knocks known.0 (ltb-true known.0 (p.q ^ p.k) c4.0) (ap is_some found.is) (kept.speaking opened))

  -- after an accepted call the ticked cards of an open frame are no farther from the line than there were knocks
  speaking_after : (call : Call N) → refusal same f p s call ≡ None → (after same f p s call).opened ≡ true
      → Speaking f p (after same f p s call).entries (after same f p s call).row (noted same b call).ticked (noted same b call).knocks
  speaking_after (to_enrol name number) none opened =
      let c1 = passed _ _ _ none in
      let c2 = passed _ _ _ c1.1 in
      absurd (both_ways s.opened (not-true s.opened c2.0) opened)
  speaking_after (to_strike name) none opened =
      let c1 = passed _ _ _ none in
      absurd (both_ways s.opened (not-true s.opened c1.0) opened)
  speaking_after to_open none opened =
      let c1 = passed _ _ _ none in
      let c2 = passed _ _ _ c1.1 in
      let c3 = passed _ _ _ c2.1 in
      opened_speaking f p s.entries s.row (eqb-true f.order p.q c1.0) (eqb-true (length s.row) (p.n * p.q) c3.0)
  speaking_after (to_tick mark name) none opened = ticked_after mark name none opened
  speaking_after (to_knock mark slot) none opened = knocked_speaking f p s.entries s.row b.ticked b.knocks slot (not (get_or s.row slot false)) (kept.speaking opened)
  speaking_after (to_read mark list) none opened = kept.speaking opened
  speaking_after (to_close mark) none opened = absurd (both_ways false refl opened)
  speaking_after (to_judge list) none opened = kept.speaking opened

  -- so every accepted call keeps it
  accepted_keeps : (call : Call N) → refusal same f p s call ≡ None → Kept same f p (after same f p s call) (noted same b call)
  accepted_keeps call none = record {
    roll_is_kept = roll_after call none;
    names_differ = accepted_apart same alike f p s call none kept.names_differ;
    speaking = speaking_after call none;
  }

  -- every call keeps it: a refused one changes nothing
  pub call_keeps : (call : Call N) → Kept same f p (left_by same f p s call) (fed same b call (accepts same f p s call))
  call_keeps call = go (accepts same f p s call) refl
    where
      go : (accepted : Bool) → accepts same f p s call ≡ accepted → Kept same f p (cond accepted (after same f p s call) s) (cond accepted (noted same b call) b)
      go true e = accepted_keeps call (none_refuses (refusal same f p s call) e)
      go false e = kept

-- a new rack and a blank book begin with it
new_keeps : {N : Type 0} (same : N → N → Bool) (f : Tables) (p : Plan) (start : Rack N) → New start → Kept same f p start blank
new_keeps same f p start new =
    record {
      roll_is_kept = no_names_no_roll start.entries new.nameless;
      names_differ = no_names_differ same start.entries new.nameless;
      speaking = λ opened. absurd (both_ways start.opened new.closed opened);
    }

-- every run from a new rack keeps it
pub run_keeps : {N : Type 0} (same : N → N → Bool) → Alike same → (f : Tables) (p : Plan) (start : Rack N) → New start → (s : Rack N) (b : Book N) → Run same f p start s b → Kept same f p s b
run_keeps same alike f p start new _ _ begun = new_keeps same f p start new
run_keeps same alike f p start new _ _ (called s b call run) = call_keeps same alike f p s b (run_keeps same alike f p start new s b run) call
