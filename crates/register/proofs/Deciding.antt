-- What a reading says at the end of any run. Assumes nothing.
use Rattle.std.proofs.Common.{◌≡◌, ℕ, ◌^◌, ◌<◌, ◌≤◌, Bool, true, false, cond, not, eqb, ltb, List, [], ◌∷◌, length, Some, None, filter, Option, refl, ap, ◌∙◌, ap₂, arith}
use Rattle.std.specs.List.{range_with_len, AllByRecursion}
use Rattle.std.proofs.lemmas.List.Sums.{length-filter, sum_by-le-sum_by}
use Rattle.std.proofs.lemmas.Bool.{and_parts, cond-true, le-leb, lt-ltb}
use Rattle.fields.specs.Lawful.{Tables, Lawful}
use Rattle.words.specs.declared.plan.Plan.{Plan}
use Rattle.words.proofs.Limits.{passed}
use Rattle.reader.specs.Distances.{distance, clear_slots, covered, cover}
use Rattle.reader.specs.Promises.{Speakers}
use Rattle.reader.specs.Sets.{NumberSet}
use Rattle.reader.specs.Verdicts.{verdict, listed}
use Rattle.reader.specs.declared.verdict.Verdict.TheVariants as told
use Rattle.reader.proofs.Deciding.{near_cover, near_read, read_listed}
use Rattle.reader.proofs.Distances.{inside_row}
use Rattle.reader.proofs.Planned.{planned_by}
use Rattle.reader.proofs.Sets.{member, set_kept}
use Rattle.register.specs.Books.{Book}
use Rattle.register.specs.Calls.{to_read, refusal}
use Rattle.names.specs.Names.{Alike}
use Rattle.register.specs.Promises.{RunDecides, RunsDecide}
use Rattle.register.specs.Racks.{Rack, enrolled}
use Rattle.register.specs.Verdicts.{smallest_foreign, with_names, judged, rule}
use Rattle.register.specs.declared.verdict.Verdict.TheVariants.{Named}
use Rattle.register.proofs.Keeping.{Kept, Speaking, run_keeps}

-- where one test passes another does: it keeps at least as many numbers
kept_le : (p q : ℕ → Bool) (xs : List ℕ) → ((z : ℕ) → p z ≡ true → q z ≡ true) → length (filter p xs) ≤ length (filter q xs)
kept_le p q xs h =
    omega (arith, length-filter p xs, length-filter q xs, sum_by-le-sum_by (λ x. cond (p x) 1 0) (λ x. cond (q x) 1 0) xs (λ x. one (p x) (q x) (h x)))
  where
    one : (a b : Bool) → (a ≡ true → b ≡ true) → cond a 1 0 ≤ cond b 1 0
    one true b passes = rw (passes refl) (omega arith)
    one false b passes = omega arith

-- the words of a set within e slots of a line are covered, so the set has at most as many numbers as are covered
pub near_few : (f : Tables) → Lawful f → (n k e : ℕ) (row : List Bool) (xs : List ℕ) → n ≤ f.order → NumberSet (f.order ^ k) xs → distance f n k row xs ≤ e
    → length xs ≤ length (cover f n k e row)
near_few f l n k e row xs hn cards near =
    omega (
      arith,
      ap length (set_kept (f.order ^ k) xs cards),
      kept_le (member xs) (covered f n k e row) (range_with_len 0 (f.order ^ k)) (λ z m. le-leb (clear_slots f n k row z) e (omega (arith, inside_row f l n k row xs z hn m))),
    )

-- enrolled numbers have no smallest that is foreign
none_foreign : {N : Type 0} (entries : List (Option N)) (numbers : List ℕ) → AllByRecursion (λ number. enrolled entries number ≡ true) numbers → smallest_foreign entries numbers ≡ None
none_foreign entries [] all = refl
none_foreign entries (x ∷ xs) all =
    ap (λ known. cond (not known) (Some x) (smallest_foreign entries xs)) all.0 ∙ none_foreign entries xs all.1

-- a reading of enrolled numbers names them
pub read_named : {N : Type 0} (f : Tables) (p : Plan) (entries : List (Option N)) (row : List Bool) (xs : List ℕ) → verdict f p.n p.k p.d p.e row ≡ told.Reading (length xs)
    → cover f p.n p.k p.e row ≡ xs → AllByRecursion (λ number. enrolled entries number ≡ true) xs → judged f p entries row ≡ Named (length xs)
read_named f p entries row xs read same known = ap₂ with_names read (ap (smallest_foreign entries) same ∙ none_foreign entries xs known)

-- more than d covered words are an overload
pub many_overload : {N : Type 0} (f : Tables) (p : Plan) (entries : List (Option N)) (row : List Bool) → p.d < length (cover f p.n p.k p.e row) → rule (judged f p entries row) ≡ 1
many_overload f p entries row many =
    let c = cover f p.n p.k p.e row in
    ap (λ v. rule (with_names v (smallest_foreign entries c))) (cond-true (ltb p.d (length c)) (told.Overload (length c)) _ (lt-ltb p.d (length c) many))

-- an accepted reading is of an open frame
pub read_opened : {N : Type 0} (same : N → N → Bool) (f : Tables) (p : Plan) (s : Rack N) (mark : ℕ) (list : List ℕ) → refusal same f p s (to_read mark list) ≡ None → s.opened ≡ true
read_opened same f p s mark list none =
    let c1 = passed _ _ _ none in
    let c2 = passed _ _ _ c1.1 in
    (and_parts s.opened (eqb mark s.mark) c2.0).0

-- what a reading of an open frame says
speaking_decides : {N : Type 0} (same : N → N → Bool) (f : Tables) → Lawful f → (p : Plan) (s : Rack N) (b : Book N) (list : List ℕ) → Kept same f p s b
    → Speaking f p s.entries s.row b.ticked b.knocks
    → RunDecides same p s b (judged f p s.entries s.row) (listed f p.n p.k p.d p.e s.row list)
speaking_decides same f l p s b list kept now =
    let lim = planned_by f p now.order in
    let hn = lim.n_high in
    let far = lim.far_apart in
    record {
      roll_is_kept = kept.roll_is_kept;
      names_differ = kept.names_differ;
      ticked_cards_are_named = λ few_knocks few.
          let near : distance f p.n p.k s.row b.ticked ≤ p.e = omega (arith, now.near) in
          let speakers : Speakers f p.k p.d b.ticked = record { cards = now.cards; few = few } in
          let read = near_read f l p.n p.k p.d p.e hn far s.row b.ticked speakers near in
          let same_cover = near_cover f l p.n p.k p.d p.e hn far s.row b.ticked speakers near in
          (read_named f p s.entries s.row b.ticked read same_cover now.known, read_listed f p.n p.k p.d p.e s.row list b.ticked read same_cover);
      more_ticked_cards_overload = λ few_knocks many.
          many_overload f p s.entries s.row (omega (arith, near_few f l p.n p.k p.e s.row b.ticked hn now.cards (omega (arith, now.near))));
    }

-- what an accepted reading says at the end of every run
pub runs_decide : {N : Type 0} (same : N → N → Bool) → Alike same → (f : Tables) → Lawful f → (p : Plan) (s : Rack N) (mark : ℕ) (list : List ℕ) → refusal same f p s (to_read mark list) ≡ None
    → RunsDecide same f p s (judged f p s.entries s.row) (listed f p.n p.k p.d p.e s.row list)
runs_decide same alike f l p s mark list none start b new run =
    let kept = run_keeps same alike f p start new s b run in
    speaking_decides same f l p s b list kept (kept.speaking (read_opened same f p s mark list none))
