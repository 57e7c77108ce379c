-- The verdict by names, from the verdict before anyone's name is asked. Assumes nothing.
use Rattle.std.proofs.Common.{◌≡◌, ℕ, ◌≤◌, Bool, true, false, cond, ltb, List, length, take, Option, sym, ap, ◌∙◌, arith}
use Rattle.std.proofs.lemmas.Bool.{false≢true}
use Rattle.fields.specs.Lawful.{Tables}
use Rattle.words.specs.declared.plan.Plan.{Plan}
use Rattle.reader.specs.Distances.{distance, cover}
use Rattle.reader.specs.Promises.{ReadByDistance}
use Rattle.reader.specs.Verdicts.{verdict, is_reading}
use Rattle.reader.specs.declared.verdict.Verdict as unnamed
use Rattle.reader.specs.declared.verdict.Verdict.TheVariants as told
use Rattle.register.specs.Promises.{JudgedByDistance}
use Rattle.register.specs.Verdicts.{by_names, with_names, reading_count, smallest_foreign, rule}
use Rattle.register.specs.declared.verdict.Verdict.{Verdict}

-- a reading counts the covered numbers
pub reading_counts : (f : Tables) (p : Plan) (row : List Bool) (count : ℕ) → verdict f p.n p.k p.d p.e row ≡ told.Reading count → count ≡ length (cover f p.n p.k p.e row)
reading_counts f p row count e = go (ltb p.d (length c)) (ltb p.e (distance f p.n p.k row c)) e
  where
    c : List ℕ
    c = cover f p.n p.k p.e row

    go : (a b : Bool) → cond a (told.Overload (length c)) (cond b (told.Noise (distance f p.n p.k row c)) (told.Reading (length c))) ≡ told.Reading count → count ≡ length c
    go true b z = absurd (false≢true (ap is_reading z))
    go false true z = absurd (false≢true (ap is_reading z))
    go false false z = cc

-- what distance guarantees of a verdict stays true when names are asked
pub names_keep_promises : {N : Type 0} (f : Tables) (p : Plan) (entries : List (Option N)) (row : List Bool) (list : List ℕ) (u : unnamed.Verdict) (v : Verdict)
    → v ≡ with_names u (smallest_foreign entries (take (reading_count u) list)) → ReadByDistance f p.n p.k p.d p.e row u list → JudgedByDistance f p entries row v list
names_keep_promises f p entries row list u v is promises =
    record {
      sets_lie_far_apart = promises.sets_lie_far_apart;
      at_most_one_set_is_near = promises.at_most_one_set_is_near;
      a_near_set_is_read = λ xs s near.
          let known = promises.a_near_set_is_read xs s near in
          (is ∙ (ap (λ w. with_names w (smallest_foreign entries (take (reading_count w) list))) known.0 ∙ ap (λ ys. by_names (smallest_foreign entries ys) (length xs)) known.1), known.1);
      no_near_set_is_no_reading = λ none. rw is (unread u (promises.no_near_set_is_no_reading none));
    }
  where
    unread : (w : unnamed.Verdict) → is_reading w ≡ false → rule (with_names w (smallest_foreign entries (take (reading_count w) list))) ≤ 2
    unread (told.Overload count) z = omega arith
    unread (told.Noise away) z = omega arith
    unread (told.Reading count) z = absurd (false≢true (sym z))
