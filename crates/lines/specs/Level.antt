-- Level lines: rows of slots carried in levels, one a slot. Assumes nothing.
use Rattle.std.specs.Prelude.{◌≡◌, ℕ, ◌+◌, min, Bool, cond, List, map, length, take, drop, nat_lt, slice_index, slice_set, refl}
use Rattle.std.proofs.Common.{sym, ap, ◌∙◌, arith, length-take}
use Rattle.std.proofs.lemmas.List.{length-map}
use Rattle.lines.specs.Lines.{Laws, reaching}
use Rattle.lines.specs.declared.level.Level.{Level}

-- the row of the first 4,096 levels at most: a slot stands when its level is above 0
unfoldable pub level_row : List ℕ → List Bool
level_row levels = map (nat_lt 0) (take 4096 levels)

-- a level after its slot was driven, one more and 65,535 at most, or dropped, 0
abbrev pub level_put : ℕ → Bool → ℕ
level_put level b = cond b (min (level + 1) 65535) 0

-- the levels after a slot was driven or dropped: one level is written, and past the row none
abbrev pub level_after : List ℕ → ℕ → Bool → List ℕ
level_after levels s b = reaching (length (level_row levels)) s (slice_set levels s (level_put (slice_index levels s) b)) levels

-- what a level line means
abbrev pub level_means : Level → List Bool
level_means l = level_row l.levels.now

-- what no call on a level line alters: where its levels lie, how many there are, and the levels past the row
pub record LevelKept (was is : Level) : Type 0 where
  pub place : is.levels.ghost_name ≡ was.levels.ghost_name
  pub size : length is.levels.now ≡ length was.levels.now
  pub beyond : drop 4096 is.levels.now ≡ drop 4096 was.levels.now

-- the row has a slot for each level, and at most 4,096
pub level_length : (levels : List ℕ) → length (level_row levels) ≡ min 4096 (length levels)
unfolding level_row
level_length levels = length-map (take 4096 levels) (nat_lt 0) ∙ length-take 4096 levels

-- a level line keeps the laws
pub level_laws : Laws level_means LevelKept
level_laws = record {
  few = λ l. omega (arith, level_length l.levels.now);
  sized = λ l m k. level_length m.levels.now ∙ ap (min 4096) k.size ∙ sym (level_length l.levels.now);
  same = λ l. record { place = refl; size = refl; beyond = refl };
  onward = λ k l m p q. record { place = q.place ∙ p.place; size = q.size ∙ p.size; beyond = q.beyond ∙ p.beyond };
}
