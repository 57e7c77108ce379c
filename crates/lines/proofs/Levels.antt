-- What the calls of a level line give. Assumes nothing.
use Rattle.std.proofs.Common.{◌≡◌, ℕ, ◌<◌, true, false, ltb, List, map, length, get_or, take, set, refl, ap, ◌∙◌, arith, length-take}
use lib.Seq.{take-set-lt}
use denote.Ref.{at_last}
use Rattle.std.proofs.lemmas.List.{length-set, map-set, get_or-map, get_or-take, drop-set-lt}
use Rattle.std.proofs.lemmas.Bool.{lt-ltb}
use Rattle.lines.specs.Level.{level_row, level_means, LevelKept, level_length}
use Rattle.lines.specs.declared.level.Level.{Level}

-- the row has a slot written whose level was written
level_row_set : (levels : List ℕ) (s level : ℕ) → s < length (level_row levels) → level_row (set levels s level) ≡ set (level_row levels) s (ltb 0 level)
unfolding level_row
level_row_set levels s level within =
    ap (map (ltb 0)) (take-set-lt 4096 levels s level (omega (arith, level_length levels))) ∙ map-set (ltb 0) (take 4096 levels) s level

-- a slot stands whose level is above 0
pub level_row_driven : (levels : List ℕ) (s level : ℕ) → 0 < level → s < length (level_row levels) → level_row (set levels s level) ≡ set (level_row levels) s true
level_row_driven levels s level above within = level_row_set levels s level within ∙ ap (set (level_row levels) s) (lt-ltb 0 level above)

-- and is clear whose level is 0
pub level_row_dropped : (levels : List ℕ) (s : ℕ) → s < length (level_row levels) → level_row (set levels s 0) ≡ set (level_row levels) s false
level_row_dropped levels s within = level_row_set levels s 0 within

-- no other level is written
pub level_set_kept : (was : Level) (s level : ℕ) → s < length (level_means was) → LevelKept was (record { levels = at_last was.levels (set was.levels.now s level) })
level_set_kept was s level within = record {
  place = refl;
  size = length-set was.levels.now s level;
  beyond = drop-set-lt 4096 was.levels.now s level (omega (arith, level_length was.levels.now));
}

-- a slot of the row stands as its level tells
pub level_at : (levels : List ℕ) (s : ℕ) → s < length (level_row levels) → get_or (level_row levels) s false ≡ ltb 0 (get_or levels s 0)
unfolding level_row
level_at levels s h =
    get_or-map (ltb 0) (take 4096 levels) s 0 false (omega (arith, level_length levels, length-take 4096 levels))
    ∙ ap (ltb 0) (get_or-take 4096 levels s 0 (omega (arith, level_length levels)))

-- what the calls of a level line rest on
pub ruleset level_steps = (level_length, level_row_driven, level_row_dropped, level_at)
