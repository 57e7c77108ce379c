use Rattle.std.proofs.Common.{◌≡◌, ◌+◌, ◌*◌, ◌≤◌, ◌++◌, take}
use Rattle.std.specs.List.{flat_map}
use Rattle.arrayvec.specs.ArrayString.{array_string_len}
use Rattle.register.specs.Texts.{field}
use Rattle.register.proofs.text.Told.line.Given as goal

-- the fields of the numbers so far are added
abbrev pub invariant-loop-number : goal.invariant-loop-number
invariant-loop-number l = record {
  added : l.line.bytes ≡ l.initial.line.bytes ++ flat_map field (take l.number-index l.self.numbers.now);
  short : array_string_len l.line ≤ 13 + 6 * l.number-index;
}
