use Rattle.std.proofs.Common.{◌≡◌, ℕ, ◌<◌, get_or, None}
use Rattle.register.specs.Racks.{numbered}
use Rattle.register.proofs.register.numbered.Register+Extension.numbered.Given as goal

-- the entries so far bear their numbers
abbrev pub invariant-loop-number : goal.invariant-loop-number
invariant-loop-number l = (i : ℕ) → i < l.number → get_or l.entries i None ≡ numbered l.frame i
