use Rattle.lines.proofs.stride.+greatest_common_divisor.Given as goal

abbrev pub decreases-greatest_common_divisor : goal.decreases-greatest_common_divisor
decreases-greatest_common_divisor l = l.n
