-- A number below 100000 has at most five digits.
use Rattle.std.proofs.Common.{length, ap, arith, rules}
use Rattle.std.proofs.lemmas.Fmt.{length-decimal-le}
use Rattle.std.proofs.lemmas.List.{length_push}
use Rattle.register.proofs.text.push_field.Goals as goal

pub push_str-requires : goal.push_str-requires
push_str-requires c =
    let digits = length-decimal-le 5 c.args.number (omega arith) (omega arith) (omega arith) in
    let blank = ap length (c.push.ensures.ascii (omega arith)) in
    (search rules, omega (arith, digits, blank, ap length c.format.ensures.text, length_push c.args.line.now.bytes 32))

pub returns-clause-short : goal.returns-clause-short
returns-clause-short c =
    let digits = length-decimal-le 5 c.args.number (omega arith) (omega arith) (omega arith) in
    let blank = ap length (c.push.ensures.ascii (omega arith)) in
    omega (arith, digits, blank, ap length c.format.ensures.text, length_push c.args.line.now.bytes 32, c.push_str.ensures.len)
