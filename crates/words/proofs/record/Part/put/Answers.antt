-- A value that fits its part loses no bit when it is moved there.
use Rattle.std.proofs.Common.{◌≡◌, ◌+◌, ◌-◌, ◌*◌, ◌%◌, ◌^◌, ap, ◌∙◌, arith}
use Rattle.std.proofs.lemmas.Nat.{shl_whole}
use Rattle.words.proofs.record.Part.put.Goals as goal

pub returns : goal.returns
returns c =
    let self = c.args.self in
    let up : (32 - self.place) - self.width ≡ 32 - (self.place + self.width) = omega arith in
    ap (λ e. (c.args.value * 2 ^ e) % 4294967296) up ∙ shl_whole c.args.value self.width (32 - (self.place + self.width)) 32 c.requires.fits (omega arith)
