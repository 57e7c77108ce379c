-- A mask of so many ones takes the remainder.
use Rattle.std.proofs.Common.{◌≡◌, ◌+◌, ◌-◌, ◌/◌, ◌^◌, ◌∙◌, ap₂, arith}
use lib.Bits.{bit_and, and_mask}
use Rattle.std.proofs.lemmas.Nat.{one_shl}
use Rattle.words.proofs.record.Part.held.Goals as goal

pub returns : goal.returns
returns c =
    let self = c.args.self in
    let down : (32 - self.place) - self.width ≡ 32 - (self.place + self.width) = omega arith in
    ap₂ (λ e m. bit_and (c.args.bits / 2 ^ e) (m - 1)) down (one_shl self.width 32 (omega arith))
    ∙ and_mask (c.args.bits / 2 ^ (32 - (self.place + self.width))) self.width
