-- The bytes that are moved stand at the front. Assumes nothing.
use Rattle.std.proofs.Common.{◌≡◌, ℕ, ◌-◌, ◌≤◌, List, length, take, drop, ap, ◌∙◌, zero-add, arith, length-drop, take_at, rules}
use lib.Seq.{paste, length_paste_head}
use Rattle.bench.proofs.buffer.Buffer.move_to_front.Goals as goal

-- what is pasted at the front stands there
pasted_front : (d s : List ℕ) (n : ℕ) → n ≤ length s → take n (paste d 0 s n) ≡ take n s
pasted_front d s n h = take_at (take n s) _ n (length_paste_head d 0 s n (omega arith) h ∙ zero-add n)

pub returns : goal.returns
returns c =
    let size : c.args.end - c.args.start ≤ length (drop c.args.start c.args.self.now.bytes) = rw length-drop (search rules) in
    ap (take (c.args.end - c.args.start)) c.copy_within.ensures.after ∙ pasted_front _ _ _ size
