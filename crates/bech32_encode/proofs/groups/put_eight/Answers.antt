use Rattle.std.proofs.Common.{◌≡◌, ◌≤◌, ◌<◌, ◌∙◌, ◌+◌, ◌++◌, ℕ, length, take, drop, ap, arith}
use Rattle.bech32_encode.proofs.WholeGroups.{puts_at_once}
use Rattle.bech32_encode.proofs.groups.put_eight.Goals as goal

pub returns : goal.returns
returns c =
    let long : length c.args.bytes ≡ 8 = omega arith in
    let room : c.args.count + length c.args.bytes ≤ length c.args.buffer.now = omega arith in
    let after : c.args.count + 8 ≡ c.args.count + length c.args.bytes = omega arith in
    let some : 0 < length c.args.bytes = omega arith in
    let made = c.set_eight.ensures ∙ ap (λ (k : ℕ). take c.args.count c.args.buffer.now ++ (c.args.bytes ++ drop k c.args.buffer.now)) after in
    puts_at_once c.args.bytes c.args.buffer.now c.set_eight.new.buffer c.args.count (c.args.count + 8) room after made some
