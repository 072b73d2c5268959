use lib.Count.{count_trailing_zeros}
use Rattle.std.proofs.Common.{◌≡◌, ◌<◌, ◌∷◌, ◌++◌, [], ℕ, arith, rules, w64}
use Rattle.std.proofs.lemmas.Nat.Bits.{bit_at-trailing_zeros}
use Rattle.bech32_near.specs.search.Sketch.{cleared_by}
use Rattle.bech32_near.proofs.Sketches.{forgotten}
use Rattle.bech32_near.proofs.search.sketch.push_row.Goals as goal

pub returns : goal.returns
returns g c =
    let left : ℕ = c.cleared_by-left.result in
    let some : 0 < left = omega (arith, c.if-left-eq0.false) in
    let bit = bit_at-trailing_zeros w64 left some (omega arith) in
    let is : left ≡ cleared_by c.args.rows.now.items c.args.number = search rules in
    let pushed : c.push.new.self.items ≡ c.args.rows.now.items ++ (count_trailing_zeros 64 left, left) ∷ [] = search rules in
    forgotten c.args.rows.now.items c.push.new.self.items c.args.number left (count_trailing_zeros 64 left) is bit.0 bit.1 pushed
