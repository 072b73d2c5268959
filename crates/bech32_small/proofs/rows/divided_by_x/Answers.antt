use Rattle.std.proofs.Common.{◌≡◌, ◌<◌, ◌/◌, ◌%◌, ◌^◌, ℕ, get_or, refl, ap, subst, sym, ◌∙◌, arith, bit_xor}
use Rattle.std.specs.Int.Bits.{xor_assoc, xor_zero_r}
use Rattle.bech32_gf.specs.Fe32.{ops}
use Rattle.bech32_poly.specs.Remainder.{IsRemainder}
use Rattle.bech32_checksum.specs.Code.{bech32m}
use Rattle.bech32_checksum.specs.Packed.{digits, sum_of_words}
use Rattle.bech32_checksum.proofs.PartialProduct.{word-added, word-kept}
use Rattle.bech32_small.specs.declared.rows.TheConstants.{DIVIDED}
use Rattle.bech32_small.proofs.DividedByX.{after_divided, before_divided, divided, divided-lt}
use Rattle.bech32_small.proofs.rows.divided_by_x.Goals as goal
use Rattle.bech32_small.proofs.rows.divided_by_x.Goals.{then-low-i-eq1, else-low-i-eq1}

abbrev word : ℕ → ℕ
word i = get_or DIVIDED i 0

pub loop-i-init : goal.loop-i-init
loop-i-init c = sym (xor_zero_r (c.args.row / 32))

pub loop-i-preserved : goal.loop-i-preserved
loop-i-preserved c = elim c.if-low-i-eq1.branch [
  | then-low-i-eq1 w ↦
      let i : ℕ = c.loop-i.i in
      let sum : ℕ = sum_of_words word i (c.args.row % 32) in
      w.divided-is ∙ ap (λ m. bit_xor m (word i)) c.loop-i.invariant ∙ xor_assoc (c.args.row / 32) sum (word i)
      ∙ ap (bit_xor (c.args.row / 32)) (word-added word i (c.args.row % 32) sum (bit_xor sum (word i)) w.if-low-i-eq1.true refl refl)
  | else-low-i-eq1 w ↦
      let i : ℕ = c.loop-i.i in
      w.divided-is ∙ c.loop-i.invariant
      ∙ ap (bit_xor (c.args.row / 32)) (word-kept word i (c.args.row % 32) (sum_of_words word i (c.args.row % 32)) w.if-low-i-eq1.false refl)
]

-- what is left of the row behind the last of the five words
whole : (row i value : ℕ) → value ≡ bit_xor (row / 32) (sum_of_words word i (row % 32)) → i ≡ 5 → value ≡ divided row
whole row i value is end = is ∙ ap (λ n. bit_xor (row / 32) (sum_of_words word n (row % 32))) end

pub returns-clause-clear : goal.returns-clause-clear
returns-clause-clear c =
    let same = whole c.args.row c.loop-i.i c.loop-i.divided c.loop-i.invariant (omega arith) in
    subst (λ n. n < 2 ^ 30) (sym same) (divided-lt c.args.row c.requires)

pub returns-clause-after : goal.returns-clause-after
returns-clause-after c p h =
    let same = whole c.args.row c.loop-i.i c.loop-i.divided c.loop-i.invariant (omega arith) in
    after_divided c.args.row p c.requires (subst (λ n. IsRemainder ops bech32m.generator p (digits 6 n)) same h)

pub returns-clause-before : goal.returns-clause-before
returns-clause-before c p h =
    let same = whole c.args.row c.loop-i.i c.loop-i.divided c.loop-i.invariant (omega arith) in
    subst (λ n. IsRemainder ops bech32m.generator p (digits 6 n)) (sym same) (before_divided c.args.row p c.requires h)
