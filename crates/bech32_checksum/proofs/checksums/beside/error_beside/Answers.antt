use Rattle.std.proofs.Common.{◌≡◌, ◌<◌, ◌%◌, sym, ap, ◌∙◌, arith}
use Rattle.bech32_gf.specs.Fe32 as fe32
use Rattle.bech32_checksum.specs.Syndromes.{error_sum}
use Rattle.bech32_checksum.proofs.Beside.{location_there, told}
use Rattle.bech32_checksum.proofs.Syndromes.{difference-lt, logarithm-le}
use Rattle.bech32_checksum.proofs.checksums.beside.error_beside.Goals.{else-lower-eq0-via-else-lower-eq0, else-lower-eq0-via-then-lower-eq0+else-upper-eq0}
use Rattle.bech32_checksum.proofs.checksums.beside.error_beside.Goals.{then-lower-eq0-2-via-else-lower-eq0-2+then-upper-eq0-2, then-lower-eq0-2-via-then-lower-eq0-2}
use Rattle.bech32_checksum.proofs.checksums.beside.error_beside.Goals as goal

pub returns-then-lower-eq0-2 : goal.returns-then-lower-eq0-2
returns-then-lower-eq0-2 c = λ v i w below left.
    let sums = c.sums_beside-lower.ensures in
    let tells = told c.args.residue.now c.args.location i c.sums_beside-lower.result.0 c.sums_beside-lower.result.1 v w c.requires.six left sums.below.0 sums.below.1 sums.lower sums.upper in
    let none : c.sums_beside-lower.result.0 ≡ 0 → c.sums_beside-lower.result.1 ≡ 0 = tells.none in
    let some : 0 < c.sums_beside-lower.result.0 → 0 < c.sums_beside-lower.result.1 = tells.some in
    elim c.then-lower-eq0-2.branch [
      | then-lower-eq0-2-via-then-lower-eq0-2 t ↦ elim c.else-lower-eq0.branch [
        | else-lower-eq0-via-then-lower-eq0+else-upper-eq0 e ↦
            let zero : c.sums_beside-lower.result.0 ≡ 0 = omega arith in
            let both = none zero in
            omega (arith, both)
        | else-lower-eq0-via-else-lower-eq0 e ↦ omega arith
      ]
      | then-lower-eq0-2-via-else-lower-eq0-2+then-upper-eq0-2 t ↦
          let positive : 0 < c.sums_beside-lower.result.0 = omega arith in
          let both = some positive in
          omega (arith, both)
    ]

pub overflow_sub-to : goal.overflow_sub-to
overflow_sub-to c = logarithm-le c.sums_beside-lower.result.0 _ c.sums_beside-lower.ensures.below.0

pub around-other-requires : goal.around-other-requires
around-other-requires c = difference-lt c.sums_beside-lower.result.1 c.sums_beside-lower.result.0 c.sums_beside-lower.ensures.below.1

pub returns-then-other-window : goal.returns-then-other-window
returns-then-other-window c = λ v i w below left.
    let sums = c.sums_beside-lower.ensures in
    let positive : 0 < c.sums_beside-lower.result.0 = omega arith in
    let inside : i < 1023 = omega (arith, below, c.requires.within) in
    let tells = told c.args.residue.now c.args.location i c.sums_beside-lower.result.0 c.sums_beside-lower.result.1 v w c.requires.six left sums.below.0 sums.below.1 sums.lower sums.upper in
    let there : c.around-other.result ≡ i =
    c.around-other.ensures ∙ location_there c.args.location i c.sums_beside-lower.result.0 c.sums_beside-lower.result.1 w inside positive sums.below.0 tells in
    omega (arith, there, below)

pub returns-then-value-ge32 : goal.returns-then-value-ge32
returns-then-value-ge32 c = λ v i w below left.
    let sums = c.sums_beside-lower.ensures in
    let positive : 0 < c.sums_beside-lower.result.0 = omega arith in
    let inside : i < 1023 = omega (arith, below, c.requires.within) in
    let tells = told c.args.residue.now c.args.location i c.sums_beside-lower.result.0 c.sums_beside-lower.result.1 v w c.requires.six left sums.below.0 sums.below.1 sums.lower sums.upper in
    let there : c.around-other.result ≡ i =
    c.around-other.ensures ∙ location_there c.args.location i c.sums_beside-lower.result.0 c.sums_beside-lower.result.1 w inside positive sums.below.0 tells in
    let value : c.value_beside-value.result ≡ w.value = c.value_beside-value.ensures w (tells.sum ∙ ap (error_sum w c.args.location) (sym there)) in
    omega (arith, value, w.in_field)

pub returns : goal.returns
returns c = (
  λ v i w below left.
      let sums = c.sums_beside-lower.ensures in
      let positive : 0 < c.sums_beside-lower.result.0 = omega arith in
      let inside : i < 1023 = omega (arith, below, c.requires.within) in
      let tells = told c.args.residue.now c.args.location i c.sums_beside-lower.result.0 c.sums_beside-lower.result.1 v w c.requires.six left sums.below.0 sums.below.1 sums.lower sums.upper in
      let there : c.around-other.result ≡ i =
      c.around-other.ensures ∙ location_there c.args.location i c.sums_beside-lower.result.0 c.sums_beside-lower.result.1 w inside positive sums.below.0 tells in
      let value : c.value_beside-value.result ≡ w.value = c.value_beside-value.ensures w (tells.sum ∙ ap (error_sum w c.args.location) (sym there)) in
      let low : c.value_beside-value.result % 32 ≡ w.value = omega (arith, value, w.in_field) in
      (there, c.from_low_bits.ensures ∙ fe32.path (fe32.element c.value_beside-value.result) w low),
  omega (arith, c.if-other-window.false),
)
