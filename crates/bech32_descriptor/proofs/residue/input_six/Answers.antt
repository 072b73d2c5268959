use Rattle.std.proofs.Common.{◌≡◌, ◌<◌, ◌+◌, ◌*◌, ◌^◌, ◌∙◌, ℕ, List, ap, subst, arith}
use Rattle.bech32_gf.specs.declared.gf32.Fe32.{Fe32 as Element}
use Rattle.bech32_checksum.specs.Code.{IsResidueAfter}
use Rattle.bech32_checksum.specs.Word.{word_elements}
use Rattle.bech32_descriptor.specs.Code.{descriptor}
use Rattle.bech32_descriptor.specs.Words.{number_of_three}
use Rattle.bech32_descriptor.proofs.ThreeParts.{six_elements}
use Rattle.bech32_descriptor.proofs.residue.input_six.Goals as goal

pub input_word-requires : goal.input_word-requires
input_word-requires c = omega (arith, c.word_of_three.ensures.below, c.word_of_three-2.ensures.below)

pub returns : goal.returns
returns c =
    let a : c.args.a < 256 = omega arith in
    let b : c.args.b < 256 = omega arith in
    let d : c.args.c < 256 = omega arith in
    let e : c.args.d < 256 = omega arith in
    let f : c.args.e < 256 = omega arith in
    let h : c.args.f < 256 = omega arith in
    let word : c.word_of_three.result * 2 ^ 20 + c.word_of_three-2.result ≡ number_of_three c.args.a c.args.b c.args.c * 2 ^ 20 + number_of_three c.args.d c.args.e c.args.f =
    λ i. c.word_of_three.ensures.value i * 2 ^ 20 + c.word_of_three-2.ensures.value i in
    subst (λ (l : List Element). IsResidueAfter (λ (x : ℕ). x) descriptor c.args.engine.now l c.input_word.new.self)
    (ap word_elements word ∙ six_elements c.args.a c.args.b c.args.c c.args.d c.args.e c.args.f a b d e f h) c.input_word.ensures
