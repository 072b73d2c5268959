use Rattle.std.proofs.Common.{◌∙◌, ap, arith, refl}
use Rattle.bech32_bits.specs.Bits.{fes_count}
use Rattle.bech32_encode.proofs.Encoding.{text_length-is}
use Rattle.bech32_encode.specs.TextLength.{text_length_of}
use Rattle.b32_replies.proofs.encode.length_of.Goals as goal

pub returns-then-count-CODE_LENGTH-clause-value : goal.returns-then-count-CODE_LENGTH-clause-value
returns-then-count-CODE_LENGTH-clause-value g c = λ bytes size.
    let k = g.Ck.Checksum in
    let limit = g.met.Ck.Checksum.code_length_law in
    let long = text_length-is k.code k.CHECKSUM_LENGTH g.met.Ck.Checksum.degree_law c.args.hrp.now bytes in
    let same = c.text_length_of_part-count.ensures ∙ ap (λ n. text_length_of k.CHECKSUM_LENGTH c.args.hrp.now (fes_count 0 n)) size ∙ long in
    let bound = c.CODE_LENGTH.ensures in
    (omega arith, refl)

pub returns-clause-value : goal.returns-clause-value
returns-clause-value g c = λ bytes size.
    let k = g.Ck.Checksum in
    let limit = g.met.Ck.Checksum.code_length_law in
    let long = text_length-is k.code k.CHECKSUM_LENGTH g.met.Ck.Checksum.degree_law c.args.hrp.now bytes in
    let same = c.text_length_of_part-count.ensures ∙ ap (λ n. text_length_of k.CHECKSUM_LENGTH c.args.hrp.now (fes_count 0 n)) size ∙ long in
    let bound = c.CODE_LENGTH.ensures in
    (same, omega arith)

pub returns-clause-fits : goal.returns-clause-fits
returns-clause-fits g c =
    let limit = g.met.Ck.Checksum.code_length_law in
    (omega (arith, limit, c.CODE_LENGTH.ensures, c.requires, c.text_length_of_part-count.ensures), omega (arith, limit, c.CODE_LENGTH.ensures, c.requires, c.text_length_of_part-count.ensures))
