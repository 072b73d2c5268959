use Rattle.std.proofs.Common.{◌≡◌, ◌∙◌, ℕ, List, length, refl, arith}
use Rattle.std.proofs.lemmas.List.{length-map}
use Rattle.bech32_gf.specs.Fe32.{element}
use Rattle.bech32_encode.specs.TextLength.{encoded_length_of}
use Rattle.bech32.specs.Elements.{elements_in}
use Rattle.bech32.proofs.Values.{same_lengths}
use Rattle.bech32.proofs.elements.elements_length.Goals as goal

pub returns-then-encoded_length-CODE_LENGTH : goal.returns-then-encoded_length-CODE_LENGTH
returns-then-encoded_length-CODE_LENGTH g c =
    let k = g.Ck.Checksum in
    let size = g.met.Ck.Checksum.code_length_law in
    let degree = g.met.Ck.Checksum.degree_law in
    let count = length-map c.args.values.now element in
    let same : c.saturating_add-encoded_length.result ≡ encoded_length_of k.code c.args.part.now (elements_in c.args.values.now) = omega arith in
    let limit : c.CODE_LENGTH-then-encoded_length-CODE_LENGTH.result ≡ k.code.code_length = omega arith in
    (omega arith, same_lengths _ _ _ _ same limit)

pub returns : goal.returns
returns g c =
    let k = g.Ck.Checksum in
    let size = g.met.Ck.Checksum.code_length_law in
    let degree = g.met.Ck.Checksum.degree_law in
    let count = length-map c.args.values.now element in
    (omega arith, omega arith)
