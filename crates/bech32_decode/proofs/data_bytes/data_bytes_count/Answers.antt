use Rattle.std.proofs.Common.{arith}
use Rattle.std.proofs.lemmas.List.{length-map}
use Rattle.bech32_gf.specs.Fe32.{element_of, elements_of}
use Rattle.bech32_bits.proofs.RoundTrip.{length-to_bytes}
use Rattle.bech32_decode.proofs.data_bytes.data_bytes_count.Goals as goal

pub returns : goal.returns
returns c =
    let characters = c.args.characters.now in
    omega (arith, length-to_bytes (elements_of characters), length-map characters element_of)
