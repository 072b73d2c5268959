use Rattle.std.proofs.Common.{◌≡◌, ◌∷◌, ◌∙◌, length, length-append, take, refl, ap, arith, rules}
use Rattle.bech32_bits.specs.Bits.{to_fes}
use Rattle.bech32_bits.proofs.RoundTrip.{length-to_fes}
use Rattle.bech32_checksum.proofs.Uniqueness.{length-encoded}
use Rattle.bech32_encode.proofs.TextPieces.{put_whole}
use Rattle.blech32.specs.Words.{blech32_code}
use Rattle.liquid.proofs.Written.{lower-from_text}
use Rattle.liquid.proofs.writing.put_address.Goals as goal

pub returns : goal.returns
returns c =
    let part = c.args.part.now in
    let version = c.args.witness_version in
    let key = c.args.blinding_key.now in
    let program = c.args.program.now in
    let payload = take c.payload_of-size.result.1 c.payload_of-size.result.0 in
    let (written, is, put) = c.put_text_of_part.ensures in
    let of_key : length key ≡ 33 = search rules in
    let twelve : length blech32_code.generator ≡ 12 = refl in
    let size = length-encoded blech32_code part (version ∷ to_fes payload) written is in
    let elements = length-to_fes payload in
    let both = ap length c.payload_of-size.ensures.bytes ∙ length-append key program in (
      written,
      lower-from_text blech32_code part version key program payload written c.requires.lawful of_key c.payload_of-size.ensures.bytes is,
      put_whole written c.args.text.now c.put_text_of_part.new.buffer c.put_text_of_part.result put (omega (arith, twelve, size, elements, both, of_key, c.requires.room)),
    )
