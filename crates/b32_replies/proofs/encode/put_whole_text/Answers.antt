use Rattle.std.proofs.Common.{List, ℕ, ◌++◌, option_to_list, sym, subst, arith}
use Rattle.bech32_bits.specs.Bits.{to_fes}
use Rattle.bech32_checksum.specs.Encoded.{IsEncodedText}
use Rattle.bech32_checksum.proofs.Uniqueness.{length-encoded}
use Rattle.b32_replies.proofs.Sizes.{put_exactly}
use Rattle.b32_replies.proofs.encode.put_whole_text.Goals as goal

pub returns : goal.returns
returns g c =
    let code = g.Ck.Checksum.code in
    let hrp = c.args.hrp.now in
    let elements = option_to_list c.args.version ++ to_fes c.args.bytes.now in
    let (text, is, put) = c.put_text_of_part.ensures in
    let size = length-encoded code hrp elements text is in
    subst (λ (t : List ℕ). IsEncodedText code hrp elements t)
    (sym (put_exactly text c.args.buffer.now c.put_text_of_part.new.buffer c.put_text_of_part.result put (omega (arith, size, c.requires.size, c.requires.short))))
    is
