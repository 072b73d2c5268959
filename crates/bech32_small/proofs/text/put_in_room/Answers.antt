use Rattle.std.proofs.Common.{◌≡◌, ◌++◌, ◌∙◌, ℕ, List, ap, arith, length, option_to_list, subst, sym}
use Rattle.std.specs.Iterator.Adapters.{copied_steps}
use Rattle.std.specs.Slice.Iter.{iter_rest, iter_steps}
use Rattle.bech32_gf.specs.declared.gf32.Fe32.{Fe32}
use Rattle.bech32_bits.specs.Bits.{to_fes}
use Rattle.bech32_bits.proofs.ListSources.{ShowsRest-copied, copied_rest, drains-rest}
use Rattle.bech32_checksum.specs.Encoded.{IsEncodedText}
use Rattle.bech32_checksum.proofs.Uniqueness.{length-encoded}
use Rattle.bech32_encode.proofs.TextPieces.{put_whole}
use Rattle.bech32_small.proofs.text.put_in_room.Goals as goal

pub returns : goal.returns
returns c code has =
    let part = c.args.part.now in
    let version = option_to_list c.args.version in
    let elements : List Fe32 = version ++ to_fes c.args.bytes.now in
    let (fes, walked, (written, is_text, put)) = c.put_text.ensures code has in
    let (taken, inside, behind) = c.new-elements.ensures.walk fes walked in
    let (bytes, read, are) = c.bytes_to_fes.ensures.walk taken inside in
    let given = drains-rest (copied_steps iter_steps) copied_rest ShowsRest-copied c.copied.result bytes read in
    let items = sym given ∙ ap iter_rest c.copied.ensures.source ∙ c.iter.ensures.rest in
    let all : fes ≡ elements = behind ∙ ap (λ (l : List Fe32). version ++ l) (are ∙ ap to_fes items) in
    let is = subst (λ (l : List Fe32). IsEncodedText code part l written) all is_text in
    let six : length code.generator ≡ 6 = ap (λ (l : List Fe32). length l) has.generator in
    let size = length-encoded code part elements written is in
    let room = c.requires in
    (written, is, put_whole written c.args.text.now c.put_text.new.buffer c.put_text.result put (omega arith))
