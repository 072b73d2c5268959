use Rattle.std.proofs.Common.{◌≡◌, ◌≢◌, ◌∙◌, ◌++◌, ◌-◌, ◌^◌, length, ap, drop, option_to_list, string_bytes, vec_items, refl, rules, arith, subst, sym}
use Rattle.std.proofs.lemmas.Str.{IsUtf8-from_ascii}
use Rattle.std.specs.Str.{IsUtf8}
use Rattle.bech32_bits.specs.Bits.{to_fes}
use Rattle.bech32_hrp.specs.HrpBytes.{hrp_bytes}
use Rattle.bech32_hrp.proofs.HrpParts.{hrp_bytes-ascii}
use Rattle.bech32_encode.proofs.TextPieces.{put_whole}
use Rattle.bech32_encode.proofs.Encoding.{IsEncodedText-same, IsAscii-encoded, text_fills}
use Rattle.bech32_encode.proofs.text.encode_text.Goals as goal

pub from_utf8_unchecked-requires : goal.from_utf8_unchecked-requires
from_utf8_unchecked-requires g c =
    let k = g.Ck.Checksum in
    let hrp = hrp_bytes c.args.hrp in
    let fes = to_fes c.args.data.now in
    let (text, is, put) = c.put_text_of_bytes.ensures in
    let room : length c.as_mut_slice.result.now ≡ c.in_ok-text.text.len = search rules in
    let size : c.in_ok-text.text.len ≡ c.args.size = c.in_ok-text.ensures.len in
    let small = c.in_ok-text.text.small in
    let ok = c.in_ok-text.text.ok in
    let less : c.in_ok-text.text.len ≢ 2 ^ 64 - 1 = λ e. omega arith in
    let filled = text_fills k.code k.CHECKSUM_LENGTH g.met.Ck.Checksum.degree_law
    hrp c.args.data.now c.args.version fes text c.as_mut_slice.result.now c.put_text_of_bytes.new.buffer (drop (length c.put_text_of_bytes.new.buffer) c.in_ok-text.text.items) c.put_text_of_bytes.result c.in_ok-text.text.len
    refl is (size ∙ c.requires) less room (put_whole text c.as_mut_slice.result.now c.put_text_of_bytes.new.buffer c.put_text_of_bytes.result put) in
    subst IsUtf8 (sym filled) (IsUtf8-from_ascii text (IsAscii-encoded k.code hrp (option_to_list c.args.version ++ fes) text (hrp_bytes-ascii c.args.hrp) is))

pub returns : goal.returns
returns g c =
    let k = g.Ck.Checksum in
    let hrp = hrp_bytes c.args.hrp in
    let fes = to_fes c.args.data.now in
    let (text, is, put) = c.put_text_of_bytes.ensures in
    let room : length c.as_mut_slice.result.now ≡ c.in_ok-text.text.len = search rules in
    let size : c.in_ok-text.text.len ≡ c.args.size = c.in_ok-text.ensures.len in
    let small = c.in_ok-text.text.small in
    let ok = c.in_ok-text.text.ok in
    let less : c.in_ok-text.text.len ≢ 2 ^ 64 - 1 = λ e. omega arith in
    let filled = text_fills k.code k.CHECKSUM_LENGTH g.met.Ck.Checksum.degree_law
    hrp c.args.data.now c.args.version fes text c.as_mut_slice.result.now c.put_text_of_bytes.new.buffer (drop (length c.put_text_of_bytes.new.buffer) c.in_ok-text.text.items) c.put_text_of_bytes.result c.in_ok-text.text.len
    refl is (size ∙ c.requires) less room (put_whole text c.as_mut_slice.result.now c.put_text_of_bytes.new.buffer c.put_text_of_bytes.result put) in
    let held : string_bytes c.from_utf8_unchecked.result ≡ _ = ap vec_items c.from_utf8_unchecked.ensures.value in
    IsEncodedText-same k.code hrp hrp (option_to_list c.args.version ++ fes) (option_to_list c.args.version ++ fes) text _ refl refl (sym (held ∙ filled)) is
