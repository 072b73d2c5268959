use Rattle.std.proofs.Common.{◌≡◌, ◌≢◌, ◌∙◌, ◌-◌, ◌^◌, ap, length, drop, string_bytes, vec_items, refl, rules, arith, subst, sym}
use Rattle.std.proofs.lemmas.Str.{IsUtf8-from_ascii}
use Rattle.std.specs.Str.{IsUtf8}
use Rattle.bech32_hrp.specs.HrpBytes.{hrp_bytes}
use Rattle.bech32_hrp.proofs.HrpParts.{hrp_bytes-ascii}
use Rattle.bech32_encode.proofs.TextPieces.{put_whole}
use Rattle.bech32_encode.proofs.Encoding.{IsEncodedText-same, IsAscii-encoded}
use Rattle.bech32.specs.Elements.{elements_in}
use Rattle.bech32.proofs.Values.{elements_fill}
use Rattle.bech32.proofs.elements.text_of_length_in.Goals as goal

pub from_utf8_unchecked-requires : goal.from_utf8_unchecked-requires
from_utf8_unchecked-requires g c =
    let k = g.Ck.Checksum in
    let hrp = hrp_bytes c.args.hrp in
    let fes = elements_in c.args.values.now in
    let (text, is, put) = c.put_text_of_elements.ensures in
    let room : length c.as_mut_slice.result.now ≡ c.in_ok-text.text.len = search rules in
    let size : c.in_ok-text.text.len ≡ c.args.size = c.in_ok-text.ensures.len in
    let small = c.in_ok-text.text.small in
    let ok = c.in_ok-text.text.ok in
    let less : c.in_ok-text.text.len ≢ 2 ^ 64 - 1 = λ e. omega arith in
    let filled = elements_fill k.code hrp fes text c.as_mut_slice.result.now c.put_text_of_elements.new.buffer
    (drop (length c.put_text_of_elements.new.buffer) c.in_ok-text.text.items) c.put_text_of_elements.result c.in_ok-text.text.len
    is (size ∙ c.requires) less room (put_whole text c.as_mut_slice.result.now c.put_text_of_elements.new.buffer c.put_text_of_elements.result put) in
    subst IsUtf8 (sym filled) (IsUtf8-from_ascii text (IsAscii-encoded k.code hrp fes text (hrp_bytes-ascii c.args.hrp) is))

pub returns : goal.returns
returns g c =
    let k = g.Ck.Checksum in
    let hrp = hrp_bytes c.args.hrp in
    let fes = elements_in c.args.values.now in
    let (text, is, put) = c.put_text_of_elements.ensures in
    let room : length c.as_mut_slice.result.now ≡ c.in_ok-text.text.len = search rules in
    let size : c.in_ok-text.text.len ≡ c.args.size = c.in_ok-text.ensures.len in
    let small = c.in_ok-text.text.small in
    let ok = c.in_ok-text.text.ok in
    let less : c.in_ok-text.text.len ≢ 2 ^ 64 - 1 = λ e. omega arith in
    let filled = elements_fill k.code hrp fes text c.as_mut_slice.result.now c.put_text_of_elements.new.buffer
    (drop (length c.put_text_of_elements.new.buffer) c.in_ok-text.text.items) c.put_text_of_elements.result c.in_ok-text.text.len
    is (size ∙ c.requires) less room (put_whole text c.as_mut_slice.result.now c.put_text_of_elements.new.buffer c.put_text_of_elements.result put) in
    let held : string_bytes c.from_utf8_unchecked.result ≡ _ = ap vec_items c.from_utf8_unchecked.ensures.value in
    IsEncodedText-same k.code hrp hrp fes fes text _ refl refl (sym (held ∙ filled)) is
