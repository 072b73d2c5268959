use Rattle.std.proofs.Common.{◌≡◌, ◌∙◌, length, refl, rules, subst, sym}
use Rattle.std.proofs.lemmas.Str.{IsUtf8-from_ascii}
use Rattle.std.specs.Str.{IsUtf8}
use Rattle.bech32_encode.proofs.Encoding.{IsAscii-encoded}
use Rattle.codex32.specs.ShareParts.{ms}
use Rattle.codex32.proofs.ShareParts.{take_front}
use Rattle.codex32.proofs.encoding.text_in.Goals as goal

pub from_utf8_unchecked-requires : goal.from_utf8_unchecked-requires
from_utf8_unchecked-requires g c =
    let text = c.put_text.new.text in
    let room : length c.as_mut_slice.result.now ≡ c.in_ok-text.text.len = search rules in
    let long : length text ≡ c.in_ok-text.text.len = c.put_text.auto.text ∙ room in
    subst IsUtf8 (sym (take_front text _ c.in_ok-text.text.len long))
    (IsUtf8-from_ascii text (IsAscii-encoded g.Ck.Checksum.code ms c.args.elements.now text refl c.put_text.ensures))
