use Rattle.std.proofs.Common.{◌≡◌, ◌∙◌, ◌∷◌, ◌+◌, List, length, map, ap, drop, arith, subst, sym}
use Rattle.std.proofs.lemmas.List.{length-map, take_at}
use Rattle.std.proofs.lemmas.Str.{IsUtf8-from_ascii}
use Rattle.std.proofs.lemmas.Str.Ascii.{IsAscii-cons}
use Rattle.std.specs.Str.{IsAscii, IsUtf8}
use Rattle.bech32_gf.specs.declared.gf32.Fe32.{Fe32}
use Rattle.bech32_checksum.specs.Encoded.{char_of_element}
use Rattle.bech32_encode.proofs.Encoding.{IsAscii-characters}
use Rattle.codex32_steady.proofs.texts.text.spelled_in.Goals as goal

ascii : (es : List Fe32) → IsAscii (109 ∷ 115 ∷ 49 ∷ map char_of_element es)
ascii es =
    IsAscii-cons 109 (115 ∷ 49 ∷ map char_of_element es) (omega arith)
    (IsAscii-cons 115 (49 ∷ map char_of_element es) (omega arith) (IsAscii-cons 49 (map char_of_element es) (omega arith) (IsAscii-characters es)))

pub from_utf8_unchecked-requires : goal.from_utf8_unchecked-requires
from_utf8_unchecked-requires g c =
    let es = c.args.elements.now in
    let size : c.in_ok-text.text.len ≡ 3 + length es = c.in_ok-text.ensures.len in
    let made : c.put_spelled.new.text ≡ 109 ∷ 115 ∷ 49 ∷ map char_of_element es = c.put_spelled.ensures in
    let long : length c.put_spelled.new.text ≡ c.in_ok-text.text.len = let k = ap length made in omega (arith, k, length-map es char_of_element, size) in
    subst IsUtf8 (sym (take_at c.put_spelled.new.text (drop (length c.put_spelled.new.text) c.in_ok-text.text.items) c.in_ok-text.text.len long ∙ made))
    (IsUtf8-from_ascii (109 ∷ 115 ∷ 49 ∷ map char_of_element es) (ascii es))
