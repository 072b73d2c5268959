use Rattle.std.proofs.lemmas.Str.{IsUtf8-from_ascii}
use Rattle.bech32_correction.proofs.Ascii.{ascii_text}
use Rattle.bech32_near.proofs.texts.text_of.Goals as goal

pub from_utf8_unchecked-requires : goal.from_utf8_unchecked-requires
from_utf8_unchecked-requires g c =
    let s = c.args.reading.now in
    IsUtf8-from_ascii s.text.now (ascii_text s.text.now s.hrp.now s.data_part.now s.is_reading.grammar)
