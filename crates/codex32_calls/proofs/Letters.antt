-- Texts of the grammar are ASCII.
use Rattle.std.proofs.Common.{◌≡◌, ◌<◌, ℕ, true, List, [], ◌∷◌, ◌++◌, leb, leb-true, sym, subst, arith}
use Rattle.std.proofs.lemmas.Bool.{and_parts}
use Rattle.std.proofs.lemmas.Str.{IsUtf8-append, IsUtf8-from_ascii}
use Rattle.std.proofs.lemmas.Str.Ascii.{IsAscii-nil, IsAscii-cons}
use Rattle.std.specs.List.{list_all}
use Rattle.std.specs.Str.{IsAscii, IsUtf8}
use Rattle.bech32_hrp.specs.Hrp.{IsHrp, is_graphic}
use Rattle.bech32_decode.specs.Text.{IsText}
use Rattle.codex32.specs.Strings.{IsCodex32}
use Rattle.bech32_decode.proofs.Letters.{IsAscii-from_data}

ascii-from_graphic : (b : ℕ) → is_graphic b ≡ true → b < 128
ascii-from_graphic b h = let parts = and_parts (leb 33 b) (leb b 126) h in omega (arith, leb-true b 126 parts.1)

IsAscii-from_graphic : (bytes : List ℕ) → list_all is_graphic bytes ≡ true → IsAscii bytes
IsAscii-from_graphic [] h = IsAscii-nil
IsAscii-from_graphic (b ∷ bs) h =
    let parts = and_parts (is_graphic b) (list_all is_graphic bs) h in
    IsAscii-cons b bs (ascii-from_graphic b parts.0) (IsAscii-from_graphic bs parts.1)

pub IsUtf8-from_hrp : (bytes : List ℕ) → IsHrp bytes → IsUtf8 bytes
IsUtf8-from_hrp bytes is = IsUtf8-from_ascii bytes (IsAscii-from_graphic bytes is.graphic)

pub IsUtf8-from_text : (text hrp data_part : List ℕ) → IsText text hrp data_part → IsUtf8 text
IsUtf8-from_text text hrp data_part is =
    subst IsUtf8 (sym is.split)
    (IsUtf8-append hrp (49 ∷ data_part) (IsUtf8-from_hrp hrp is.is_hrp)
    (IsUtf8-from_ascii (49 ∷ data_part) (IsAscii-cons 49 data_part (omega arith) (IsAscii-from_data data_part is.data_bytes))))

pub IsUtf8-from_codex32 : (text : List ℕ) → IsCodex32 text → IsUtf8 text
IsUtf8-from_codex32 text (hrp, threshold, identifier, share_index, payload, checksum, is) =
    IsUtf8-from_text text hrp (threshold ∷ (identifier ++ (share_index ∷ (payload ++ checksum)))) is.accepted.grammar
