-- Texts of the grammar are ASCII, and human-readable parts are not refused.
use Rattle.std.proofs.Common.{◌≡◌, ◌<◌, ℕ, true, List, [], ◌∷◌, leb, leb-true, sym, subst, arith}
use Rattle.std.proofs.lemmas.Bool.{and_parts}
use Rattle.std.proofs.lemmas.Str.{IsUtf8-append, IsUtf8-from_ascii}
use Rattle.std.proofs.lemmas.Str.Ascii.{IsAscii-nil, IsAscii-cons}
use Rattle.std.specs.List.{list_all}
use Rattle.std.specs.Str.{IsAscii, IsUtf8}
use Rattle.bech32_hrp.specs.Hrp.{IsHrp, is_graphic}
use Rattle.bech32_hrp.proofs.HrpTexts.{hrp_refusal-none}
use Rattle.bech32_decode.specs.Text.{IsText}
use Rattle.bech32_decode.proofs.Letters.{IsAscii-from_data}
use Rattle.bech32_calls.specs.Faults.{IsPartFault}
use Rattle.bech32_calls.specs.declared.refusal.Refusal.{Refusal}
use Rattle.bech32_calls.specs.declared.refusal.Refusal.TheVariants.{NotUtf8, Hrp}

ascii-from_graphic : (b : ℕ) → is_graphic b ≡ true → b < 128
ascii-from_graphic b h = let parts = and_parts (leb 33 b) (leb b 126) h in omega (arith, leb-true b 126 parts.1)

pub IsAscii-from_graphic : (bytes : List ℕ) → list_all is_graphic bytes ≡ true → IsAscii bytes
IsAscii-from_graphic [] h = IsAscii-nil
IsAscii-from_graphic (b ∷ bs) h =
    let parts = and_parts (is_graphic b) (list_all is_graphic bs) h in
    IsAscii-cons b bs (ascii-from_graphic b parts.0) (IsAscii-from_graphic bs parts.1)

pub IsUtf8-from_hrp : (bytes : List ℕ) → IsHrp bytes → IsUtf8 bytes
IsUtf8-from_hrp bytes is = IsUtf8-from_ascii bytes (IsAscii-from_graphic bytes is.graphic)

pub IsUtf8-from_text : (text hrp data_part : List ℕ) → IsText text hrp data_part → IsUtf8 text
IsUtf8-from_text text hrp data_part is =
    subst IsUtf8 (sym is.split)
    (IsUtf8-append hrp (49 ∷ data_part) (IsUtf8-from_hrp hrp is.is_hrp)
    (IsUtf8-from_ascii (49 ∷ data_part) (IsAscii-cons 49 data_part (omega arith) (IsAscii-from_data data_part is.data_bytes))))

-- nothing is wrong with a human-readable part
pub no_part_fault : (bytes : List ℕ) (e : Refusal) → IsHrp bytes → IsPartFault bytes e → ⊥
no_part_fault bytes NotUtf8 is h = h (IsUtf8-from_hrp bytes is)
no_part_fault bytes (Hrp e) is h = let none = hrp_refusal-none bytes is in let some = h.1 in absurd (cc)
no_part_fault bytes _ is h = h
