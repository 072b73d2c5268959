-- Texts of the grammar are ASCII.
use Rattle.std.specs.List.{list_all}
use Rattle.std.specs.Str.{IsAscii}
use Rattle.std.proofs.Common.{◌≡◌, ◌<◌, ℕ, zero, suc, true, List, [], ◌∷◌, subst, sym, arith}
use Rattle.std.specs.Prelude.{nat_le}
use Rattle.std.proofs.lemmas.Bool.{and_parts, leb-true}
use Rattle.std.proofs.lemmas.Str.{IsAscii-append}
use Rattle.bech32_hrp.specs.Hrp.{is_graphic}
use Rattle.bech32_decode.specs.Text.{IsText}
use Rattle.bech32_decode.proofs.Letters.{IsAscii-from_data}

ascii_cons : (b : ℕ) (bs : List ℕ) → b < 128 → IsAscii bs → IsAscii (b ∷ bs)
ascii_cons b bs l h zero = l
ascii_cons b bs l h (suc i) = h i

ascii_graphic : (bs : List ℕ) → list_all is_graphic bs ≡ true → IsAscii bs
ascii_graphic [] h = λ i. omega arith
ascii_graphic (b ∷ bs) h =
    let parts = and_parts (is_graphic b) (list_all is_graphic bs) h in
    let most = leb-true b 126 (and_parts (nat_le 33 b) (nat_le b 126) parts.0).1 in
    ascii_cons b bs (omega (arith, most)) (ascii_graphic bs parts.1)

pub ascii_text : (text hrp data_part : List ℕ) → IsText text hrp data_part → IsAscii text
ascii_text text hrp data_part is =
    subst IsAscii (sym is.split) (IsAscii-append hrp (49 ∷ data_part) (ascii_graphic hrp is.is_hrp.graphic) (ascii_cons 49 data_part (omega arith) (IsAscii-from_data data_part is.data_bytes)))
