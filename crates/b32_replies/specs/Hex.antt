-- Bytes as a word: `-` for no bytes, else a pair of hex digits for each.
use Rattle.std.specs.Prelude.{◌≡◌, ◌<◌, ℕ, if◌then◌else◌, List, [], ◌∷◌, All, codes, Option, Some}
use Rattle.std.specs.Result.{result_ok}
use Rattle.std.specs.Str.{bytes_eq}
use Rattle.hex.specs.Hex.{decode_of, encode_lower}

-- each number is a byte, which is less than 256
abbrev pub AreBytes : List ℕ → Type 0
AreBytes numbers = All (λ n. n < 256) numbers

-- the bytes that a word stands for, if any: digits are in either case
abbrev pub bytes_of : List ℕ → Option (List ℕ)
bytes_of word = if bytes_eq word (codes "-") then Some [] else result_ok (decode_of word)

-- the word for bytes, in lower case
abbrev pub hex_of : List ℕ → List ℕ
hex_of [] = codes "-"
hex_of (b ∷ bs) = encode_lower (b ∷ bs)
