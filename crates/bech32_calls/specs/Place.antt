-- Where the fault of a text stands, counted in bytes from 0, by the number of its refusal.
use Rattle.std.specs.Prelude.{◌≡◌, ◌<◌, ◌≤◌, ◌⊎◌, ℕ, true, false, encode_utf8}
use Rattle.std.specs.Prelude.{List, ◌∷◌, ◌++◌, length, Some}
use Rattle.std.specs.List.{list_all}
use Rattle.std.specs.Int.{IsInRange}
use Rattle.bech32_gf.specs.Alphabet.{is_of_alphabet, is_data}
use Rattle.bech32_hrp.specs.Hrp.{is_graphic, is_mixed_case, bad_case}
use Rattle.bech32_decode.specs.Text.{split_at_last}

-- the last character that is not of the alphabet begins there: all behind it are of the alphabet
pub record IsLastStranger (text : List ℕ) (place : ℕ) : Type 0 where
  pub before : List ℕ
  pub character : ℕ
  pub behind : List ℕ
  pub split : text ≡ before ++ (encode_utf8 character ++ behind)
  pub place_is : place ≡ length before
  pub stranger : is_of_alphabet character ≡ false
  pub data_behind : is_data behind ≡ true

-- the first letter with one of the other case before it stands there: those before it are in one
-- case
pub record IsFirstOfOtherCase (text : List ℕ) (place : ℕ) : Type 0 where
  pub before : List ℕ
  pub letter : ℕ
  pub behind : List ℕ
  pub split : text ≡ before ++ (letter ∷ behind)
  pub place_is : place ≡ length before
  pub other_case : bad_case before letter ≡ true
  pub one_case_before : is_mixed_case before ≡ false

-- the first byte that may not stand in a human-readable part stands there, and this is wrong with
-- it behind those before it, which are from 33 to 126 and in one case
pub record IsFirstWrong (IsWrong : List ℕ → ℕ → Type 0)
    (hrp : List ℕ) (place : ℕ) : Type 0 where
  pub before : List ℕ
  pub byte : ℕ
  pub behind : List ℕ
  pub split : hrp ≡ before ++ (byte ∷ behind)
  pub place_is : place ≡ length before
  pub wrong : IsWrong before byte
  pub graphic_before : list_all is_graphic before ≡ true
  pub one_case_before : is_mixed_case before ≡ false

-- the byte is not ASCII
abbrev pub IsNotAscii : List ℕ → ℕ → Type 0
IsNotAscii before byte = 128 ≤ byte

-- the byte is ASCII, and not from 33 to 126
abbrev pub IsNotGraphic : List ℕ → ℕ → Type 0
IsNotGraphic before byte = (byte < 128) × (is_graphic byte ≡ false)

-- the byte is a letter with one of the other case before it
abbrev pub IsOfOtherCase : List ℕ → ℕ → Type 0
IsOfOtherCase before byte = bad_case before byte ≡ true

-- the byte is not from 33 to 126, or such a letter
abbrev pub IsUnfit : List ℕ → ℕ → Type 0
IsUnfit before byte = (is_graphic byte ≡ false) ⊎ IsOfOtherCase before byte

-- P holds of what stands before the last `1` of a text
pub record IsOfPart (P : List ℕ → Type 0) (text : List ℕ) : Type 0 where
  pub hrp : List ℕ
  pub data_part : List ℕ
  pub split : split_at_last text ≡ Some (hrp, data_part)
  pub holds : P hrp

-- the place of a fault, by the number of the refusal: of the part its end (11, 12) or the first
-- byte that may not stand there (13 to 15), of the text the character at fault (21, 22) or its
-- length
pub record IsPlace (text : List ℕ) (number place : ℕ) : Type 0 where
  pub empty : number ≡ 11 → IsOfPart (λ hrp. (place ≡ length hrp) × (place ≡ 0)) text
  pub long : number ≡ 12 → IsOfPart (λ hrp. (place ≡ length hrp) × (83 < place)) text
  pub not_ascii : number ≡ 13 → IsOfPart (λ hrp. IsFirstWrong IsNotAscii hrp place) text
  pub not_graphic : number ≡ 14 → IsOfPart (λ hrp. IsFirstWrong IsNotGraphic hrp place) text
  pub part_case : number ≡ 15 → IsOfPart (λ hrp. IsFirstWrong IsOfOtherCase hrp place) text
  pub stranger : number ≡ 21 → IsLastStranger text place
  pub mixed_case : number ≡ 22 → IsFirstOfOtherCase text place
  pub no_separator : number ≡ 23 → place ≡ length text
  pub checksum : IsInRange 31 33 number → place ≡ length text

-- the numbers of refusals whose fault has a place
abbrev pub HasPlace : ℕ → Type 0
HasPlace number = IsInRange 11 15 number ⊎ IsInRange 21 23 number ⊎ IsInRange 31 33 number
