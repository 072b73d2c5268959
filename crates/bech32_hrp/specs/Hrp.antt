-- Human-readable parts (BIP-173, Bech32): which texts are one, and why another is not.
use Rattle.std.specs.Prelude.{◌≡◌, ℕ, ◌≤◌, Bool, true, false, if◌then◌else◌}
use Rattle.std.specs.Prelude.{◌&&◌, ◌||◌, ◌==◌, nat_lt, nat_le}
use Rattle.std.specs.Prelude.{List, [], ◌∷◌, ◌++◌, ◌-◌, length, replicate, map, Option, Some, None}
use Rattle.std.specs.Char.{to_ascii_lowercase}
use Rattle.std.specs.List.{list_any, list_all}
use Rattle.std.specs.Str.{chars}
use Rattle.bech32_hrp.specs.declared.Error.{Error}
use Rattle.bech32_hrp.specs.declared.Error.TheVariants.{Empty, TooLong, NonAsciiChar}
use Rattle.bech32_hrp.specs.declared.Error.TheVariants.{InvalidAsciiByte, MixedCase}

-- whether a byte is an ASCII lower-case letter
abbrev pub is_lower : ℕ → Bool
is_lower b = nat_le 97 b && nat_le b 122

-- whether a byte is an ASCII upper-case letter
abbrev pub is_upper : ℕ → Bool
is_upper b = nat_le 65 b && nat_le b 90

-- whether a byte may stand in a human-readable part (BIP-173, Bech32)
abbrev pub is_graphic : ℕ → Bool
is_graphic b = nat_le 33 b && nat_le b 126

-- the byte, or `X` where it may not stand in a human-readable part
abbrev pub graphic_or_x : ℕ → ℕ
graphic_or_x b = if is_graphic b then b else 88

-- whether a lower-case letter and an upper-case one stand among the bytes
abbrev pub is_mixed_case : List ℕ → Bool
is_mixed_case bytes = list_any is_lower bytes && list_any is_upper bytes

-- the bytes with each ASCII letter in lower case
abbrev pub lowered : List ℕ → List ℕ
lowered bytes = map to_ascii_lowercase bytes

-- the bytes with zeros behind them, 83 in all
abbrev pub padded : List ℕ → List ℕ
padded bytes = bytes ++ replicate (83 - length bytes) 0

-- the first of two, where there is one
abbrev pub first_of : {A : Type 0} → Option A → Option A → Option A
first_of None o = o
first_of (Some x) o = Some x

-- whether the character is a letter and one of the other case stands before it
abbrev pub bad_case : List ℕ → ℕ → Bool
bad_case before c =
    (is_lower c && list_any is_upper before) || (is_upper c && list_any is_lower before)

-- what is wrong with a character behind those of `before`, if anything
abbrev pub bad_after : List ℕ → ℕ → Option Error
bad_after before c =
    if nat_le 128 c then Some (NonAsciiChar c)
    else (if is_graphic c then (if bad_case before c then Some MixedCase else None)
    else Some (InvalidAsciiByte c))

-- what is wrong with the first bad character of a list, behind those of `before`
unfoldable pub first_bad : List ℕ → List ℕ → Option Error
first_bad before [] = None
first_bad before (c ∷ cs) = first_of (bad_after before c) (first_bad (before ++ c ∷ []) cs)

-- a text of n bytes is empty
abbrev pub empty_fault : ℕ → Option Error
empty_fault n = if n == 0 then Some Empty else None

-- a text of n bytes is too long (BIP-173, Bech32)
abbrev pub length_fault : ℕ → Option Error
length_fault n = if nat_lt 83 n then Some (TooLong n) else None

-- why a text is not a human-readable part: the first fault, in this order
abbrev pub hrp_refusal : List ℕ → Option Error
hrp_refusal text =
    first_of (empty_fault (length text))
    (first_of (length_fault (length text)) (first_bad [] (chars text)))

-- the bytes are a human-readable part: 1 to 83 of them, each from 33 to 126, in
-- one case (BIP-173, Bech32)
pub record IsHrp (bytes : List ℕ) : Type 0 where
  pub not_empty : 1 ≤ length bytes
  pub not_long : length bytes ≤ 83
  pub graphic : list_all is_graphic bytes ≡ true
  pub one_case : is_mixed_case bytes ≡ false
