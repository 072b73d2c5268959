-- The characters of the data part (BIP-173, section Bech32).
use Rattle.std.specs.Prelude.{ℕ, Bool, List, Some, None, codes, ◌==◌}
use Rattle.std.specs.Prelude.{◌<◌, position, unwrap_or, slice_index}
use Rattle.std.specs.List.{list_any, list_all, position_or_len}
use Rattle.std.specs.Char.{to_ascii_lowercase}
use Rattle.std.proofs.Common.{arith, ltb}
use Rattle.std.proofs.lemmas.Bool.{cond_both, ltb-true}

-- the characters of the elements, in order of their values
abbrev pub alphabet : List ℕ
alphabet = codes "qpzry9x8gf2tvdw0s3jn54khce6mua7l"

-- whether a character is of the alphabet, in either case
unfoldable pub is_of_alphabet : ℕ → Bool
is_of_alphabet c = list_any (λ a. a == to_ascii_lowercase c) alphabet

-- the value of a character of the alphabet, in either case (0 of any other)
unfoldable pub value_of : ℕ → ℕ
value_of c = unwrap_or (position (λ a. a == to_ascii_lowercase c) alphabet) 0

pub value_of-lt : (c : ℕ) → value_of c < 32
unfolding value_of
value_of-lt c =
    let n = position_or_len (λ a. a == to_ascii_lowercase c) alphabet in
    cond_both (ltb n 32) (Some n) None
    (λ o. unwrap_or o 0 < 32)
    (λ e. ltb-true n 32 e)
    (λ e. omega arith)

-- the lower-case character of a value below 32
abbrev pub char_of : ℕ → ℕ
char_of v = slice_index alphabet v

-- whether each of some characters is of the alphabet
abbrev pub is_data : List ℕ → Bool
is_data characters = list_all is_of_alphabet characters
