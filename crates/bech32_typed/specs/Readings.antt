-- How a typed data part may be read. The alphabet has no `1`, `b`, `i` and `o`, since they look
-- like others (BIP-173, section Bech32): who typed one of them meant another.
use Rattle.std.specs.Prelude.{◌/◌, ◌%◌, ◌^◌, ◌==◌, ◌||◌, ℕ, if◌then◌else◌}
use Rattle.std.specs.Prelude.{Bool, List, [], ◌∷◌, length, map}
use Rattle.std.specs.List.{filter, list_any, range_with_len}
use Rattle.bech32_gf.specs.Alphabet.{is_of_alphabet}
use Rattle.bech32_typed.specs.Slips.{unread}

-- `b` looks like `6` or `8`, and `i` like `l` or `j`
abbrev pub looks_like_two : ℕ → Bool
looks_like_two c = (c == 98) || (c == 105)

-- what a character looks like: itself, if it is of the alphabet; `1` like `l`, and `o` like `0`
abbrev pub look : ℕ → ℕ
look c = if is_of_alphabet c then c
    else (if (c == 49) || (c == 105) then 108
    else (if c == 111 then 48
    else (if c == 98 then 54 else unread)))

-- what it looks like too
abbrev pub second_look : ℕ → ℕ
second_look c = if c == 105 then 106 else (if c == 98 then 56 else look c)

-- what a character looks like, of two the first or the second
abbrev pub look_of : Bool → ℕ → ℕ
look_of second c = if second then second_look c else look c

-- how many characters look like two
abbrev pub twos : List ℕ → ℕ
twos text = length (filter looks_like_two text)

-- one reading of the text for each number below 2 ^ twos: a bit of the number chooses for each of
-- these characters, the lowest one for the last
abbrev pub reading_at : List ℕ → ℕ → List ℕ
reading_at [] i = []
reading_at (c ∷ cs) i =
    look_of (i / 2 ^ twos cs % 2 == 1) c ∷ reading_at cs i

-- the text as it looks, in all ways
abbrev pub readings : List ℕ → List (List ℕ)
readings text = map (reading_at text) (range_with_len 0 (2 ^ twos text))

-- a character of the alphabet, or one that cannot be read
abbrev pub plain_look : ℕ → ℕ
plain_look c = if is_of_alphabet c then c else unread

-- the text, where nothing is guessed of characters that are not of the alphabet
abbrev pub plain_reading : List ℕ → List ℕ
plain_reading text = map plain_look text

-- a character that is not of the alphabet looks like one that is
abbrev pub has_look : ℕ → Bool
has_look c = looks_like_two c || ((c == 49) || (c == 111))

abbrev pub has_looks : List ℕ → Bool
has_looks text = list_any has_look text
