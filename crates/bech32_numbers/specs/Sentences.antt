-- The sentences of refusals, by their numbers.
--
-- Made by tools/make from docs/refusals.tsv; do not edit.
use Rattle.std.specs.Prelude.{◌≡◌, ◌≤◌, ℕ, List, [], length, codes, ◌==◌, if◌then◌else◌}
use Rattle.std.specs.Borrow.{Bor}

-- the sentence of a number that both headers have in the same words, empty for any other
abbrev pub common_sentence : ℕ → List ℕ
common_sentence n =
    if n == 2 then codes "a text or a human-readable part is not UTF-8"
    else (if n == 11 then codes "the human-readable part is empty"
    else (if n == 12 then codes "the human-readable part has more than 83 bytes"
    else (if n == 13 then codes "the human-readable part has a character that is not ASCII"
    else (if n == 14 then codes "the human-readable part has a byte that is not from 33 to 126"
    else (if n == 15 then codes "the human-readable part has letters of both cases"
    else (if n == 21 then codes "a character behind the separator may not stand there"
    else (if n == 22 then codes "the text has letters of both cases"
    else (if n == 23 then codes "the text has no separator, `1`"
    else (if n == 33 then codes "the checksum is wrong"
    else (if n == 91 then codes "the lent memory did not suffice"
    else (if n == 92 then codes "a buffer is too small"
    else [])))))))))))

-- the sentence of a number of bech32.h, empty for a number that is none of it
abbrev pub bech32_sentence : ℕ → List ℕ
bech32_sentence n =
    if n == 1 then codes "the row is null"
    else (if n == 4 then codes
    "the number of no checksum, an element above 31, too many errors, or no such rows"
    else (if n == 31 then codes "the text has more than 1023 characters (7089 by a long checksum)"
    else (if n == 32 then codes "too few characters for a checksum stand behind the separator"
    else (if n == 34 then codes "no correction of the data part mends the text"
    else (if n == 41 then codes "the text has more than 90 characters"
    else (if n == 42 then codes "the address has no witness version"
    else (if n == 43 then codes "its witness version is above 16"
    else (if n == 44 then codes "more than four bits stand behind the last whole byte"
    else (if n == 45 then codes "the bits behind the last whole byte are not all zero"
    else (if n == 46 then codes "the program has less than 2 bytes"
    else (if n == 47 then codes "the program has more than 40 bytes"
    else (if n == 48 then codes "in version 0 the program has neither 20 nor 32 bytes"
    else (if n == 49 then codes "the address has another human-readable part than is wanted"
    else (if n == 51 then codes
    "the text would have more than 1023 characters (7089 by a long checksum)"
    else (if n == 52 then codes "the witness version is above 16"
    else (if n == 53 then codes "the address would have more than 90 characters"
    else (if n == 67 then codes "an element is above 31"
    else (if n == 70 then codes
    "a confidential address of another witness version than 0 is not supported"
    else (if n == 79 then codes "a confidential address has less than 33 bytes behind its version"
    else (if n == 80 then codes "a character may not stand in a descriptor, or not in its checksum"
    else (if n == 88 then codes "the text does not end in `#` and eight characters"
    else (if n == 89 then codes
    "the text has more than 7500 characters (1400 for two changes), too many to be mended"
    else common_sentence n))))))))))))))))))))))

-- the sentence of a number of codex32.h, empty for a number that is none of it
abbrev pub codex32_sentence : ℕ → List ℕ
codex32_sentence n =
    if n == 4 then codes
    "there are more than 32 texts, or their lengths do not add up to that of all"
    else (if n == 34 then codes "there is no nearest text"
    else (if n == 56 then codes "there are neither 16 to 44 bytes nor 63 or 64"
    else (if n == 66 then codes "there are not as many random bytes as characters are drawn"
    else (if n == 68 then codes "the random bytes are all equal"
    else (if n == 74 then codes "there are fewer shares than the threshold"
    else (if n == 75 then codes "a share has another threshold, identifier or length than the first"
    else (if n == 76 then codes "two shares have one index"
    else (if n == 77 then codes "the shares contradict each other"
    else (if n == 78 then codes "there are fewer shares than the threshold, or more than 31"
    else (if n == 81 then codes "the human-readable part is not `ms`"
    else (if n == 82 then codes "a codex32 string has 48 to 93 characters, a long one 125 to 127"
    else (if n == 83 then codes "the threshold is neither 0 nor a digit from 2 to 9"
    else (if n == 84 then codes "the threshold is 0, and the share index is not `s`"
    else (if n == 85 then codes "the identifier is not four characters of the alphabet in one case"
    else (if n == 86 then codes "the share index is not one character of the alphabet"
    else (if n == 87 then codes "more than four bits stand behind the bytes of the payload"
    else common_sentence n))))))))))))))))

-- a text is what these sentences say of a number, in at most 100 characters
pub record IsSentence (sentences : ℕ → List ℕ) (number : ℕ) (text : Bor (List ℕ)) : Type 0 where
  pub sentence : text.now ≡ sentences number
  pub short : length (sentences number) ≤ 100
