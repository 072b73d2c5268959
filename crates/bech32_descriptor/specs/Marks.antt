-- A set of words, kept as bits of cells: each word that is in it is found, and few others are.
use Rattle.std.specs.Prelude.{◌≡◌, ◌-◌, ◌*◌, ◌/◌, ◌%◌, ◌^◌, ℕ, List, bit_and, bit_or, get_or}
use Rattle.std.specs.Prelude.{length}

-- the one of 64 bits that six bits of a word choose
abbrev pub bit_from : ℕ → ℕ → ℕ
bit_from k word = 1 * 2 ^ (word / 2 ^ k % 64) % 2 ^ 64

abbrev pub bits_of : ℕ → ℕ
bits_of word =
    bit_or (bit_or (bit_from 16 word) (bit_from 22 word))
    (bit_or (bit_from 28 word) (bit_from 34 word))

-- the cell of a word has the word's bits
abbrev pub IsMarked : List ℕ → ℕ → Type 0
IsMarked cells word =
    bit_and (get_or cells (bit_and word (length cells - 1)) 0) (bits_of word) ≡ bits_of word

-- all that is marked in the first cells is marked in the second
abbrev pub KeepsMarks : List ℕ → List ℕ → Type 0
KeepsMarks old new = (word : ℕ) → IsMarked old word → IsMarked new word
