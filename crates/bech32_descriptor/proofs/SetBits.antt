-- What is marked in cells stays marked.
use Rattle.std.specs.Prelude.{bit_and, bit_or, set}
use Rattle.std.proofs.Common.{◌≡◌, ◌<◌, ◌-◌, ℕ, List, get_or, length, inl, inr, max, min, sym, ap, ◌∙◌, arith}
use Rattle.std.specs.Int.{bit_at}
use Rattle.std.proofs.lemmas.Bool.{cases_eq}
use Rattle.std.proofs.lemmas.List.{get_or-set_other, get_or-set_same, length-set}
use Rattle.std.proofs.lemmas.Nat.{and_le_r, and_or_self}
use Rattle.std.proofs.lemmas.Nat.Bits.{bit_at_and, bit_at_or, same_from_bits}
use Rattle.bech32_descriptor.specs.Marks.{IsMarked, KeepsMarks, bits_of}

wider : (x y z : ℕ) → min x z ≡ z → min (max x y) z ≡ z
wider x y z h = omega arith

-- bits that a cell has are bits of it with more
kept_bits : (cell more wanted : ℕ) → bit_and cell wanted ≡ wanted → bit_and (bit_or cell more) wanted ≡ wanted
kept_bits cell more wanted h =
    same_from_bits (bit_and (bit_or cell more) wanted) wanted
    (λ i.
    bit_at_and (bit_or cell more) wanted i ∙ ap (λ (x : ℕ). min x (bit_at wanted i)) (bit_at_or cell more i)
    ∙ wider (bit_at cell i) (bit_at more i) (bit_at wanted i) (sym (bit_at_and cell wanted i) ∙ ap (λ (x : ℕ). bit_at x i) h))

-- the cell of a word is one of them
pub cell_within : (cells : List ℕ) (word : ℕ) → 0 < length cells → bit_and word (length cells - 1) < length cells
cell_within cells word some = let most = and_le_r word (length cells - 1) in omega (arith, most, some)

module _ (cells : List ℕ) (word : ℕ) (some : 0 < length cells) where
  abbrev at : ℕ
  at = bit_and word (length cells - 1)

  -- the cells with the word marked
  abbrev pub marked : List ℕ
  marked = set cells at (bit_or (get_or cells at 0) (bits_of word))

  size : length marked ≡ length cells
  size = length-set cells at (bit_or (get_or cells at 0) (bits_of word))

  pub is_marked : IsMarked marked word
  is_marked =
      ap (λ (n : ℕ). bit_and (get_or marked (bit_and word (n - 1)) 0) (bits_of word)) size
      ∙ ap (λ (x : ℕ). bit_and x (bits_of word)) (get_or-set_same cells at (bit_or (get_or cells at 0) (bits_of word)) 0 (cell_within cells word some))
      ∙ and_or_self (bits_of word) (get_or cells at 0)

  pub keeps_marks : KeepsMarks cells marked
  keeps_marks other h =
      let there = bit_and other (length cells - 1) in
      let cell = bit_or (get_or cells at 0) (bits_of word) in
      ap (λ (n : ℕ). bit_and (get_or marked (bit_and other (n - 1)) 0) (bits_of other)) size
      ∙ elim (cases_eq there at) [
        | inl same ↦
            ap (λ (x : ℕ). bit_and x (bits_of other)) (ap (λ (k : ℕ). get_or marked k 0) same ∙ get_or-set_same cells at cell 0 (cell_within cells word some))
            ∙ kept_bits (get_or cells at 0) (bits_of word) (bits_of other) (ap (λ (k : ℕ). bit_and (get_or cells k 0) (bits_of other)) (sym same) ∙ h)
        | inr apart ↦ ap (λ (x : ℕ). bit_and x (bits_of other)) (get_or-set_other cells at there cell 0 apart) ∙ h
      ]
