-- The words of a checksum, each the one before it times the generator of the field.
use Rattle.std.proofs.Common.{◌≡◌, ◌<◌, ℕ, zero, suc, List, Some, length, get_or, sym, ◌∙◌, ap, arith}
use Rattle.std.specs.Prelude.{slice_get}
use Rattle.std.proofs.lemmas.Option.{slice_get-get_or}
use Rattle.bech32_gf.specs.Field.{power}
use Rattle.bech32_gf.specs.Fe32 as fe32
use Rattle.bech32_gf.specs.laws.Fe32Laws.{is_field}
use Rattle.bech32_checksum.specs.Packed.{digit_of}

module _ (R : Type 0) (number : R → ℕ) (words : List R) (target : R)
    (shift : (i : ℕ) (w v : R) → slice_get words i ≡ Some w → slice_get words (suc i) ≡ Some v
    → (n : ℕ) → digit_of (number v) n ≡ fe32.mul (digit_of (number w) n) fe32.generator) where
  pub word_digit : (i : ℕ) → i < length words → (n : ℕ)
      → digit_of (number (get_or words i target)) n
      ≡ fe32.mul (digit_of (number (get_or words 0 target)) n) (power fe32.ops fe32.generator i)
  unfolding power
  word_digit zero h n = sym (is_field.mul_one (digit_of (number (get_or words 0 target)) n))
  word_digit (suc i) h n =
      let below : i < length words = omega arith in
      let first = digit_of (number (get_or words 0 target)) n in
      shift i (get_or words i target) (get_or words (suc i) target) (slice_get-get_or words i target below) (slice_get-get_or words (suc i) target h) n
      ∙ (ap (λ x. fe32.mul x fe32.generator) (word_digit i below n)
      ∙ (is_field.mul_assoc first (power fe32.ops fe32.generator i) fe32.generator
      ∙ ap (λ x. fe32.mul first x) (is_field.mul_comm (power fe32.ops fe32.generator i) fe32.generator)))
